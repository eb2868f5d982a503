use Rattle.npf_products.proofs.SetsLemmas.{set_added}
use Rattle.npf_products.proofs.sets.add_set.Goals as goal

pub returns-clause-below : goal.returns-clause-below
returns-clause-below c =
    (set_added c.args.sets.now.ranges.items c.add_ranges.new.ranges.items c.args.sets.now.count c.args.own.now c.requires.below c.in_ok-add_ranges.ensures).below

pub returns-clause-grows : goal.returns-clause-grows
returns-clause-grows c =
    (set_added c.args.sets.now.ranges.items c.add_ranges.new.ranges.items c.args.sets.now.count c.args.own.now c.requires.below c.in_ok-add_ranges.ensures).grows

pub returns-clause-set : goal.returns-clause-set
returns-clause-set c =
    (set_added c.args.sets.now.ranges.items c.add_ranges.new.ranges.items c.args.sets.now.count c.args.own.now c.requires.below c.in_ok-add_ranges.ensures).set
