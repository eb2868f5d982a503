use Rattle.std.proofs.Common.{Ok, ap}
use Rattle.npf_search.proofs.RegionLemmas.{known_more, narrowed, none_left}
use Rattle.npf_search.proofs.region.Region.narrow.Goals as goal

pub returns-clause-cells : goal.returns-clause-cells
returns-clause-cells c = λ cell.
    let words = rw c.in-Some.is at c.in_ok-words.ensures.cells in
    narrowed c.args.boxes.now c.args.self.now c.args.decider cell (record { words = c.in-Some.words; before = c.in_ok-before.before }) (words cell) c.in_ok-before.ensures

pub returns-clause-of : goal.returns-clause-of
returns-clause-of c =
    let whole = rw c.in-Some.is at c.in_ok-words.ensures.whole in
    record {
      whole = whole;
      known = known_more c.args.boxes.now c.args.self.now.before.items c.in_ok-before.before.items c.args.decider c.requires.of.known c.requires.known c.in_ok-before.ensures;
    }

pub returns-in_default-clause-none : goal.returns-in_default-clause-none
returns-in_default-clause-none c = λ _ cell.
    none_left c.args.boxes.now c.args.self.now c.args.decider cell (c.in_ok-words.ensures.none (ap Ok c.in_default.is) cell)
