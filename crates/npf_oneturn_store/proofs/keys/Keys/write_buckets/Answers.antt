use Rattle.npf_oneturn_store.proofs.KeptLemmas.{kept_unheld}
use Rattle.npf_oneturn_store.proofs.keys.Keys.write_buckets.Goals as goal

pub invariant_of-self-clause-kept : goal.invariant_of-self-clause-kept
invariant_of-self-clause-kept c =
    let s = c.args.self.now in
    kept_unheld s.buckets s.holdings.items s.cells.items s.spilled.items s.kept c.fill.new.items.items c.fill-2.new.items.items (s.unused c.if-self.false)
