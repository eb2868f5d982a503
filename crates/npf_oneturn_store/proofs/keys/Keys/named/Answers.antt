use Rattle.std.proofs.Common.{sym, ◌∙◌}
use Rattle.npf_oneturn_store.proofs.HomeLemmas.{holder_found}
use Rattle.npf_oneturn_store.proofs.keys.Keys.named.Goals as goal

pub returns-in-Some-clause-some : goal.returns-in-Some-clause-some
returns-in-Some-clause-some c =
    let s = c.args.self.now in
    holder_found s.buckets s.holdings.items s.cells.items s.spilled.items s.kept _ c.args.key c.in-Some.found (sym c.found.ensures ∙ c.in-Some.is)
