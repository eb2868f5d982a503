use Rattle.std.proofs.Common.{ap, Some, ◌∙◌}
use Rattle.npf_oneturn_store.proofs.HomeLemmas.{holder_here}
use Rattle.npf_oneturn_store.proofs.keys.Keys.held.Goals as goal

pub returns-in-Some-clause-some : goal.returns-in-Some-clause-some
returns-in-Some-clause-some c =
    let s = c.args.self.now in
    holder_here s.buckets s.holdings.items s.cells.items s.spilled.items s.kept _ c.in-Some.holding c.in-Some.ensures.some ∙ ap (λ found. Some found) c.in-Some.ensures.own
