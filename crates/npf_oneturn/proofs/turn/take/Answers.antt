use Rattle.std.proofs.Common.{◌∙◌, subst, sym, arith}
use Rattle.npf_oneturn.{specs.Taking.IsResting, proofs.TakeLemmas.try_turn}
use Rattle.npf_oneturn.proofs.turn.take.Goals as goal

pub compare_exchange-requires : goal.compare_exchange-requires
compare_exchange-requires g c = (
  c.loop.invariant.2 ∙ c.requires.of.same,
  omega (arith, c.requires.of.words),
  try_turn g.L.Law.meaning _ _ _ _ _ c.requires.of.slots (subst IsResting (sym c.loop.invariant.4) c.requires.rests),
)
