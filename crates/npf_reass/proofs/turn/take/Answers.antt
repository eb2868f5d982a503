use Rattle.std.proofs.Common.{◌∙◌, subst, sym, arith}
use Rattle.atomic_table.specs.Table.{Me}
use Rattle.npf_reass.specs.{declared.{offer.Gathered.Gathered, view.ReassView.ReassView}, Passes.IsRestingPass, Turn.HasTakenClass}
use Rattle.npf_reass.proofs.TakeLemmas.{try_turn}
use Rattle.npf_reass.proofs.turn.take.Goals as goal

pub compare_exchange-requires : goal.compare_exchange-requires
compare_exchange-requires g c = (
  c.loop.invariant.2 ∙ c.requires.of.same,
  omega (arith, c.requires.of.words, c.requires.inside),
  try_turn c.args.words.now.key _ _ c.args.class _ c.requires.inside (subst (IsRestingPass c.args.words.now.key) (sym c.loop.invariant.4) c.requires.rests),
)

pub returns-then-compare_exchange-eq-FREE-clause-taken : goal.returns-then-compare_exchange-eq-FREE-clause-taken
returns-then-compare_exchange-eq-FREE-clause-taken g c =
    subst (λ (y : Me Gathered ReassView). HasTakenClass y.0 c.args.class c.compare_exchange.new.seat.me) c.loop.invariant.4 (c.compare_exchange.ensures.2.won (omega arith))
