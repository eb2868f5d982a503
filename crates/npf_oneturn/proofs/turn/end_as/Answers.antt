use Rattle.std.proofs.Common.{arith}
use mathlib.Core.Option.{none}
use Rattle.atomic_table.specs.Table.{step}
use Rattle.npf_oneturn.proofs.EndLemmas.{end_turn}
use Rattle.npf_oneturn.proofs.turn.end_as.Goals as goal

pub store-requires : goal.store-requires
store-requires g c = (
  c.requires.of.same,
  omega (arith, c.requires.of.words),
  rw c.requires.aim (end_turn g.L.Law.meaning _ c.args.ending (step 0 0 0 0 none) _ _ _ c.requires.of.slots c.requires.may),
)
