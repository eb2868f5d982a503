use Rattle.std.proofs.Common.{arith}
use mathlib.Core.Option.{none}
use Rattle.atomic_table.specs.Table.{step}
use Rattle.npf_reass.proofs.EndLemmas.{end_turn}
use Rattle.npf_reass.proofs.turn.end_as.Goals as goal

pub store-requires : goal.store-requires
store-requires g c = (
  c.requires.of.same,
  omega (arith, c.requires.of.words, c.requires.inside),
  rw c.requires.aim (end_turn c.args.words.now.key _ _ c.args.class c.args.offered (step 0 0 0 0 none) _ c.requires.of.slots c.requires.may),
)
