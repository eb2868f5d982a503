use Rattle.std.proofs.Common.{◌≡◌, ◌*◌, ◌≤◌, take}
use Rattle.npf_ruleset.specs.Flat.{instructions}
use Rattle.npf_ruleset.proofs.builder.instructions.Given as goal

abbrev pub invariant-loop-program : goal.invariant-loop-program
invariant-loop-program l = (l.total ≡ instructions (take l.program-index l.programs)) × (l.total ≤ 4096 * l.program-index)
