use Rattle.std.proofs.Common.{◌≡◌, ◌-◌, length}
use Rattle.npf_witness.specs.WitnessText.{free_from, free_text}
use Rattle.npf_witness.proofs.interface.free_text.Given as goal

-- the earlier ones are names
abbrev pub invariant-loop-number : goal.invariant-loop-number
invariant-loop-number l = free_text l.ifaces ≡ free_from l.ifaces l.number (length l.ifaces - l.number)
