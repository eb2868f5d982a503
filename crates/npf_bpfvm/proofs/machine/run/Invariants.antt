-- The value from here on is the program's.
use Rattle.std.proofs.Common.{◌≡◌, ◌-◌, ◌<◌, length}
use Rattle.npf_bpf.specs.Value.{value_from, program_value}
use Rattle.npf_bpfvm.specs.Machine.{bpf_state}
use Rattle.npf_bpfvm.proofs.machine.run.Given as goal

abbrev pub invariant-steps : goal.invariant-steps
invariant-steps g l =
    let cop = g.C.Cop.tells l.cop in
    record {
      within : l.at < length l.insns;
      same : value_from l.insns l.at (bpf_state l.registers) l.packet cop ≡ program_value l.insns
          l.packet cop;
    }

abbrev pub decreases-steps : goal.decreases-steps
decreases-steps g l = length l.insns - l.at
