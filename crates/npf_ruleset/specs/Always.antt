-- Programs that describe every packet, whatever a coprocessor tells of it.
use Rattle.std.specs.Prelude.{◌≡◌, ℕ, List}
use Rattle.npf_bpf.specs.declared.insn.Insn.{Insn}
use Rattle.npf_bpf.specs.Coprocessor.{Coprocessor}
use Rattle.npf_bpf.specs.Value.{program_value}

abbrev pub DescribesAll : List Insn → Type 0
DescribesAll program = (packet : List ℕ) (cop : Coprocessor) → program_value program packet cop ≡ 4294967295
