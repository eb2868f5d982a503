use Rattle.std.{proofs.Common.{◌≡◌, ◌++◌, take}, specs.List.flat_map}
use Rattle.npf_ctl.specs.Texts.{insn_text}
use Rattle.npf_ctl.proofs.programs.write_program.Given as goal

abbrev pub invariant-loop-insn : goal.invariant-loop-insn
invariant-loop-insn l = l.into.items ≡ l.initial.into.items ++ flat_map insn_text (take l.insn-index l.insns)
