use Rattle.std.{proofs.Common.{◌≡◌, drop}, specs.Str.bytes_eq}
use Rattle.npf_model.specs.Verdict.{first_where}
use Rattle.npf_config_reload.specs.Taken.{procedure_in}
use Rattle.npf_config_reload.proofs.again.procedure_in.Given as goal

abbrev pub invariant-loop-at : goal.invariant-loop-at
invariant-loop-at l = procedure_in l.file l.procedure ≡ first_where (λ other. bytes_eq other.name l.procedure.name) l.at (drop l.at l.file.procedures)
