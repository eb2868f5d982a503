use Rattle.std.proofs.Common.{◌≡◌, map, take}
use Rattle.npf_config_reload.specs.Taken.{procedure_in}
use Rattle.npf_config_reload.proofs.again.procedures_in.Given as goal

abbrev pub invariant-loop-procedure : goal.invariant-loop-procedure
invariant-loop-procedure l = l.places.items ≡ map (procedure_in l.file) (take l.procedure-index l.procedures)
