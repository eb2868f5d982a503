use Rattle.std.proofs.Common.{◌≡◌, map}
use Rattle.std.specs.List.{range_with_len}
use Rattle.npf_unused.specs.declared.usable.Usable.TheVariants.{Procedure}
use Rattle.npf_unused.specs.Unused.{is_used}
use Rattle.npf_unused.proofs.procedure.procedures_used.Given as goal

abbrev pub invariant-loop-place : goal.invariant-loop-place
invariant-loop-place l = l.used.items ≡ map (λ place. is_used l.model (Procedure place)) (range_with_len 0 l.place)
