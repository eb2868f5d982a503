use Rattle.std.proofs.Common.{◌≡◌, ◌||◌, ℕ, List, drop}
use Rattle.npf_check.specs.Name.{holds, is_given}
use Rattle.npf_check.proofs.name.names_given.Given as goal

abbrev pub invariant-loop-stmt : goal.invariant-loop-stmt
invariant-loop-stmt l = (text : List ℕ) → is_given l.kind l.stmts text ≡ (holds l.names text || is_given l.kind (drop l.stmt-index l.stmts) text)
