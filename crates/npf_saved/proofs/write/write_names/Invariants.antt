use Rattle.std.proofs.Common.{◌≡◌, ◌++◌, List, ℕ, drop}
use Rattle.npf_saved.specs.File.{name_lines}
use Rattle.npf_saved.proofs.write.write_names.Given as goal

abbrev pub invariant-loop-name : goal.invariant-loop-name
invariant-loop-name l = l.fn.into.items ++ name_lines l.names ≡ l.into.items ++ name_lines (drop l.name-index l.names)
