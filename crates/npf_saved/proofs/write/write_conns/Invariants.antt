use Rattle.std.proofs.Common.{◌≡◌, ◌++◌, List, ℕ, drop}
use Rattle.npf_saved.specs.File.{conn_lines}
use Rattle.npf_saved.proofs.write.write_conns.Given as goal

abbrev pub invariant-loop-saved : goal.invariant-loop-saved
invariant-loop-saved l = l.fn.into.items ++ conn_lines l.conns ≡ l.into.items ++ conn_lines (drop l.saved-index l.conns)
