use Rattle.std.proofs.Common.{◌≡◌, length}
use Rattle.npf_lpm.specs.Rows.{AreTops}
use Rattle.npf_lpm.proofs.rows.renew.Given as goal

abbrev pub invariant-loop-place : goal.invariant-loop-place
invariant-loop-place l = (length l.outermost.items ≡ length l.firsts) × AreTops l.firsts l.lengths l.outermost.items l.place
