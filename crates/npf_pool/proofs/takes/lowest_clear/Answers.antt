use Rattle.std.{proofs.{Common.{◌∙◌, ap, arith}, lemmas.Nat.Bits.bit_at-trailing_ones}, specs.Int.{bit_at, w64}}
use Rattle.npf_pool.proofs.takes.lowest_clear.Goals as goal

pub returns-clause-clear : goal.returns-clause-clear
returns-clause-clear c = ap (bit_at c.args.found) c.trailing_ones.ensures ∙ (bit_at-trailing_ones w64 c.args.found (omega (arith, c.requires, c.ranges.found.fits))).1
