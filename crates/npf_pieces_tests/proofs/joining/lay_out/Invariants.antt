use Rattle.std.proofs.Common.{◌<◌, All, length}
use Rattle.npf_pieces.specs.Datagrams.{laid_out}
use Rattle.npf_pieces_tests.proofs.joining.lay_out.Given as goal

abbrev pub invariant-loop-set : goal.invariant-loop-set
invariant-loop-set l = All (λ d. d.place < length l.packets) (laid_out l.datagrams)
