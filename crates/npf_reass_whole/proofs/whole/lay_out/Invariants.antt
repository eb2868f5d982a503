use Rattle.std.proofs.Common.{take}
use Rattle.npf_pieces.specs.Datagrams.{laid_out}
use Rattle.npf_reass_whole.specs.Run.{LaysOut, all_sets}
use Rattle.npf_reass_whole.proofs.whole.lay_out.Given as goal

abbrev pub invariant-loop-class : goal.invariant-loop-class
invariant-loop-class l = LaysOut l.packets (all_sets (take l.class-index l.classes)) (laid_out l.datagrams)
