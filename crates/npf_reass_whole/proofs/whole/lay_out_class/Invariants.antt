use Rattle.std.proofs.Common.{take, map}
use Rattle.npf_pieces.specs.{Datagrams.laid_out, Sets.set_at}
use Rattle.npf_reass_whole.specs.Run.{AddsDatagrams}
use Rattle.npf_reass_whole.proofs.whole.lay_out_class.Given as goal

abbrev pub invariant-loop-set : goal.invariant-loop-set
invariant-loop-set l =
    AddsDatagrams l.packets (map (set_at l.class.arrived.items) (take l.set-index l.class.sets.items)) (laid_out l.initial.datagrams) (laid_out l.datagrams)
