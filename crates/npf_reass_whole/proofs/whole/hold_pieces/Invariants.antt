use Rattle.std.proofs.Common.{◌≡◌, drop}
use Rattle.npf_reass_whole.specs.Run.{with_held}
use Rattle.npf_reass_whole.proofs.whole.hold_pieces.Given as goal

abbrev pub invariant-loop-arrived : goal.invariant-loop-arrived
invariant-loop-arrived l = with_held l.why (drop l.arrived-index l.pieces) l.packets ≡ with_held l.why l.pieces l.initial.packets
