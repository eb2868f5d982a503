use Rattle.std.{proofs.Common.take, specs.Prelude.All}
use Rattle.npf_pieces.specs.Datagram.{HasDataAt}
use Rattle.npf_pieces.proofs.datagram.put_data.Given as goal

abbrev pub invariant-loop-arrived : goal.invariant-loop-arrived
invariant-loop-arrived l = All (HasDataAt l.packets l.carried) (take l.arrived-index l.set)
