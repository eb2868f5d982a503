use Rattle.std.proofs.Common.{All, take}
use Rattle.npf_traffic.specs.Packet.{IsShortPacket}
use Rattle.npf_runner_tests.proofs.run.are_short.Given as goal

abbrev pub invariant-loop-packet : goal.invariant-loop-packet
invariant-loop-packet l = All IsShortPacket (take l.packet-index l.packets)
