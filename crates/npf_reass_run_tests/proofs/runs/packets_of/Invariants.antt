use Rattle.std.proofs.Common.{All}
use Rattle.npf_traffic.specs.Packet.{IsShortPacket}
use Rattle.npf_reass_run_tests.proofs.runs.packets_of.Given as goal

abbrev pub invariant-loop-bytes : goal.invariant-loop-bytes
invariant-loop-bytes l = All IsShortPacket l.packets.items
