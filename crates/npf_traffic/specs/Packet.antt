-- How many bytes a packet may have.
use Rattle.std.specs.Prelude.{◌≤◌, length}
use Rattle.npf_types.specs.declared.limits.TheConstants.{MAX_PACKET_BYTES}
use Rattle.npf_traffic.specs.declared.packet.Packet.{Packet}

abbrev pub IsShortPacket : Packet → Type 0
IsShortPacket packet = length packet.bytes ≤ MAX_PACKET_BYTES
