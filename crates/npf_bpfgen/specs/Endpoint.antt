-- The two ends between which a packet goes: what is told of each, and where it stands in the packet.
use Rattle.std.specs.Prelude.{ℕ, ◌+◌, ◌^◌, Option}
use Rattle.npf_types.specs.declared.address.Addr.{Addr}
use Rattle.npf_types.specs.declared.facts.Facts.{Facts}
use Rattle.npf_types.specs.declared.facts.L4.{L4}
use Rattle.npf_model.specs.Describes.{source_of, destination_of}
use Rattle.npf_packet.specs.Field.{ipv4_source, ipv4_destination, ipv6_source, ipv6_destination, l4_source_port, l4_destination_port}
use Rattle.npf_bpfgen.specs.declared.endpoint.Endpoint.{Endpoint}
use Rattle.npf_bpfgen.specs.declared.endpoint.Endpoint.TheVariants.{Source, Destination}

abbrev pub address_of : Endpoint → Facts → Addr
address_of Source facts = facts.src
address_of Destination facts = facts.dst

-- the port, where the packet has ports
abbrev pub port_of : Endpoint → L4 → Option ℕ
port_of Source l4 = source_of l4
port_of Destination l4 = destination_of l4

-- the offset of the address in the header of IPv4, and of IPv6
abbrev pub ipv4_place : Endpoint → ℕ
ipv4_place Source = ipv4_source
ipv4_place Destination = ipv4_destination

abbrev pub ipv6_place : Endpoint → ℕ
ipv6_place Source = ipv6_source
ipv6_place Destination = ipv6_destination

-- the offset of the port behind layer 4's
abbrev pub port_place : Endpoint → ℕ
port_place Source = l4_source_port
port_place Destination = l4_destination_port

-- what function 1 is asked for: the top bit says that the source is meant
abbrev pub asked_table : Endpoint → ℕ → ℕ
asked_table Source table = table + 2 ^ 31
asked_table Destination table = table
