-- What a packet's facts are after a translation, and from the other end of its connection (npf.conf(5), "Map"; RFC 3022).
use Rattle.std.specs.Prelude.{ℕ, Bool, true, false, if◌then◌else◌, Option, Some, None}
use Rattle.npf_types.specs.declared.address.Addr.{Addr}
use Rattle.npf_types.specs.declared.address.Addr.TheVariants.{V4, V6}
use Rattle.npf_types.specs.declared.facts.Facts.{Facts}
use Rattle.npf_types.specs.declared.facts.L4.{L4}
use Rattle.npf_types.specs.declared.facts.L4.TheVariants.{Tcp, Udp, Icmp, Icmp6, Other}
use Rattle.npf_types.specs.declared.change.Change.{Change}
use Rattle.npf_types.specs.declared.change.End.{End}

-- two addresses are of one family
abbrev pub shares_family : Addr → Addr → Bool
shares_family (V4 _) (V4 _) = true
shares_family (V6 _) (V6 _) = true
shares_family (V4 _) (V6 _) = false
shares_family (V6 _) (V4 _) = false

-- the end that a change names, where its address is of the packet's family: an end of the other family names nothing
abbrev pub fitting : Addr → Option End → Option End
fitting addr (Some end) = if shares_family end.addr addr then Some end else None
fitting _ None = None

-- the address that an end of a packet then has
abbrev pub address_there : Option End → Addr → Addr
address_there (Some end) _ = end.addr
address_there None addr = addr

-- the port that a change names for an end, if it names one
abbrev pub named_port : Option End → Option ℕ
named_port (Some end) = end.port
named_port None = None

-- what stands at a port or as an identifier after the change
abbrev pub port_there : Option ℕ → ℕ → ℕ
port_there (Some port) _ = port
port_there None port = port

-- an echo has one identifier, and either side's port names it: the source's where both do
abbrev pub echo_there : Option ℕ → Option ℕ → Option ℕ → Option ℕ
echo_there sport dport (Some identifier) = Some (port_there sport (port_there dport identifier))
echo_there _ _ None = None

-- what the packet carries after the ports are written: one without ports and identifier takes none
abbrev pub l4_there : Option ℕ → Option ℕ → L4 → L4
l4_there s d (Tcp sport dport seg mss_at) = Tcp (port_there s sport) (port_there d dport) seg mss_at
l4_there s d (Udp sport dport) = Udp (port_there s sport) (port_there d dport)
l4_there s d (Icmp kind code echo) = Icmp kind code (echo_there s d echo)
l4_there s d (Icmp6 kind code echo) = Icmp6 kind code (echo_there s d echo)
l4_there _ _ Other = Other

-- the packet after both ends are written
abbrev pub with_ends : Option End → Option End → Facts → Facts
with_ends src dst facts = record facts {
  src = address_there src facts.src;
  dst = address_there dst facts.dst;
  l4 = l4_there (named_port src) (named_port dst) facts.l4;
}

-- the facts of the translated packet. Its family is that of the source
abbrev pub facts_there : Change → Facts → Facts
facts_there there facts = with_ends (fitting facts.src there.src) (fitting facts.src there.dst) facts

-- what the packet carries with its ports changed about; an echo keeps its identifier
abbrev pub l4_about : L4 → L4
l4_about (Tcp sport dport seg mss_at) = Tcp dport sport seg mss_at
l4_about (Udp sport dport) = Udp dport sport
l4_about (Icmp kind code echo) = Icmp kind code echo
l4_about (Icmp6 kind code echo) = Icmp6 kind code echo
l4_about Other = Other

-- the packet with source and destination changed about, addresses and ports
abbrev pub about : Facts → Facts
about facts = record facts { src = facts.dst; dst = facts.src; l4 = l4_about facts.l4 }
