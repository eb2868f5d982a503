-- Which packets a rule describes (npf.conf(5), "Rules"), told of what a packet's bytes say and of the addresses of tables as lists of
-- blocks, in the order in which the configuration declares the tables. All are tests, so that a program's value or a walk's answer equals
-- one. A table of a number that isn't there has no addresses, so models that no check accepted are described, too.
-- READ 7 of docs/READING.md
use Rattle.std.specs.Prelude.{ℕ, Bool, true, false, not, ◌==◌, ◌&&◌, nat_le, Option, Some, None, List, [], ◌∷◌, slice_get, bit_and}
use Rattle.std.specs.List.{list_any}
use Rattle.npf_types.specs.declared.address.Addr.{Addr}
use Rattle.npf_types.specs.declared.address.Addr.TheVariants.{V4, V6}
use Rattle.npf_types.specs.declared.decision.Decision.{Decision}
use Rattle.npf_types.specs.declared.decision.Decision.TheVariants.{Pass, Block}
use Rattle.npf_types.specs.declared.direction.Dir.{Dir}
use Rattle.npf_types.specs.declared.facts.Facts.{Facts}
use Rattle.npf_types.specs.declared.facts.L4.{L4}
use Rattle.npf_types.specs.declared.facts.L4.TheVariants.{Tcp, Udp, Icmp, Icmp6}
use Rattle.npf_types.specs.declared.interface.IfId.{IfId}
use Rattle.npf_types.specs.declared.prefix.Prefix.{Prefix}
use Rattle.npf_types.specs.Prefix.{has_address, covers}
use Rattle.npf_model.specs.declared.ends.AddrItem.{AddrItem}
use Rattle.npf_model.specs.declared.ends.AddrItem.TheVariants.{Net, InTable}
use Rattle.npf_model.specs.declared.ends.Ends.{Ends}
use Rattle.npf_model.specs.declared.rule.Rule.{Rule}
use Rattle.npf_model.specs.declared.rule.StateOpt.{StateOpt}
use Rattle.npf_model.specs.declared.rule.StateOpt.TheVariants.{Not, OnInterface, Everywhere}
use Rattle.npf_model.specs.Place.{fits_dir, fits_on}

-- the addresses of each table, as lists of blocks
abbrev pub Tables : Type 0
Tables = List (List Prefix)

-- the family: IPv6 where `true` is asked for, IPv4 where `false` is
abbrev pub is_v6 : Addr → Bool
is_v6 (V4 _) = false
is_v6 (V6 _) = true

abbrev pub fits_family : Option Bool → Addr → Bool
fits_family None addr = true
fits_family (Some true) addr = is_v6 addr
fits_family (Some false) (V4 _) = true
fits_family (Some false) (V6 _) = false

-- the protocol is one of the list, or the list is empty
abbrev pub fits_protocol : List ℕ → ℕ → Bool
fits_protocol [] proto = true
fits_protocol (first ∷ others) proto = list_any (λ listed. listed == proto) (first ∷ others)

-- a segment whose control bits, looked at through the mask, are these (RFC 9293 section 3.1)
abbrev pub shows_flags : L4 → ℕ → ℕ → Bool
shows_flags (Tcp _ _ seg _) wanted mask = bit_and seg.flags mask == wanted
shows_flags _ wanted mask = false

-- what isn't TCP, and of TCP a segment with S and without A, R and F, which opens a connection: S is 2 of S, A, F and R, 23
abbrev pub opens_if_tcp : L4 → Bool
opens_if_tcp (Tcp sport dport seg mss_at) = shows_flags (Tcp sport dport seg mss_at) 2 23
opens_if_tcp _ = true

-- a rule that keeps what it passes and names no flags asks of TCP for a segment that opens a connection
abbrev pub fits_kept : Decision → StateOpt → L4 → Bool
fits_kept (Block _) state l4 = true
fits_kept Pass Not l4 = true
fits_kept Pass OnInterface l4 = opens_if_tcp l4
fits_kept Pass Everywhere l4 = opens_if_tcp l4

abbrev pub fits_flags : Option (ℕ × ℕ) → Decision → StateOpt → L4 → Bool
fits_flags (Some (wanted, mask)) decision state l4 = shows_flags l4 wanted mask
fits_flags None decision state l4 = fits_kept decision state l4

-- a message of this type, and of this code where one is given
abbrev pub is_message : ℕ → Option ℕ → ℕ → ℕ → Bool
is_message asked None kind code = asked == kind
is_message asked (Some number) kind code = asked == kind && number == code

-- ICMP of IPv4 (RFC 792) or of IPv6 (RFC 4443) with the type and code that are asked for, or none is
abbrev pub fits_icmp : Option (ℕ × Option ℕ) → L4 → Bool
fits_icmp None l4 = true
fits_icmp (Some (asked, number)) (Icmp kind code _) = is_message asked number kind code
fits_icmp (Some (asked, number)) (Icmp6 kind code _) = is_message asked number kind code
fits_icmp (Some asked) _ = false

-- some block of the table has the address; a table that isn't there has none
abbrev pub entries_have : Option (List Prefix) → Addr → Bool
entries_have None addr = false
entries_have (Some prefixes) addr = covers prefixes addr

-- the table of this number, counted from 0, has the address
abbrev pub table_has : Tables → ℕ → Addr → Bool
table_has tables number addr = entries_have (slice_get tables number) addr

abbrev pub item_has : Tables → Addr → AddrItem → Bool
item_has tables addr (Net prefix) = has_address prefix addr
item_has tables addr (InTable number) = table_has tables number addr

-- the item can have an address of the family, IPv6 where `true` is asked for: a table can of both
abbrev pub item_allows : Bool → AddrItem → Bool
item_allows v6 (Net prefix) = fits_family (Some v6) prefix.addr
item_allows v6 (InTable number) = true

-- an absent list takes no family away
abbrev pub list_allows : Bool → Option (List AddrItem) → Bool
list_allows v6 None = true
list_allows v6 (Some items) = list_any (item_allows v6) items

-- some item of the list has the address, or, where the list is excluded, some item is of the address's family and none has the address;
-- an absent list has every address
abbrev pub fits_addrs : Bool → Option (List AddrItem) → Tables → Addr → Bool
fits_addrs excluded None tables addr = true
fits_addrs false (Some items) tables addr = list_any (item_has tables addr) items
fits_addrs true (Some items) tables addr = list_allows (is_v6 addr) (Some items) && not (list_any (item_has tables addr) items)

-- the port lies in the range, whose ends belong to it
abbrev pub in_range : ℕ → ℕ × ℕ → Bool
in_range port range = nat_le range.0 port && nat_le port range.1

-- the ports of TCP and UDP (RFC 9293 section 3.1, RFC 768)
abbrev pub source_of : L4 → Option ℕ
source_of (Tcp sport _ _ _) = Some sport
source_of (Udp sport _) = Some sport
source_of _ = None

abbrev pub destination_of : L4 → Option ℕ
destination_of (Tcp _ dport _ _) = Some dport
destination_of (Udp _ dport) = Some dport
destination_of _ = None

-- the packet has ports, and this one lies in some range of the list; an absent list takes every packet
abbrev pub fits_ports : Option (List (ℕ × ℕ)) → Option ℕ → Bool
fits_ports None port = true
fits_ports (Some ranges) None = false
fits_ports (Some ranges) (Some port) = list_any (in_range port) ranges

abbrev pub fits_ends : Ends → Tables → Addr → Option ℕ → Bool
fits_ends ends tables addr port = fits_addrs ends.excluded ends.addrs tables addr && fits_ports ends.ports port

-- the packet part: all that a rule says but for direction and interface
abbrev pub describes_packet : Rule → Tables → Facts → Bool
describes_packet rule tables facts =
    fits_family rule.v6 facts.src
    && fits_protocol rule.protos facts.proto
    && fits_flags rule.flags rule.decision rule.state facts.l4
    && fits_icmp rule.icmp facts.l4
    && fits_ends rule.from tables facts.src (source_of facts.l4)
    && fits_ends rule.to tables facts.dst (destination_of facts.l4)

-- the rule describes the packet where it passes
abbrev pub describes : Rule → Tables → Facts → IfId → Dir → Bool
describes rule tables facts ifid dir = fits_dir rule.dir dir && fits_on rule.on ifid && describes_packet rule tables facts
