-- One packet where it passes, as a text: a class of packets that are alike in all that rules ask (npf.conf(5), "Rules"). Only a segment without
-- control bits is written as no class can say it.
use Rattle.std.specs.Prelude.{ℕ, zero, suc, ◌+◌, Bool, ◌==◌, if◌then◌else◌, Option, Some, None, List, [], ◌++◌, codes, length, slice_get}
use Rattle.std.specs.Fmt.{decimal}
use Rattle.std.specs.List.{list_any}
use Rattle.std.specs.Option.{option_map}
use Rattle.std.specs.Str.{bytes_eq}
use Rattle.npf_types.specs.declared.address.Addr.{Addr}
use Rattle.npf_types.specs.declared.direction.Dir.{Dir}
use Rattle.npf_types.specs.declared.direction.Dir.TheVariants.{In, Out}
use Rattle.npf_types.specs.declared.facts.Facts.{Facts}
use Rattle.npf_types.specs.declared.facts.L4.{L4}
use Rattle.npf_types.specs.declared.facts.L4.TheVariants.{Tcp, Icmp, Icmp6}
use Rattle.npf_types.specs.declared.interface.IfId.{IfId}
use Rattle.npf_types.specs.declared.name.Name.{Name}
use Rattle.npf_types.specs.Name.{name_bytes}
use Rattle.npf_model.specs.declared.iface.Iface.{Iface}
use Rattle.npf_model.specs.Describes.{destination_of, source_of}
use Rattle.npf_show.specs.Address.{address_text}
use Rattle.npf_show.specs.Filter.{flag_text}

abbrev pub passing_text : Dir → List ℕ
passing_text In = codes "in on "
passing_text Out = codes "out on "

-- ---- interfaces
abbrev pub is_some_name : List ℕ → List Iface → Bool
is_some_name name ifaces = list_any (λ iface. bytes_eq (name_bytes iface.name) name) ifaces

abbrev pub cap_text : ℕ → List ℕ
cap_text number = codes "cap" ++ decimal number

-- the first of cap0, cap1 and so on, from this number and of so many, that is no interface's name; else the one behind them
abbrev pub free_from : List Iface → ℕ → ℕ → List ℕ
free_from ifaces number zero = cap_text number
free_from ifaces number (suc others) = if is_some_name (cap_text number) ifaces then free_from ifaces (number + 1) others else cap_text number

-- of one more than there are interfaces, the first that is no interface's name
abbrev pub free_text : List Iface → List ℕ
free_text ifaces = free_from ifaces 0 (length ifaces)

-- an interface's number is its place, from 1 on
abbrev pub name_at : List Iface → ℕ → Option Name
name_at ifaces zero = None
name_at ifaces (suc place) = option_map (λ (iface : Iface). iface.name) (slice_get ifaces place)

abbrev pub naming_text : List Iface → Option Name → List ℕ
naming_text ifaces (Some name) = name_bytes name
naming_text ifaces None = free_text ifaces

-- the interface's name, or one that no interface has
abbrev pub interface_text : List Iface → IfId → List ℕ
interface_text ifaces ifid = naming_text ifaces (name_at ifaces ifid.0)

-- ---- what the packet carries
-- all control bits, those that are set first
abbrev pub flags_text : ℕ → List ℕ
flags_text flags = if flags == 0 then codes "none" else flag_text flags ++ codes "/FSRPAUEW"

abbrev pub message_text : ℕ → ℕ → List ℕ
message_text kind code = (codes " icmp-type " ++ decimal kind) ++ (codes " code " ++ decimal code)

abbrev pub carried_text : L4 → List ℕ
carried_text (Tcp sport dport seg mss_at) = codes " flags " ++ flags_text seg.flags
carried_text (Icmp kind code echo) = message_text kind code
carried_text (Icmp6 kind code echo) = message_text kind code
carried_text _ = []

-- ---- ends
abbrev pub port_text : Option ℕ → List ℕ
port_text None = []
port_text (Some port) = codes " port " ++ decimal port

abbrev pub endpoint_text : List ℕ → Addr → Option ℕ → List ℕ
endpoint_text word addr port = word ++ (address_text addr ++ port_text port)

-- the packet with these facts that passes there, of a run with these interfaces
unfoldable pub witness_text : List Iface → Facts → IfId → Dir → List ℕ
witness_text ifaces facts ifid dir =
    passing_text dir ++ (interface_text ifaces ifid ++ ((codes " proto " ++ decimal facts.proto) ++ (carried_text facts.l4
    ++ (endpoint_text (codes " from ") facts.src (source_of facts.l4) ++ endpoint_text (codes " to ") facts.dst (destination_of facts.l4)))))
