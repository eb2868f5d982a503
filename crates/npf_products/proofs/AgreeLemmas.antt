-- What conditions ask, in the words of rules and maps.
use Rattle.std.proofs.Common.{◌≡◌, ◌≢◌, ◌<◌, ℕ, ◌+◌, ◌^◌, Bool, true, false, ◌&&◌, ◌||◌, ◌==◌, ◌⊎◌, not, Option}
use Rattle.std.proofs.Common.{Some, None, List, [], ◌∷◌, map, length, get_or, refl, sym, ap, ◌∙◌, inl, inr, arith}
use Rattle.std.specs.List.{list_any}
use Rattle.std.specs.Prelude.{bit_and}
use Rattle.std.proofs.lemmas.Bool.{and_parts, and_right, cases_eq, eq-eqb, ne_eqb}
use Rattle.npf_types.specs.declared.{direction.Dir.{Dir, TheVariants.{In, Out}}, facts.Facts.Facts}
use Rattle.npf_types.specs.declared.{interface.IfId.IfId, prefix.Prefix.Prefix, decision.Decision.{Decision, TheVariants.{Pass, Block}}}
use Rattle.npf_types.specs.declared.address.Addr.{Addr, TheVariants.{V4, V6}}
use Rattle.npf_types.specs.Prefix.{has_address}
use Rattle.npf_possible.specs.Possible.{AreAddresses}
use Rattle.npf_model.specs.declared.{ends.AddrItem.AddrItem, rule.{OnIf.OnIf, StateOpt.{StateOpt, TheVariants.{Not, OnInterface, Everywhere}}}}
use Rattle.npf_model.specs.Describes.{Tables, fits_addrs, fits_family, fits_kept, fits_ports, fits_protocol, is_v6, item_has, opens_if_tcp, shows_flags}
use Rattle.npf_model.specs.MapOf.{fits_side_port}
use Rattle.npf_model.specs.Place.{is_dir, is_on}
use Rattle.npf_products.specs.declared.{condition.Condition.Condition, ends.WhichEnd.{WhichEnd, TheVariants.{Source, Destination}}, kind.PacketKind.PacketKind, tables.TableSpan.TableSpan}
use Rattle.npf_products.specs.Adds.{constant, equals_number, lies_in}
use Rattle.npf_products.specs.Condition.{Ranges, fits, has_number, prefix_range, some_has, table_ranges, unless_excluded}
use Rattle.npf_products.specs.End.{HasItems, address_at, address_dimension, item_has_number, may_hold, port_at, port_dimension, own_tables}
use Rattle.npf_products.specs.Kind.{carried_of, family_of, has_flags, has_port_numbers, is_inet6_family, kind_protocol}
use Rattle.npf_products.specs.Number.{IsPacketOfKind, address_value, first_value, first_place, numbers_of, place_of}
use Rattle.npf_products.specs.Rule.{keeps_passed, family_allows}
use Rattle.npf_boxes.proofs.CellLemmas.{or_none}
use Rattle.npf_products.proofs.AddsLemmas.{Agree, and_keep}
use Rattle.npf_products.proofs.BlockLemmas.{items_same, prefix_has}
use Rattle.npf_products.proofs.KindLemmas.{allows_family, carried_is, destination_ports, family_is, first_is, flags_of, opens_other, opens_segment, protocol_is, source_ports, version_is}
use Rattle.npf_products.proofs.RangeLemmas.{over, single, singles, under, within}

-- ---- the place
place_in : (asked : Dir) (ifid : IfId) (dir : Dir) → ifid.0 < 2 ^ 16
    → has_number ((first_place asked, first_place asked + 65535) ∷ []) (place_of ifid dir) ≡ is_dir asked dir
place_in In ifid In small = or_none _ false refl ∙ within 0 65535 ifid.0 (omega arith) (omega arith)
place_in In ifid Out small = or_none _ false refl ∙ over 0 65535 (2 ^ 16 + ifid.0) (omega arith)
place_in Out ifid In small = or_none _ false refl ∙ under 65536 131071 ifid.0 (omega arith)
place_in Out ifid Out small = or_none _ false refl ∙ within 65536 131071 (2 ^ 16 + ifid.0) (omega arith) (omega arith)

pub direction_agrees : (kind : PacketKind) (asked : Dir) → Agree kind (lies_in 0 ((first_place asked, first_place asked + 65535) ∷ [])) (λ tables facts ifid dir. is_dir asked dir)
direction_agrees kind asked = λ tables facts ifid dir packet. place_in asked ifid dir packet.interface

same_sum : (n i : ℕ) → (65536 + n == 65536 + i) ≡ (n == i)
same_sum n i = elim (cases_eq n i) [
  | inl same ↦ eq-eqb (65536 + n) (65536 + i) (omega arith) ∙ sym (eq-eqb n i same)
  | inr other ↦ ne_eqb (65536 + n) (65536 + i) (λ e. other (omega arith)) ∙ sym (ne_eqb n i other)
]

place_on : (n : ℕ) (ifid : IfId) (dir : Dir) → n < 2 ^ 16 → ifid.0 < 2 ^ 16
    → has_number ((n, n) ∷ (65536 + n, 65536 + n) ∷ []) (place_of ifid dir) ≡ (n == ifid.0)
place_on n ifid In low small =
    let i : ℕ = ifid.0 in
    ap (λ b. b || has_number ((65536 + n, 65536 + n) ∷ []) i) (single n i)
    ∙ ap (λ b. (n == i) || b) (or_none _ false refl ∙ under (65536 + n) (65536 + n) i (omega arith)) ∙ or_none (n == i) false refl
place_on n ifid Out low small =
    let i : ℕ = ifid.0 in
    ap (λ b. b || has_number ((65536 + n, 65536 + n) ∷ []) (2 ^ 16 + i)) (over n n (2 ^ 16 + i) (omega arith))
    ∙ or_none _ false refl ∙ single (65536 + n) (65536 + i) ∙ same_sum n i

pub on_agrees : (kind : PacketKind) (on : OnIf) (n : ℕ) → on.id.0 ≡ n → n < 2 ^ 16 → n ≢ 0
    → Agree kind (lies_in 0 ((n, n) ∷ (65536 + n, 65536 + n) ∷ [])) (λ tables facts ifid dir. is_on on ifid)
on_agrees kind on n is low some = λ tables facts ifid dir packet.
    place_on n ifid dir low packet.interface
    ∙ sym (and_keep (n == ifid.0) (not (n == 0)) (ap not (ne_eqb n 0 some)))
    ∙ ap (λ k. k == ifid.0 && not (k == 0)) (sym is)

pub on_none : (kind : PacketKind) (on : OnIf) (n : ℕ) → on.id.0 ≡ n → n ≡ 0 → Agree kind (constant false) (λ tables facts ifid dir. is_on on ifid)
on_none kind on n is zero' = λ tables facts ifid dir packet.
    sym (and_right (on.id.0 == ifid.0) (not (on.id.0 == 0)) (ap not (eq-eqb on.id.0 0 (is ∙ zero'))))

-- ---- family and protocol
pub family_agrees : (kind : PacketKind) (v6 : Option Bool) → Agree kind (constant (family_allows v6 kind.family)) (λ tables facts ifid dir. fits_family v6 facts.src)
family_agrees kind v6 = λ tables facts ifid dir packet. ap (family_allows v6) (sym (family_is kind facts ifid packet)) ∙ allows_family v6 facts.src

abbrev known_of : (kind : PacketKind) → Option ℕ
known_of kind = kind_protocol kind.family kind.carried

known_is : (kind : PacketKind) (facts : Facts) (ifid : IfId) (known : Option ℕ) → IsPacketOfKind kind facts ifid → known_of kind ≡ known
    → kind_protocol (family_of facts.src) (carried_of facts.l4) ≡ known
known_is kind facts ifid known packet is = ap known_of packet.of_kind ∙ is

pub listed : (protos : List ℕ) (proto : ℕ) → length protos ≢ 0 → fits_protocol protos proto ≡ list_any (λ l. l == proto) protos
listed [] proto some = absurd (some refl)
listed (first ∷ others) proto some = refl

pub protocol_known : (kind : PacketKind) (protos : List ℕ) (known : ℕ) → known_of kind ≡ Some known → length protos ≢ 0
    → Agree kind (constant (list_any (λ l. l == known) protos)) (λ tables facts ifid dir. fits_protocol protos facts.proto)
protocol_known kind protos known is some = λ tables facts ifid dir packet.
    ap (λ p. list_any (λ l. l == p) protos) (protocol_is facts.src facts.proto facts.l4 known packet.possible.protocol (known_is kind facts ifid (Some known) packet is))
    ∙ sym (listed protos facts.proto some)

pub protocol_unknown : (kind : PacketKind) (protos : List ℕ) → known_of kind ≡ None → length protos ≢ 0
    → Agree kind (lies_in 3 (map (λ n. (n, n)) protos)) (λ tables facts ifid dir. fits_protocol protos facts.proto)
protocol_unknown kind protos is some = λ tables facts ifid dir packet.
    singles protos (first_value facts.l4 facts.proto)
    ∙ ap (λ p. list_any (λ l. l == p) protos) (first_is facts.src facts.proto facts.l4 (known_is kind facts ifid None packet is))
    ∙ sym (listed protos facts.proto some)

pub map_known : (kind : PacketKind) (asked known : ℕ) → known_of kind ≡ Some known → Agree kind (constant (asked == known)) (λ tables facts ifid dir. asked == facts.proto)
map_known kind asked known is = λ tables facts ifid dir packet.
    ap (λ p. asked == p) (protocol_is facts.src facts.proto facts.l4 known packet.possible.protocol (known_is kind facts ifid (Some known) packet is))

pub map_unknown : (kind : PacketKind) (asked : ℕ) → known_of kind ≡ None → Agree kind (equals_number 3 asked) (λ tables facts ifid dir. asked == facts.proto)
map_unknown kind asked is = λ tables facts ifid dir packet.
    ap (λ p. asked == p) (first_is facts.src facts.proto facts.l4 (known_is kind facts ifid None packet is))

-- ---- control bits
pub flags_agree : (kind : PacketKind) (ranges : Ranges) (wanted mask : ℕ) → ((flags : ℕ) → flags < 2 ^ 8 → has_number ranges flags ≡ (bit_and flags mask == wanted))
    → Agree kind (λ tables facts ifid dir. constant (has_flags kind.carried) tables facts ifid dir && lies_in 5 ranges tables facts ifid dir)
    (λ tables facts ifid dir. shows_flags facts.l4 wanted mask)
flags_agree kind ranges wanted mask each = λ tables facts ifid dir packet.
    ap (λ c. has_flags c && lies_in 5 ranges tables facts ifid dir) (sym (carried_is kind facts ifid packet))
    ∙ flags_of facts.l4 ranges wanted mask packet.possible.sizes each

kept : (decision : Decision) (state : StateOpt) → keeps_passed decision state ≡ true → (facts : Facts) → fits_kept decision state facts.l4 ≡ opens_if_tcp facts.l4
kept (Block answer) state asks facts = absurd (cc)
kept Pass Not asks facts = absurd (cc)
kept Pass OnInterface asks facts = refl
kept Pass Everywhere asks facts = refl

not_kept : (decision : Decision) (state : StateOpt) → keeps_passed decision state ≡ false → (facts : Facts) → fits_kept decision state facts.l4 ≡ true
not_kept (Block answer) state asks facts = refl
not_kept Pass Not asks facts = refl
not_kept Pass OnInterface asks facts = absurd (cc)
not_kept Pass Everywhere asks facts = absurd (cc)

pub opening_agrees : (kind : PacketKind) (decision : Decision) (state : StateOpt) (ranges : Ranges) → (keeps_passed decision state && has_flags kind.carried) ≡ true
    → ((flags : ℕ) → flags < 2 ^ 8 → has_number ranges flags ≡ (bit_and flags 23 == 2))
    → Agree kind (lies_in 5 ranges) (λ tables facts ifid dir. fits_kept decision state facts.l4)
opening_agrees kind decision state ranges both each = λ tables facts ifid dir packet.
    let parts = and_parts _ _ both in
    let asks = parts.0 in
    let segments = parts.1 in
    sym (ap (λ b. b && lies_in 5 ranges tables facts ifid dir) segments)
    ∙ flags_agree kind ranges 2 23 each tables facts ifid dir packet
    ∙ sym (kept decision state asks facts ∙ opens_segment facts.l4 (ap has_flags (carried_is kind facts ifid packet) ∙ segments))

cases_asks : (a b : Bool) → (a && b) ≡ false → (a ≡ false) ⊎ ((a ≡ true) × (b ≡ false))
cases_asks true b none = inr (refl, none)
cases_asks false b none = inl refl

pub no_opening : (kind : PacketKind) (decision : Decision) (state : StateOpt) → (keeps_passed decision state && has_flags kind.carried) ≡ false
    → Agree kind (λ tables facts ifid dir. fits_kept decision state facts.l4) (λ tables facts ifid dir. true)
no_opening kind decision state none = λ tables facts ifid dir packet. elim (cases_asks (keeps_passed decision state) (has_flags kind.carried) none) [
  | inl free ↦ not_kept decision state free facts
  | inr other ↦ kept decision state other.0 facts ∙ opens_other facts.l4 (ap has_flags (carried_is kind facts ifid packet) ∙ other.1)
]

-- ---- ends
pub ports_agree : (kind : PacketKind) (end : WhichEnd) (ranges : Ranges)
    → Agree kind (λ tables facts ifid dir. constant (has_port_numbers kind.carried) tables facts ifid dir && lies_in (port_dimension end) ranges tables facts ifid dir)
    (λ tables facts ifid dir. fits_ports (Some ranges) (port_at end facts.l4))
ports_agree kind Source ranges = λ tables facts ifid dir packet.
    ap (λ c. has_port_numbers c && lies_in 3 ranges tables facts ifid dir) (sym (carried_is kind facts ifid packet)) ∙ source_ports facts.l4 ranges facts.proto
ports_agree kind Destination ranges = λ tables facts ifid dir packet.
    ap (λ c. has_port_numbers c && lies_in 4 ranges tables facts ifid dir) (sym (carried_is kind facts ifid packet)) ∙ destination_ports facts.l4 ranges

one_family : (src dst : Addr) → AreAddresses src dst → family_of dst ≡ family_of src
one_family (V4 a) (V4 b) are = refl
one_family (V6 a) (V6 b) are = refl
one_family (V4 a) (V6 b) are = absurd are
one_family (V6 a) (V4 b) are = absurd are

-- both ends are of the kind's family
end_family : (kind : PacketKind) (end : WhichEnd) (facts : Facts) (ifid : IfId) → IsPacketOfKind kind facts ifid → family_of (address_at end facts) ≡ kind.family
end_family kind Source facts ifid packet = family_is kind facts ifid packet
end_family kind Destination facts ifid packet = one_family facts.src facts.dst packet.possible.addresses ∙ family_is kind facts ifid packet

end_number : (end : WhichEnd) (facts : Facts) (ifid : IfId) (dir : Dir) → get_or (numbers_of facts ifid dir) (address_dimension end) 0 ≡ address_value (address_at end facts)
end_number Source facts ifid dir = refl
end_number Destination facts ifid dir = refl

pub net_agrees : (kind : PacketKind) (end : WhichEnd) (prefix : Prefix)
    → Agree kind (lies_in (address_dimension end) (prefix_range kind.family prefix)) (λ tables facts ifid dir. has_address prefix (address_at end facts))
net_agrees kind end prefix = λ tables facts ifid dir packet.
    let addr = address_at end facts in
    ap (has_number (prefix_range kind.family prefix)) (end_number end facts ifid dir)
    ∙ ap (λ family. has_number (prefix_range family prefix) (address_value addr)) (sym (end_family kind end facts ifid packet))
    ∙ prefix_has prefix addr

-- a condition with these items has an address's number where some item has the address
items_agree : (kind : PacketKind) (end : WhichEnd) (span : TableSpan) (items : List AddrItem) (old new : Condition) (tables : Tables) (facts : Facts) (ifid : IfId)
    → HasItems kind.family span items old new → old.ranges.items ≡ [] → old.tables.items ≡ [] → IsPacketOfKind kind facts ifid
    → some_has (table_ranges kind.family tables) new (address_value (address_at end facts)) ≡ list_any (item_has (own_tables span tables) (address_at end facts)) items
items_agree kind end span items old new tables facts ifid has no_ranges no_tables packet =
    let addr = address_at end facts in
    let n = address_value addr in
    let all : List Ranges = table_ranges kind.family tables in
    let empty : some_has all old n ≡ false =
    ap (λ ranges. has_number ranges n || list_any (λ table. has_number (get_or all table []) n) old.tables.items) no_ranges
    ∙ ap (list_any (λ table. has_number (get_or all table []) n)) no_tables in
    has.numbers all n
    ∙ ap (λ b. b || list_any (item_has_number kind.family span all n) items) empty
    ∙ ap (λ family. list_any (item_has_number family span (table_ranges family tables) n) items) (sym (end_family kind end facts ifid packet))
    ∙ items_same span tables addr items

address_tables : (kind : PacketKind) (end : WhichEnd) (new : Condition) (tables : Tables) (facts : Facts) (ifid : IfId) (dir : Dir) → new.dimension ≡ address_dimension end
    → fits (table_ranges kind.family tables) (numbers_of facts ifid dir) new
    ≡ unless_excluded new.excluded (some_has (table_ranges kind.family tables) new (address_value (address_at end facts)))
address_tables kind Source new tables facts ifid dir is = rw is refl
address_tables kind Destination new tables facts ifid dir is = rw is refl

excluded_cases : (excluded : Bool) (items : List AddrItem) (tables : Tables) (addr : Addr)
    → (may_hold excluded items (is_v6 addr) && unless_excluded excluded (list_any (item_has tables addr) items)) ≡ fits_addrs excluded (Some items) tables addr
excluded_cases false items tables addr = refl
excluded_cases true items tables addr = refl

pub addresses_agree : (kind : PacketKind) (end : WhichEnd) (span : TableSpan) (items : List AddrItem) (old new : Condition) → HasItems kind.family span items old new
    → old.ranges.items ≡ [] → old.tables.items ≡ [] → old.dimension ≡ address_dimension end
    → Agree kind (λ tables facts ifid dir.
    constant (may_hold old.excluded items (is_inet6_family kind.family)) tables facts ifid dir && fits (table_ranges kind.family tables) (numbers_of facts ifid dir) new)
    (λ tables facts ifid dir. fits_addrs old.excluded (Some items) (own_tables span tables) (address_at end facts))
addresses_agree kind end span items old new has no_ranges no_tables dimension = λ tables facts ifid dir packet.
    let addr = address_at end facts in
    let version : is_inet6_family kind.family ≡ is_v6 addr = ap is_inet6_family (sym (end_family kind end facts ifid packet)) ∙ version_is addr in
    ap (λ v6. may_hold old.excluded items v6 && fits (table_ranges kind.family tables) (numbers_of facts ifid dir) new) version
    ∙ ap (λ b. may_hold old.excluded items (is_v6 addr) && b)
    (address_tables kind end new tables facts ifid dir (has.dimension ∙ dimension)
    ∙ ap (λ e. unless_excluded e (some_has (table_ranges kind.family tables) new (address_value addr))) has.excluded
    ∙ ap (unless_excluded old.excluded) (items_agree kind end span items old new tables facts ifid has no_ranges no_tables packet))
    ∙ excluded_cases old.excluded items (own_tables span tables) addr

pub side_ports : (range : ℕ × ℕ) (port : Option ℕ) → fits_ports (Some (range ∷ [])) port ≡ fits_side_port (Some range) port
side_ports range None = refl
side_ports range (Some port) = or_none _ false refl

-- ---- maps and rules
pub map_together : (asked dir : Dir) (on proto filter : Bool) (segment : Dir → Bool)
    → ((((is_dir asked dir && on) && proto) && filter) && segment asked) ≡ (is_dir asked dir && (((on && proto) && filter) && segment dir))
map_together In In on proto filter segment = refl
map_together In Out on proto filter segment = refl
map_together Out In on proto filter segment = refl
map_together Out Out on proto filter segment = refl

pub entry_together : (group dir on rule : Bool) → (((group && dir) && on) && rule) ≡ (group && ((dir && on) && rule))
entry_together true dir on rule = refl
entry_together false dir on rule = refl
