-- What the values, filters and rules of a configuration without a fault mean.
use Rattle.std.proofs.Common.{◌≡◌, ◌≤◌, ◌<◌, ◌^◌, ℕ, suc, ◌-◌, min, Bool, true, false, not, is_some, ◌||◌, if◌then◌else◌, nat_lt, Option, Some, None, unwrap_or, List, []}
use Rattle.std.proofs.Common.{◌∷◌, ◌++◌, length, map, flat_map, filter_map, refl, sym, ap, subst, ◌∙◌, arith, div-mul-le_self, lt_of_le_of_lt}
use Rattle.std.proofs.lemmas.{Bool.{or_parts, Decides.nat_tests}, List.{length-map, Elements.{All-append, All-cons, All-nil}}}
use Rattle.std.specs.{List.{All, list_any, cons_option}}
use Rattle.npf_types.specs.{declared.{address.Addr.{Addr, TheVariants.{V4, V6}}, span.Span.Span}, Address.{width, kept_bits}, Block.block, NameText.is_name}
use Rattle.npf_shelf.proofs.ListLemmas.{nil_from_append_left, nil_from_append_right}
use Rattle.npf_faults.specs.{declared.fault.{ConfFault.ConfFault, Fault.TheVariants.{Expected, UnknownInterface, UnknownService}}, First.fault_if}
use Rattle.npf_model.specs.declared.{ends.AddrItem.{AddrItem, TheVariants.{Net, InTable}}, iface.Iface.Iface}
use Rattle.npf_syntax.specs.declared.value.One.{One}
use Rattle.npf_syntax.specs.Reserved.{is_iface_word}
use Rattle.npf_expand_values.specs.declared.role.Role.{Role, TheVariants.{AsPort, AsAddress, AsProtocol, AsInterface}}
use Rattle.npf_expand_values.specs.Address.{items_of, host_item}
use Rattle.npf_expand_values.specs.Host.{addresses_named, is_missing, lacks_addresses, missing_faults, place_faults}
use Rattle.npf_expand_values.specs.{Iface.addresses_of_first, Use.{is_unfit, use_faults, word_faults}}
use Rattle.npf_expand_values.specs.Atom.{Atom, NumberAtom, RangeAtom, WordAtom, StringAtom, BlockAtom, TableAtom, AddressesAtom, Env}
use Rattle.npf_expand_values.specs.{Declarations.table_number, Port.{atom_ports, same_port}, Protocol.{protocol_of, one_protocol_faults}}
use Rattle.npf_names.{specs.{Names.{Names, number_named}, Protocol.protocols, Service.services}, proofs.BoundLemmas.{service_small, protocol_small}}
use Rattle.npf_expand.proofs.ElementLemmas.{untold}
use Rattle.npf_parser_values.specs.Token.{nowhere}
use Rattle.npf_show_tokens.specs.{Showable.{FitsByte, FitsAddr, IsShowablePrefix, IsShowableRange}, Tokens.is_run_word}
use Rattle.npf_show_meaning.specs.Regular.{IsForward}
use Rattle.npf_show_law.proofs.{Gives.Every, Atoms.{IsSoundAtom, split, is_on, some_left, some_there, first_fit}}

-- a block of an address that fits
v4_fits : (a n : ℕ) → a < 2 ^ 32 → kept_bits 32 n a < 2 ^ 32
v4_fits a n small = lt_of_le_of_lt (div-mul-le_self a (2 ^ (32 - n))) small

v6_fits : (a n : ℕ) → a < 2 ^ 128 → kept_bits 128 n a < 2 ^ 128
v6_fits a n small = lt_of_le_of_lt (div-mul-le_self a (2 ^ (128 - n))) small

pub block_shows : (addr : Addr) (len : ℕ) → FitsAddr addr → IsShowablePrefix (block addr len)
block_shows (V4 a) len fits = record { addr = v4_fits a (min len 32) fits; len = omega arith }
block_shows (V6 a) len fits = record { addr = v6_fits a (min len 128) fits; len = omega arith }

-- the faults of values that are used where these can't stand, and words have these
abbrev pub uses : (Atom → Bool) → (Atom → List ConfFault) → Span → List Atom → List ConfFault
uses unfit words span atoms = fault_if (list_any unfit atoms) span Expected ++ flat_map words atoms

usable_alone : (unfit : Atom → Bool) (words : Atom → List ConfFault) (atom : Atom) → unfit atom ≡ false → words atom ≡ [] → uses unfit words nowhere (atom ∷ []) ≡ []
usable_alone unfit words atom fits none = rw (fits, none) refl

usable_by : (unfit : Atom → Bool) (words : Atom → List ConfFault) (atoms : List Atom) → list_any unfit atoms ≡ false →
    flat_map words atoms ≡ [] → Every (λ atom. uses unfit words nowhere (atom ∷ []) ≡ []) atoms
usable_by unfit words [] fits none = tt
usable_by unfit words (atom ∷ atoms) fits none =
    let first = or_parts (unfit atom) (list_any unfit atoms) fits in (
      usable_alone unfit words atom first.0 (nil_from_append_left (words atom) (flat_map words atoms) none),
      usable_by unfit words atoms first.1 (nil_from_append_right (words atom) (flat_map words atoms) none),
    )

-- of values without a fault each has none
pub usable : (unfit : Atom → Bool) (words : Atom → List ConfFault) (span : Span) (atoms : List Atom) →
    uses unfit words span atoms ≡ [] → Every (λ atom. uses unfit words nowhere (atom ∷ []) ≡ []) atoms
usable unfit words span atoms none =
    let here = fault_if (list_any unfit atoms) span Expected in
    usable_by unfit words atoms (untold (list_any unfit atoms) span Expected (nil_from_append_left here (flat_map words atoms) none)) (nil_from_append_right here (flat_map words atoms) none)

both_none : {X : Type 0} (xs ys : List X) → xs ≡ [] → ys ≡ [] → xs ++ ys ≡ []
both_none xs ys one other = ap (λ l. l ++ ys) one ∙ other

-- facts of the elements of two lists of facts
pub every_pairs : {A : Type 0} (P Q R : A → Type 0) → ((a : A) → P a → Q a → R a) → (xs : List A) → Every P xs → Every Q xs → Every R xs
every_pairs P Q R step [] ps qs = tt
every_pairs P Q R step (x ∷ xs) ps qs = (step x ps.0 qs.0, every_pairs P Q R step xs ps.1 qs.1)

-- of values where an address is asked for, without a fault, each has none
module _ (ifaces : List Iface) where
  there : (atoms : List Atom) → list_any (is_missing ifaces) atoms ≡ false → Every (λ atom. missing_faults ifaces AsAddress nowhere (atom ∷ []) ≡ []) atoms
  there [] none = tt
  there (atom ∷ atoms) none =
      let first = or_parts (is_missing ifaces atom) (list_any (is_missing ifaces) atoms) none in
      (ap (λ missing. fault_if (missing || false) nowhere UnknownInterface) first.0, there atoms first.1)

  none_missing : (role : Role) → ((span : Span) (atoms : List Atom) → missing_faults ifaces role span atoms ≡ []) → (atoms : List Atom)
      → Every (λ atom. missing_faults ifaces role nowhere (atom ∷ []) ≡ []) atoms
  none_missing role never [] = tt
  none_missing role never (atom ∷ atoms) = (never nowhere (atom ∷ []), none_missing role never atoms)

  missing_each : (role : Role) (span : Span) (atoms : List Atom) → missing_faults ifaces role span atoms ≡ []
      → Every (λ atom. missing_faults ifaces role nowhere (atom ∷ []) ≡ []) atoms
  missing_each AsAddress span atoms none = there atoms (untold (list_any (is_missing ifaces) atoms) span UnknownInterface none)
  missing_each AsPort span atoms none = none_missing AsPort (λ s l. refl) atoms
  missing_each AsProtocol span atoms none = none_missing AsProtocol (λ s l. refl) atoms
  missing_each AsInterface span atoms none = none_missing AsInterface (λ s l. refl) atoms

  pub placed : (role : Role) (span : Span) (atoms : List Atom) → place_faults ifaces role span atoms ≡ []
      → Every (λ atom. place_faults ifaces role nowhere (atom ∷ []) ≡ []) atoms
  placed role span atoms none =
      let used = use_faults role span atoms in
      let missing = missing_faults ifaces role span atoms in
      every_pairs (λ atom. use_faults role nowhere (atom ∷ []) ≡ []) (λ atom. missing_faults ifaces role nowhere (atom ∷ []) ≡ [])
      (λ atom. place_faults ifaces role nowhere (atom ∷ []) ≡ [])
      (λ atom one other. both_none (use_faults role nowhere (atom ∷ [])) (missing_faults ifaces role nowhere (atom ∷ [])) one other) atoms
      (usable (is_unfit role) (word_faults role) span atoms (nil_from_append_left used missing none)) (missing_each role span atoms (nil_from_append_right used missing none))

-- an atom that can be used, as a variable that stands for it
abbrev pub alone : Atom → Env
alone atom name = Some (record { many = false; atoms = atom ∷ [] })

abbrev pub IsPortAtom : Atom → Type 0
IsPortAtom atom = use_faults AsPort nowhere (atom ∷ []) ≡ []

abbrev pub IsAddressAtom : List Iface → Atom → Type 0
IsAddressAtom ifaces atom = place_faults ifaces AsAddress nowhere (atom ∷ []) ≡ []

abbrev pub IsProtocolAtom : Atom → Type 0
IsProtocolAtom atom = one_protocol_faults (alone atom) (Some (One.Var (record { name = []; span = nowhere }) nowhere)) ≡ []

no_use : {X : Type 0} → fault_if (true || false) nowhere Expected ++ ([] ++ []) ≡ [] → X
no_use none = let no : true ≡ false = (split true nowhere [] none).0 in cc

-- what every usable atom gives
pub record GivesSome {A : Type 0} (P : A → Type 0) (o : Option A) : Type 0 where
  pub value : A
  pub is : o ≡ Some value
  pub holds : P value

pub kept_all : {A : Type 0} (P : A → Type 0) (keep : Atom → Option A) (atoms : List Atom) → Every (λ atom. GivesSome P (keep atom)) atoms
    → All P (filter_map keep atoms) × (length (filter_map keep atoms) ≡ length atoms)
kept_all P keep [] every = (All-nil P, refl)
kept_all P keep (atom ∷ atoms) every =
    let first = every.0 in
    let rest = kept_all P keep atoms every.1 in
    subst (λ o. All P (cons_option o (filter_map keep atoms)) × (length (cons_option o (filter_map keep atoms)) ≡ length (atom ∷ atoms))) (sym first.is)
    (All-cons P first.value (filter_map keep atoms) first.holds rest.0, ap suc rest.1)

is_something : (names : Names) (text : List ℕ) (span : Span) → fault_if (not (is_some (number_named names text))) span UnknownService ≡ [] → is_some (number_named names text) ≡ true
is_something names text span none = is_on (is_some (number_named names text)) (untold (not (is_some (number_named names text))) span UnknownService none)

number_there : (o : Option ℕ) → is_some o ≡ true → (n : ℕ) × (o ≡ Some n)
number_there (Some n) is = (n, refl)
number_there None is = cc

-- a range of ports that is shown and read again
abbrev pub IsGoodRange : ℕ × ℕ → Type 0
IsGoodRange range = IsShowableRange range × IsForward range

pub port_small : (n : ℕ) → nat_lt 65535 n ≡ false → n < 2 ^ 16
port_small n off = grind (arith, nat_tests)

pub port_given : (ifaces : List Iface) (fit : All (λ i. All FitsAddr i.addrs) ifaces) (d : List ℕ → Bool) (atom : Atom) →
    IsSoundAtom ifaces fit d atom → IsPortAtom atom → GivesSome IsGoodRange (atom_ports atom)
port_given ifaces fit d (NumberAtom n) sound is =
    let off = (split (nat_lt 65535 n) nowhere [] is).0 in
    let small = port_small n off in record { value = (n, n); is = rw off refl; holds = ((small, small), omega arith) }
port_given ifaces fit d (RangeAtom n m) sound is =
    let both = or_parts (nat_lt 65535 n) (nat_lt 65535 m) (split (nat_lt 65535 n || nat_lt 65535 m) nowhere [] is).0 in
    record { value = (n, m); is = rw (both.0, both.1) refl; holds = ((port_small n both.0, port_small m both.1), sound) }
port_given ifaces fit d (WordAtom text span) sound is =
    let found = number_there (number_named services text) (is_something services text span (split false nowhere (fault_if (not (is_some (number_named services text))) span UnknownService) is).1) in
    let small : found.0 ≤ 65535 = service_small text found.0 found.1 in
    record { value = (found.0, found.0); is = ap same_port found.1; holds = ((omega (arith, small), omega (arith, small)), omega arith) }
port_given ifaces fit d (StringAtom text) sound is = no_use is
port_given ifaces fit d (BlockAtom addr len) sound is = no_use is
port_given ifaces fit d (TableAtom name) sound is = no_use is
port_given ifaces fit d (AddressesAtom iface addrs) sound is = no_use is

pub byte_small : (n : ℕ) → nat_lt 255 n ≡ false → FitsByte n
byte_small n off = grind (arith, nat_tests)

pub protocol_given : (atom : Atom) → IsProtocolAtom atom → GivesSome FitsByte (protocol_of atom)
protocol_given (NumberAtom n) is =
    let off = (split (nat_lt 255 n) nowhere [] is).0 in
    record { value = n; is = rw off refl; holds = byte_small n off }
protocol_given (WordAtom text span) is =
    let found = number_there (number_named protocols text) (is_something protocols text span (split false nowhere (fault_if (not (is_some (number_named protocols text))) span UnknownService) is).1) in
    let small : found.0 ≤ 255 = protocol_small text found.0 found.1 in
    record { value = found.0; is = found.1; holds = omega (arith, small) }
protocol_given (RangeAtom n m) is = no_use is
protocol_given (StringAtom text) is = no_use is
protocol_given (BlockAtom addr len) is = no_use is
protocol_given (TableAtom name) is = no_use is
protocol_given (AddressesAtom iface addrs) is = no_use is

module _ (ifaces : List Iface) (fit : All (λ i. All FitsAddr i.addrs) ifaces) (d : List ℕ → Bool) (tables : List (List ℕ)) (P : AddrItem → Type 0)
    (net : (addr : Addr) (len : ℕ) → FitsAddr addr → P (Net (block addr len)))
    (numbered : (name : List ℕ) → is_run_word name ≡ true → is_name name ≡ true → d name ≡ true → P (InTable (table_number tables name))) where
  hosts_given : (addrs : List Addr) → Every FitsAddr addrs → All P (map host_item addrs)
  hosts_given [] every = All-nil P
  hosts_given (a ∷ addrs) every = All-cons P (host_item a) (map host_item addrs) (net a (width a) every.0) (hosts_given addrs every.1)

  -- the use of what can't be an address
  no_place : {X : Type 0} (atom : Atom) → is_unfit AsAddress atom ≡ true → IsAddressAtom ifaces atom → X
  no_place atom unfit is =
      let used = nil_from_append_left (use_faults AsAddress nowhere (atom ∷ [])) (missing_faults ifaces AsAddress nowhere (atom ∷ [])) is in
      let fits : is_unfit AsAddress atom ≡ false = (split (is_unfit AsAddress atom) nowhere (word_faults AsAddress atom) used).0 in
      cc

  -- an interface that is named has addresses
  named_given : (named : Bool) (text : List ℕ) → not named ≡ false → lacks_addresses ifaces (if named then Some text else None) ≡ false
      → (0 < length (map host_item (addresses_named ifaces (if named then Some text else None)))) × All P (map host_item (addresses_named ifaces (if named then Some text else None)))
  named_given true text fits some =
      let addrs = addresses_of_first ifaces text in
      let same = length-map addrs host_item in
      let more = some_there ifaces fit d addrs some in
      (omega (arith, same, more), hosts_given addrs (first_fit ifaces fit d ifaces fit text))
  named_given false text fits some = cc

  name_fits : (atom : Atom) → IsAddressAtom ifaces atom → is_unfit AsAddress atom ≡ false
  name_fits atom is = (split (is_unfit AsAddress atom) nowhere (word_faults AsAddress atom)
      (nil_from_append_left (use_faults AsAddress nowhere (atom ∷ [])) (missing_faults ifaces AsAddress nowhere (atom ∷ [])) is)).0

  has_some : (atom : Atom) → IsAddressAtom ifaces atom → is_missing ifaces atom ≡ false
  has_some atom is = (or_parts (is_missing ifaces atom) false (untold (is_missing ifaces atom || false) nowhere UnknownInterface
      (nil_from_append_right (use_faults AsAddress nowhere (atom ∷ [])) (missing_faults ifaces AsAddress nowhere (atom ∷ [])) is))).0

  -- what an address gives: an item at least
  items_given : (atom : Atom) → IsSoundAtom ifaces fit d atom → IsAddressAtom ifaces atom → (0 < length (items_of ifaces tables atom)) × All P (items_of ifaces tables atom)
  items_given (BlockAtom addr len) sound is = (omega arith, All-cons P (Net (block addr (unwrap_or len (width addr)))) [] (net addr (unwrap_or len (width addr)) sound) (All-nil P))
  items_given (TableAtom name) sound is = (omega arith, All-cons P (InTable (table_number tables name)) [] (numbered name sound.0 sound.1 sound.2) (All-nil P))
  items_given (AddressesAtom iface addrs) sound is = let same = length-map addrs host_item in let some = sound.0 in (omega (arith, same, some), hosts_given addrs sound.1)
  items_given (NumberAtom n) sound is = no_place (NumberAtom n) refl is
  items_given (RangeAtom n m) sound is = no_place (RangeAtom n m) refl is
  items_given (WordAtom text span) sound is = named_given (is_iface_word text) text (name_fits (WordAtom text span) is) (has_some (WordAtom text span) is)
  items_given (StringAtom text) sound is = named_given (is_name text) text (name_fits (StringAtom text) is) (has_some (StringAtom text) is)

  pub all_given : (atoms : List Atom) → Every (IsSoundAtom ifaces fit d) atoms → Every (IsAddressAtom ifaces) atoms → All P (flat_map (items_of ifaces tables) atoms)
  all_given [] sound is = All-nil P
  all_given (atom ∷ atoms) sound is = All-append P (items_of ifaces tables atom) (flat_map (items_of ifaces tables) atoms) (items_given atom sound.0 is.0).1 (all_given atoms sound.1 is.1)

  pub some_given : (atoms : List Atom) → 0 < length atoms → Every (IsSoundAtom ifaces fit d) atoms → Every (IsAddressAtom ifaces) atoms
      → 0 < length (flat_map (items_of ifaces tables) atoms)
  some_given [] some sound is = some
  some_given (atom ∷ atoms) some sound is = some_left (items_of ifaces tables atom) (flat_map (items_of ifaces tables) atoms) (items_given atom sound.0 is.0).0
