-- What the filters of a configuration without a fault are.
use Rattle.std.proofs.Common.{◌≡◌, ◌<◌, ◌≤◌, nat_lt, ◌^◌, ℕ, ◌-◌, Bool, true, false, ◌==◌, ◌||◌, if◌then◌else◌, Option, Some, None, IfSome, List, [], ◌∷◌, ◌++◌}
use Rattle.std.proofs.{Common.{length, replicate, flat_map, filter_map, refl, sym, subst, ◌∙◌, arith, append-nil, lt_of_lt_of_le}, Math.Seq.take-append_seam}
use Rattle.std.{proofs.lemmas.{Bool.and_parts, List.Elements.{All-cons, All-head, All-nil, All-tail}, Nat.{or_lt, le_or_l}}, specs.List.{All, list_all}}
use Rattle.npf_types.specs.{declared.{address.Addr.Addr, span.Span.Span}, Block.block, Name.name_bytes, Named.{named, name_where}, NameText.is_name}
use Rattle.npf_shelf.proofs.ListLemmas.{nil_from_append_left, nil_from_append_right}
use Rattle.npf_faults.specs.declared.fault.ConfFault.{ConfFault}
use Rattle.npf_lexer.specs.Run.{is_word}
use Rattle.npf_syntax.specs.declared.filter.{Addresses.Addresses, Detail.Detail, EndsTree.EndsTree as WrittenEnds, Filter.Filter, ProtoPart.ProtoPart}
use Rattle.npf_syntax.specs.declared.{filter.{Protocols.Protocols, Where.Where}, value.{One.One, Value.Value, Values.Values}, word.Word.Word}
use Rattle.npf_names.{specs.{declared.icmp.IcmpNames.IcmpNames, Icmp.{codes_of, types_of}, Names.{Names, number_named}}, proofs.BoundLemmas.{type_small, code_small}}
use Rattle.npf_model.specs.declared.{ends.AddrItem.{AddrItem, TheVariants.{Net, InTable}}, iface.Iface.Iface, model.Model.Model}
use Rattle.npf_check.specs.Undefined.{table_faults, tables_of_addresses, tables_of_ends, tables_of_target, tables_of_where}
use Rattle.npf_expand_values.specs.{Address.{items_of, addresses_faults, address_items, is_excluded}, Declarations.table_number}
use Rattle.npf_expand_values.specs.Atom.{Atom, NumberAtom, RangeAtom, WordAtom, StringAtom, BlockAtom, TableAtom, AddressesAtom, Binding, Env}
use Rattle.npf_expand_values.{specs.Message.{first_number, icmp_names, message_number, number_among}, proofs.FaultLemmas.none_before}
use Rattle.npf_expand_values.specs.Port.{atom_ports, ports_faults, ports_of}
use Rattle.npf_expand_values.specs.Protocol.{one_span, one_binding, protocol_of, written_ones, protocol_faults, protocols_faults, spliced_ones, protocols_of}
use Rattle.npf_expand_values.specs.declared.role.Role.{Role, TheVariants.{AsPort, AsAddress}}
use Rattle.npf_expand_values.specs.{Host.place_faults, Use.{undefined_faults, atoms_of, use_faults}, Variable.{value_span, each_value_faults, empty_list_at, binding_of, own_faults, spliced}}
use Rattle.npf_expand.specs.Rule.{flag_bit, flag_bits, mask_bits, flags_of_detail, code_of, with_code, icmp_of_detail, icmp_of_part, detail_of_part, source_ends, destination_ends}
use Rattle.npf_expand.specs.Rule.{ends_faults, part_faults, filter_faults, part_protocols, ends_of_written, filter_rule}
use Rattle.npf_parser_values.specs.Token.{nowhere, is_flag}
use Rattle.npf_show.specs.Filter.{flag_text}
use Rattle.npf_show_tokens.specs.Showable.{FitsByte, FitsAddr, IsShowableRange, IsShowableItem, AreShowableEnds, AreShowableFlags, IsShowableFilter}
use Rattle.npf_show_tokens.{specs.Tokens.is_run_word, proofs.Values.values_come_back_lem}
use Rattle.npf_show_meaning.specs.Regular.{IsExclusion, IsRegularItem, IsForward, AreRegularEnds, IsOneDetail, IsRegularFilter}
use Rattle.npf_show_law.proofs.Gives.{Every, IfThere}
use Rattle.npf_show_law.proofs.Sound.{IsSoundValue, IsSoundPort, AreSoundPorts, IsRunWord, IsSoundDetail, AreSomeProtocols, IsSoundPart, AreSoundAddresses, AreSoundEnds, IsSoundWhere, IsSoundFilter}
use Rattle.npf_show_law.proofs.Atoms.{IsSoundAtom, IsSoundBinding, IsSoundEnv, every_both, some_left, values_sound, values_some}
use Rattle.npf_show_law.proofs.Meant.{byte_small, IsPortAtom, IsProtocolAtom, uses, usable, placed, block_shows, kept_all, GivesSome, IsGoodRange}
use Rattle.npf_show_law.proofs.Meant.{port_given, protocol_given, every_pairs, all_given, some_given}

pub every_all : {X : Type 0} (P : X → Type 0) (xs : List X) → Every P xs → All P xs
every_all P [] every = All-nil P
every_all P (x ∷ xs) every = All-cons P x xs every.0 (every_all P xs every.1)

pub all_step : {X : Type 0} (P Q : X → Type 0) → ((x : X) → P x → Q x) → (xs : List X) → All P xs → All Q xs
all_step P Q step [] all = All-nil Q
all_step P Q step (x ∷ xs) all = All-cons Q x xs (step x (All-head P x xs all)) (all_step P Q step xs (All-tail P x xs all))

every_step : {X : Type 0} (P Q : X → Type 0) → ((x : X) → P x → Q x) → (xs : List X) → Every P xs → Every Q xs
every_step P Q step [] every = tt
every_step P Q step (x ∷ xs) every = (step x every.0, every_step P Q step xs every.1)

-- the bytes of the name of a text are the text
pub named_text : (text : List ℕ) → is_name text ≡ true → name_bytes (named text) ≡ text
named_text text is = by (is_name text) refl is where
  by : (answer : Bool) (told : is_name text ≡ answer) → answer ≡ true → name_bytes (name_where text answer told) ≡ text
  by true told _ = take-append_seam text (replicate (15 - length text) 0)
  by false told never = cc

-- flags
flag_small : (letter : ℕ) → flag_bit letter < 2 ^ 8
flag_small letter = by (letter == 70) (letter == 83) (letter == 82) (letter == 80) (letter == 65) (letter == 85) (letter == 69) (letter == 87) where
  by : (a b c d e f g h : Bool) → (if a then 1 else (if b then 2 else (if c then 4 else (if d then 8 else (if e then 16 else (if f then 32 else (if g then 64 else (if h then 128 else 0)))))))) < 2 ^ 8
  by true b c d e f g h = omega arith
  by false true c d e f g h = omega arith
  by false false true d e f g h = omega arith
  by false false false true e f g h = omega arith
  by false false false false true f g h = omega arith
  by false false false false false true g h = omega arith
  by false false false false false false true h = omega arith
  by false false false false false false false true = omega arith
  by false false false false false false false false = omega arith

flag_some : (letter : ℕ) → is_flag letter ≡ true → 0 < flag_bit letter
flag_some letter is = by (letter == 70) (letter == 83) (letter == 82) (letter == 80) (letter == 65) (letter == 85) (letter == 69) (letter == 87) is where
  by : (a b c d e f g h : Bool) → (a || b || c || d || e || f || g || h) ≡ true →
      0 < (if a then 1 else (if b then 2 else (if c then 4 else (if d then 8 else (if e then 16 else (if f then 32 else (if g then 64 else (if h then 128 else 0))))))))
  by true b c d e f g h is = omega arith
  by false true c d e f g h is = omega arith
  by false false true d e f g h is = omega arith
  by false false false true e f g h is = omega arith
  by false false false false true f g h is = omega arith
  by false false false false false true g h is = omega arith
  by false false false false false false true h is = omega arith
  by false false false false false false false true is = omega arith
  by false false false false false false false false is = cc

bits_small : (text : List ℕ) → flag_bits text < 2 ^ 8
bits_small [] = omega arith
bits_small (letter ∷ letters) = or_lt 8 (flag_bit letter) (flag_bits letters) (flag_small letter) (bits_small letters)

bits_some : (text : List ℕ) → is_word text ≡ true → list_all is_flag text ≡ true → 0 < flag_bits text
bits_some [] word flags = cc
bits_some (letter ∷ letters) word flags = lt_of_lt_of_le (flag_some letter (and_parts (is_flag letter) (list_all is_flag letters) flags).0) (le_or_l (flag_bit letter) (flag_bits letters))

text_some : (text : List ℕ) (bits : ℕ) → 0 < bits → flag_bits text ≡ bits → 0 < length text
text_some [] bits some same = absurd (omega (arith, some, same))
text_some (letter ∷ text) bits some same = omega arith

abbrev IsFlagWord : Word → Type 0
IsFlagWord w = IsRunWord w × (list_all is_flag w.text ≡ true)

flags_shown : (w : Word) → IsFlagWord w → 0 < length (flag_text (flag_bits w.text))
flags_shown w is =
    let word = (and_parts (is_word w.text) _ is.0).0 in
    text_some (flag_text (flag_bits w.text)) (flag_bits w.text) (bits_some w.text word is.1) (values_come_back_lem.flags (flag_bits w.text) (bits_small w.text))

mask_shown : (w : Word) (m : Option Word) → IsFlagWord w → IfThere IsFlagWord m → (0 < length (flag_text (mask_bits w m))) × (mask_bits w m < 2 ^ 8)
mask_shown w None is mask = (flags_shown w is, bits_small w.text)
mask_shown w (Some m) is mask = (flags_shown m mask, bits_small m.text)

-- what is said of protocols
pub record IsGoodDetail (protos : List ℕ) (bits : Option (ℕ × ℕ)) (message : Option (ℕ × Option ℕ)) : Type 0 where
  pub flags : IfSome bits AreShowableFlags
  pub icmp : IfSome message (λ icmp. FitsByte icmp.0 × IfSome icmp.1 FitsByte)
  pub one : IsOneDetail protos bits message

-- the type and the code of a message
module _ (names : Names) (small : (text : List ℕ) (n : ℕ) → number_named names text ≡ Some n → n ≤ 255) where
  number_fits : (atom : Atom) → IfSome (number_among names atom) FitsByte
  number_fits (NumberAtom n) = by (nat_lt 255 n) refl where
    by : (b : Bool) → nat_lt 255 n ≡ b → IfSome (if b then None else Some n) FitsByte
    by true is = tt
    by false is = byte_small n is
  number_fits (WordAtom text span) = by (number_named names text) refl where
    by : (o : Option ℕ) → number_named names text ≡ o → IfSome o FitsByte
    by None is = tt
    by (Some n) is = let fits = small text n is in omega (arith, fits)
  number_fits (RangeAtom n m) = tt
  number_fits (StringAtom text) = tt
  number_fits (BlockAtom addr len) = tt
  number_fits (TableAtom name) = tt
  number_fits (AddressesAtom iface addrs) = tt

  first_fits : (atoms : List Atom) → IfSome (first_number names atoms) FitsByte
  first_fits [] = tt
  first_fits (atom ∷ atoms) = number_fits atom

module _ (env : Env) (names : IcmpNames) where
  code_fits : (kind : ℕ) (code : Option One) → IfSome (code_of env names kind code) FitsByte
  code_fits kind None = tt
  code_fits kind (Some code) = first_fits (codes_of names kind) (code_small names kind) (atoms_of (one_binding env code))

  icmp_good : (protos : List ℕ) → 0 < length protos → (code : Option One) (kind : Option ℕ) → IfSome kind FitsByte → IsGoodDetail protos None (with_code env names code kind)
  icmp_good protos some code None small = record { flags = tt; icmp = tt; one = tt }
  icmp_good protos some code (Some kind) small = record { flags = tt; icmp = (small, code_fits kind code); one = some }

  detail_meant : (protos : List ℕ) (d : Option Detail) → IfThere (λ d. (0 < length protos) × IsSoundDetail d) d → IsGoodDetail protos (flags_of_detail d) (icmp_of_detail env names d)
  detail_meant protos None is = record { flags = tt; icmp = tt; one = tt }
  detail_meant protos (Some (Detail.Flags w mask span)) is =
      let masked = mask_shown w mask is.1.0 is.1.1 in
      record { flags = (flags_shown w is.1.0, masked.0); icmp = tt; one = (is.0, bits_small w.text, masked.1) }
  detail_meant protos (Some (Detail.IcmpType kind code span)) is =
      icmp_good protos is.0 code (message_number (types_of names) env kind) (first_fits (types_of names) (type_small names) (atoms_of (one_binding env kind)))

module _ (ifaces : List Iface) (fit : All (λ i. All FitsAddr i.addrs) ifaces) (d : List ℕ → Bool) (env : Env) (sound : IsSoundEnv ifaces fit d env) where
  -- the faults of a value that is used where these can't stand, and words have these
  each_use : (role : Role) (vs : List Value) → flat_map (each_value_faults ifaces env role) vs ≡ [] →
      (flat_map (own_faults ifaces env) vs ≡ []) × Every (λ atom. place_faults ifaces role nowhere (atom ∷ []) ≡ []) (spliced ifaces env vs)
  each_use role [] none = (refl, tt)
  each_use role (v ∷ vs) none =
      let here = each_value_faults ifaces env role v in
      let first = nil_from_append_left here (flat_map (each_value_faults ifaces env role) vs) none in
      let rest = each_use role vs (nil_from_append_right here (flat_map (each_value_faults ifaces env role) vs) none) in
      let own = own_faults ifaces env v in
      let used = place_faults ifaces role (value_span v) (atoms_of (binding_of ifaces env v)) in (
        rw (nil_from_append_left own used first) rest.0,
        every_both (λ atom. place_faults ifaces role nowhere (atom ∷ []) ≡ []) (atoms_of (binding_of ifaces env v))
            (spliced ifaces env vs) (placed ifaces role (value_span v) (atoms_of (binding_of ifaces env v)) (nil_from_append_right own used first)) rest.1,
      )

  -- ports
  port_values : (vs : List Value) → Every IsSoundPort vs → Every IsSoundValue vs × (flat_map (table_faults d) vs ≡ [])
  port_values [] every = (tt, refl)
  port_values (v ∷ vs) every = let rest = port_values vs every.1 in ((every.0.0, rest.0), rw (every.0.1 d) rest.1)

  abbrev AreGoodRanges : List (ℕ × ℕ) → Type 0
  AreGoodRanges ranges = (0 < length ranges) × All IsGoodRange ranges

  listed_ports : (span : Span) (vs : List Value) → Every IsSoundPort vs → empty_list_at span vs ++ flat_map (each_value_faults ifaces env AsPort) vs ≡ []
      → AreGoodRanges (filter_map atom_ports (spliced ifaces env vs))
  listed_ports span vs every none =
      let each = flat_map (each_value_faults ifaces env AsPort) vs in
      let filled = nil_from_append_left (empty_list_at span vs) each none in
      let parts = port_values vs every in
      let used = each_use AsPort vs (nil_from_append_right (empty_list_at span vs) each none) in
      let atoms = values_sound ifaces fit d env sound vs parts.0 used.0 parts.1 in
      let some = values_some ifaces fit d env sound span vs filled parts.0 used.0 parts.1 in
      let fits = every_step (λ atom. place_faults ifaces AsPort nowhere (atom ∷ []) ≡ []) IsPortAtom
      (λ atom is. nil_from_append_left (use_faults AsPort nowhere (atom ∷ [])) [] is) (spliced ifaces env vs) used.1 in
      let kept = kept_all IsGoodRange atom_ports (spliced ifaces env vs) (every_pairs (IsSoundAtom ifaces fit d) IsPortAtom (λ atom. GivesSome IsGoodRange (atom_ports atom))
      (port_given ifaces fit d) (spliced ifaces env vs) atoms fits) in
      (subst (λ n. 0 < n) (sym kept.1) some, kept.0)

  ports_meant : (o : Option Values) → IfThere AreSoundPorts o → ports_faults ifaces env o ≡ [] → IfSome (ports_of ifaces env o) AreGoodRanges
  ports_meant None is none = tt
  ports_meant (Some (Values.One v span)) is none = listed_ports span (v ∷ []) (is, tt) none
  ports_meant (Some (Values.List list span)) is none = listed_ports list.span list.values is none

  -- protocols
  bound_usable : (unfit : Atom → Bool) (words : Atom → List ConfFault) (o : Option Binding) (span : Span) →
      IfSome o (IsSoundBinding ifaces fit d) → undefined_faults span o ++ uses unfit words span (atoms_of o) ≡ []
      → ((atom : Atom) → uses unfit words nowhere (atom ∷ []) ≡ [] → IsProtocolAtom atom) → Every IsProtocolAtom (atoms_of o) × (0 < length (atoms_of o))
  bound_usable unfit words None span is none turn = cc
  bound_usable unfit words (Some b) span is none turn = (every_step _ IsProtocolAtom turn b.atoms (usable unfit words span b.atoms none), is.some)

  one_bound : (one : One) → IfSome (one_binding env one) (IsSoundBinding ifaces fit d)
  one_bound (One.Word w span) = record { atoms = (tt, tt); some = omega arith; one = λ _. refl }
  one_bound (One.Number n span) = record { atoms = (tt, tt); some = omega arith; one = λ _. refl }
  one_bound (One.Var v span) = sound v.name

  one_usable : (one : One) → protocol_faults env one ≡ [] → Every IsProtocolAtom (atoms_of (one_binding env one)) × (0 < length (atoms_of (one_binding env one)))
  one_usable one none = bound_usable _ _ (one_binding env one) (one_span one) (one_bound one) none (λ atom is. is)

  abbrev atoms_of_ones : List One → List Atom
  atoms_of_ones list = flat_map (λ one. atoms_of (one_binding env one)) list

  ones_usable : (list : List One) → flat_map (protocol_faults env) list ≡ [] → Every IsProtocolAtom (atoms_of_ones list)
  ones_usable [] none = tt
  ones_usable (one ∷ list) none =
      every_both IsProtocolAtom (atoms_of (one_binding env one)) (atoms_of_ones list)
      (one_usable one (nil_from_append_left (protocol_faults env one) (flat_map (protocol_faults env) list) none)).0
      (ones_usable list (nil_from_append_right (protocol_faults env one) (flat_map (protocol_faults env) list) none))

  ones_some : (list : List One) → 0 < length list → flat_map (protocol_faults env) list ≡ [] → 0 < length (atoms_of_ones list)
  ones_some [] some none = some
  ones_some (one ∷ list) some none = some_left (atoms_of (one_binding env one)) (atoms_of_ones list)
      (one_usable one (nil_from_append_left (protocol_faults env one) (flat_map (protocol_faults env) list) none)).1

  some_ones : (p : Protocols) → AreSomeProtocols p → 0 < length (written_ones p)
  some_ones (Protocols.One one span) is = omega arith
  some_ones (Protocols.List list span) is = is

  protocols_meant : (p : Protocols) → AreSomeProtocols p → protocols_faults env p ≡ [] → (0 < length (protocols_of env p)) × All FitsByte (protocols_of env p)
  protocols_meant p is none =
      let used = ones_usable (written_ones p) none in
      let kept = kept_all FitsByte protocol_of (spliced_ones env p) (every_step IsProtocolAtom (λ atom. GivesSome FitsByte (protocol_of atom)) protocol_given (spliced_ones env p) used) in
      (subst (λ n. 0 < n) (sym kept.1) (ones_some (written_ones p) (some_ones p is) none), kept.0)

  if_detail : (protos : List ℕ) (o : Option Detail) → 0 < length protos → IfThere IsSoundDetail o → IfThere (λ d. (0 < length protos) × IsSoundDetail d) o
  if_detail protos None some is = tt
  if_detail protos (Some x) some is = (some, is)

  part_meant : (o : Option ProtoPart) → IfThere IsSoundPart o → part_faults ifaces env o ≡ [] →
      All FitsByte (part_protocols ifaces env o) × IsGoodDetail (part_protocols ifaces env o) (flags_of_detail (detail_of_part o)) (icmp_of_part env o)
  part_meant None is none = (All-nil FitsByte, record { flags = tt; icmp = tt; one = tt })
  part_meant (Some part) is none =
      let protos = protocols_meant part.protocols is.protocols (none_before (protocols_faults env part.protocols) _ none) in (
        protos.1,
        detail_meant env (icmp_names (spliced_ones env part.protocols)) (protocols_of env part.protocols) part.detail
            (if_detail (protocols_of env part.protocols) part.detail protos.0 is.detail),
      )

  module _ (model : Model) (tables : List (List ℕ))
      (numbered : (name : List ℕ) → is_run_word name ≡ true → is_name name ≡ true → d name ≡ true →
      IsShowableItem model (InTable (table_number tables name)) × IsRegularItem model (InTable (table_number tables name))) where
    abbrev IsGoodItem : AddrItem → Type 0
    IsGoodItem item = IsShowableItem model item × IsRegularItem model item

    abbrev AreGoodItems : List AddrItem → Type 0
    AreGoodItems items = (0 < length items) × All IsGoodItem items

    net_good : (addr : Addr) (len : ℕ) → FitsAddr addr → IsGoodItem (Net (block addr len))
    net_good addr len fits = (block_shows addr len fits, tt)

    abbrev each_address : List Value → List ConfFault
    each_address vs = flat_map (each_value_faults ifaces env AsAddress) vs

    listed_items : (span : Span) (vs : List Value) → empty_list_at span vs ≡ [] → Every IsSoundValue vs → each_address vs ≡ [] → flat_map (table_faults d) vs ≡ []
        → AreGoodItems (flat_map (items_of ifaces tables) (spliced ifaces env vs))
    listed_items span vs filled every none defined =
        let used = each_use AsAddress vs none in
        let atoms = values_sound ifaces fit d env sound vs every used.0 defined in
        let some = values_some ifaces fit d env sound span vs filled every used.0 defined in (
          some_given ifaces fit d tables IsGoodItem net_good numbered (spliced ifaces env vs) some atoms used.1,
          all_given ifaces fit d tables IsGoodItem net_good numbered (spliced ifaces env vs) atoms used.1,
        )

    one_item : (v : Value) → IsSoundValue v → each_value_faults ifaces env AsAddress v ≡ [] → table_faults d v ≡ []
        → AreGoodItems (flat_map (items_of ifaces tables) (spliced ifaces env (v ∷ [])))
    one_item v is none defined = listed_items (value_span v) (v ∷ []) refl (is, tt) (append-nil (each_value_faults ifaces env AsAddress v) ∙ none)
        (append-nil (table_faults d v) ∙ defined)

    list_items : (span : Span) (vs : List Value) → Every IsSoundValue vs → empty_list_at span vs ++ each_address vs ≡ [] → flat_map (table_faults d) vs ≡ []
        → AreGoodItems (flat_map (items_of ifaces tables) (spliced ifaces env vs))
    list_items span vs every none defined =
        listed_items span vs (nil_from_append_left (empty_list_at span vs) (each_address vs) none) every
        (nil_from_append_right (empty_list_at span vs) (each_address vs) none) defined

    addresses_meant : (a : Addresses) → AreSoundAddresses a → addresses_faults ifaces env a ≡ [] → tables_of_addresses d a ≡ [] → IfSome (address_items ifaces env tables a) AreGoodItems
    addresses_meant (Addresses.Any span) is none defined = tt
    addresses_meant (Addresses.Excluded (Values.One v own) span) is none defined = one_item v is (sym (append-nil (each_value_faults ifaces env AsAddress v)) ∙ none) defined
    addresses_meant (Addresses.Excluded (Values.List list own) span) is none defined = list_items list.span list.values is none defined
    addresses_meant (Addresses.One v span) is none defined = one_item v is none defined
    addresses_meant (Addresses.List list span) is none defined = list_items list.span list.values is none defined

    -- one end
    record AreGoodEnds (ends : Option WrittenEnds) : Type 0 where
      shown : AreShowableEnds model (ends_of_written ifaces env tables ends)
      regular : AreRegularEnds model (ends_of_written ifaces env tables ends)

    split_items : (o : Option (List AddrItem)) → IfSome o AreGoodItems → IfSome o (All (IsShowableItem model)) × IfSome o (λ items. (0 < length items) × All (IsRegularItem model) items)
    split_items None is = (tt, tt)
    split_items (Some items) is = (all_step IsGoodItem (IsShowableItem model) (λ item good. good.0) items is.1, (is.0, all_step IsGoodItem (IsRegularItem model) (λ item good. good.1) items is.1))

    split_ports : (o : Option (List (ℕ × ℕ))) → IfSome o AreGoodRanges → IfSome o (All IsShowableRange) × IfSome o (λ ports. (0 < length ports) × All IsForward ports)
    split_ports None is = (tt, tt)
    split_ports (Some ranges) is = (all_step IsGoodRange IsShowableRange (λ range good. good.0) ranges is.1, (is.0, all_step IsGoodRange IsForward (λ range good. good.1) ranges is.1))

    exclusion_meant : (a : Addresses) → IsExclusion (is_excluded a) (address_items ifaces env tables a)
    exclusion_meant (Addresses.Any span) = tt
    exclusion_meant (Addresses.Excluded values span) = tt
    exclusion_meant (Addresses.One v span) = tt
    exclusion_meant (Addresses.List list span) = tt

    ends_meant : (o : Option WrittenEnds) → IfThere AreSoundEnds o → ends_faults ifaces env o ≡ [] → tables_of_target d o ≡ [] → AreGoodEnds o
    ends_meant None is none defined = record { shown = record { addrs = tt; ports = tt }; regular = record { excluded = tt; addrs = tt; ports = tt } }
    ends_meant (Some (WrittenEnds.Addresses a o span)) is none defined =
        let items = split_items (address_items ifaces env tables a) (addresses_meant a is.0 (nil_from_append_left (addresses_faults ifaces env a) (ports_faults ifaces env o) none) defined) in
        let ports = split_ports (ports_of ifaces env o) (ports_meant o is.1 (nil_from_append_right (addresses_faults ifaces env a) (ports_faults ifaces env o) none)) in
        record { shown = record { addrs = items.0; ports = ports.0 }; regular = record { excluded = exclusion_meant a; addrs = items.1; ports = ports.1 } }
    ends_meant (Some (WrittenEnds.Ports p span)) is none defined =
        let ports = split_ports (ports_of ifaces env (Some p)) (ports_meant (Some p) is none) in
        record { shown = record { addrs = tt; ports = ports.0 }; regular = record { excluded = tt; addrs = tt; ports = ports.1 } }

    source_sound : (w : Where) → IsSoundWhere w → tables_of_where d w ≡ [] → IfThere AreSoundEnds (source_ends w) × (tables_of_target d (source_ends w) ≡ [])
    source_sound (Where.All span) is none = (tt, refl)
    source_sound (Where.From from to span) is none = (is.0, nil_from_append_left (tables_of_ends d from) (tables_of_target d to) none)
    source_sound (Where.PcapFilter span) is none = (tt, refl)
    source_sound (Where.To to span) is none = (tt, refl)

    destination_sound : (w : Where) → IsSoundWhere w → tables_of_where d w ≡ [] → IfThere AreSoundEnds (destination_ends w) × (tables_of_target d (destination_ends w) ≡ [])
    destination_sound (Where.All span) is none = (tt, refl)
    destination_sound (Where.From from to span) is none = (is.1, nil_from_append_right (tables_of_ends d from) (tables_of_target d to) none)
    destination_sound (Where.PcapFilter span) is none = (tt, refl)
    destination_sound (Where.To to span) is none = (is, none)

    pub filter_meant : (f : Filter) → IsSoundFilter f → filter_faults ifaces env f ≡ [] → tables_of_where d f.ends ≡ []
        → IsShowableFilter model (filter_rule ifaces env tables f) × IsRegularFilter model (filter_rule ifaces env tables f)
    filter_meant f is none defined =
        let of_part = part_faults ifaces env f.proto in
        let of_source = ends_faults ifaces env (source_ends f.ends) in
        let of_destination = ends_faults ifaces env (destination_ends f.ends) in
        let before = nil_from_append_left (of_part ++ of_source) of_destination none in
        let part = part_meant f.proto is.proto (nil_from_append_left of_part of_source before) in
        let source = source_sound f.ends is.ends defined in
        let destination = destination_sound f.ends is.ends defined in
        let from = ends_meant (source_ends f.ends) source.0 (nil_from_append_right of_part of_source before) source.1 in
        let to = ends_meant (destination_ends f.ends) destination.0 (nil_from_append_right (of_part ++ of_source) of_destination none) destination.1 in
        (record { protos = part.0; flags = part.1.flags; icmp = part.1.icmp; from = from.shown; to = to.shown }, record { detail = part.1.one; from = from.regular; to = to.regular })
