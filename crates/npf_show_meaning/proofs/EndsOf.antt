-- The ends of a rule, written and read again.
use Rattle.std.proofs.Common.{◌≡◌, ◌<◌, inl, inr, ℕ, Bool, true, false, is_some, ◌||◌, if◌then◌else◌, Option, Some, None, IfSome, List, [], ◌∷◌, ◌++◌}
use Rattle.std.proofs.{Common.{length, flat_map, filter_map, codes, refl, sym, ap, subst, ◌∙◌, arith, append-nil}, lemmas.Grind.flat_map-append}
use Rattle.std.{proofs.lemmas.List.Elements.filter_map-append, specs.{List.All, Prelude.slice_get}}
use Rattle.npf_types.specs.declared.span.Span.{Span}
use Rattle.npf_lexer.specs.declared.token.Sign.TheVariants as Signs
use Rattle.npf_lexer.specs.declared.token.{Token.Token, TokenKind.TokenKind}
use Rattle.npf_lexer.specs.declared.token.TokenKind.TheVariants as Kind
use Rattle.npf_syntax.specs.declared.{filter.{Addresses.Addresses, EndsTree.EndsTree as WrittenEnds, Where.Where}, value.{Value.Value, ValueList.ValueList}}
use Rattle.npf_syntax.specs.declared.{value.Values.Values, word.{Address.Address, Number.Number, Word.Word}}
use Rattle.npf_model.specs.declared.{ends.{AddrItem.{AddrItem, TheVariants.{Net, InTable}}, Ends.Ends}, iface.Iface.Iface, model.Model.Model}
use Rattle.npf_model.specs.Count.{elements_of_ends}
use Rattle.npf_phrase.specs.Grammar.{Grammar, making, meaning, optional, preceded}
use Rattle.npf_parser_values.specs.{Token.{quoted, sign, span_of}, Value.{value, values, can_stand, is_port, is_port_end}}
use Rattle.npf_parser_values.specs.declared.role.ValueRole.{ValueRole}
use Rattle.npf_parser.specs.Filter.{addresses, ports, ends, the_ends}
use Rattle.npf_expand_values.specs.{Address.{items_of, addresses_faults, addresses_count, address_items, is_excluded}, Atom.Atom, Host.host_count_of, Use.count_of}
use Rattle.npf_expand_values.specs.{Port.{atom_ports, ports_faults, ports_count, ports_of}, Variable.empty_list_at, Source.declared_of}
use Rattle.npf_expand.specs.Rule.{ends_faults, ends_of_written, ends_count, source_ends, destination_ends}
use Rattle.npf_show.specs.Ends.{addresses_pieces, name_of_table, item_pieces, range_pieces, ports_pieces, ends_pieces, is_said, where_pieces}
use Rattle.npf_show.specs.Piece.{Piece, spaced, optional_pieces, list_pieces}
use Rattle.npf_show.specs.Piece as Pieces
use Rattle.npf_show_meaning.specs.Regular.{IsExclusion, IsRegularItem}
use Rattle.npf_show_meaning.proofs.Goes.{Goes, Sees, HeadIn, make, turn, keep, pick_first, pick_second, said, signed, absent, present, it_is, none_is, says_goes}
use Rattle.npf_show_meaning.proofs.Lists.{onto, onto_both, Each}
use Rattle.npf_show_meaning.proofs.Says.{nameless, address_list_faults, port_list_faults, IsElement, net_element, table_element, range_element, elements_faults, elements_give, elements_count}
use Rattle.npf_show_meaning.proofs.{Values.{Behind, keyword, IsRange, net_goes, table_goes, range_goes}, ValueLists.{HasHead, either_goes, list_head}}

each_some : {A : Type 0} (S : Value → A → Type 0) (span : Span) (values : List Value) (x : A) (xs : List A) → Each S values (x ∷ xs) → empty_list_at span values ≡ []
each_some S span [] x xs each = absurd each
each_some S span (v ∷ values) x xs each = refl

-- what stands behind an end
abbrev pub end_stops : List TokenKind
end_stops = keyword (codes "to") ∷ keyword (codes "apply") ∷ Kind.LineFeed ∷ []

-- what stands behind a filter
abbrev pub where_stops : List TokenKind
where_stops = keyword (codes "apply") ∷ Kind.LineFeed ∷ []

-- what stands first of both ends
abbrev pub where_starts : List TokenKind
where_starts = keyword (codes "all") ∷ keyword (codes "from") ∷ keyword (codes "to") ∷ []

end_behind : (ks : List TokenKind) → HeadIn end_stops ks → Behind false ks
end_behind ks (inl here) = inr (inl here)
end_behind ks (inr (inl here)) = inr (inr (inr (inl here)))
end_behind ks (inr (inr (inl here))) = inr (inr (inr (inr (inl here))))
end_behind ks (inr (inr (inr never))) = absurd never

module _ (ifaces : List Iface) (model : Model) where
  abbrev tables : List (List ℕ)
  tables = (declared_of model).tables

  abbrev IsItem : Value → AddrItem → Type 0
  IsItem = IsElement ifaces (host_count_of ifaces) (address_list_faults ifaces) (flat_map (items_of ifaces tables))

  item_goes : (role : _) → ((a : Address) (o : Option Number) (span : Span) → can_stand role (Value.Address a o span) ≡ true) →
      ((w : Word) (span : Span) → can_stand role (Value.Table w span) ≡ true) → (inside : Bool) (item : AddrItem) → IsRegularItem model item → (to : List TokenKind) → Behind inside to
      → Goes (value role inside) (λ v. IsItem v item) (onto (item_pieces model item) to) to
  item_goes role stands tables_stand inside (Net prefix) is to here = keep (net_element ifaces tables prefix) (net_goes ifaces role stands inside prefix to here)
  item_goes role stands tables_stand inside (InTable number) is to here =
      let name = name_of_table (slice_get model.tables number) in
      keep (λ v says. table_element ifaces tables name number v is.place says) (table_goes ifaces role tables_stand inside name to is.name here)

  item_head : (item : AddrItem) → IsRegularItem model item → (to : List TokenKind) → HasHead (onto (item_pieces model item) to)
  item_head (Net prefix) is to =
      record { kind = Kind.Address prefix.addr; rest = _; is = refl; feed = λ s. refl; opening = λ s. refl; closing = λ s. refl; any = λ s. refl; exclamation = λ s. refl; port = λ s. refl }
  item_head (InTable number) is to =
      record { kind = Kind.Sign Signs.Less; rest = _; is = refl; feed = λ s. refl; opening = λ s. refl; closing = λ s. refl; any = λ s. refl; exclamation = λ s. refl; port = λ s. refl }

  record SaysAddresses (excluded : Bool) (items : List AddrItem) (a : Addresses) : Type 0 where
    excludes : is_excluded a ≡ excluded
    faults : addresses_faults ifaces (nameless ifaces) a ≡ []
    gives : address_items ifaces (nameless ifaces) tables a ≡ Some items
    count : addresses_count ifaces (nameless ifaces) a ≡ length items

  abbrev addresses_give : List Atom → List AddrItem
  addresses_give = flat_map (items_of ifaces tables)

  addresses_both : (xs ys : List Atom) → addresses_give (xs ++ ys) ≡ addresses_give xs ++ addresses_give ys
  addresses_both xs ys = flat_map-append (items_of ifaces tables) xs ys

  says_list : (span : Span) (list : ValueList) (x : AddrItem) (xs : List AddrItem) → Each IsItem list.values (x ∷ xs) → SaysAddresses false (x ∷ xs) (Addresses.List list span)
  says_list span list x xs each = record {
    excludes = refl;
    faults = rw (
      each_some IsItem list.span list.values x xs each,
      elements_faults ifaces (host_count_of ifaces) (address_list_faults ifaces) addresses_give refl refl
          addresses_both list.values (x ∷ xs) each,
    ) refl;
    gives = ap Some (elements_give ifaces (host_count_of ifaces) (address_list_faults ifaces) addresses_give refl refl addresses_both list.values (x ∷ xs) each);
    count = elements_count ifaces (host_count_of ifaces) (address_list_faults ifaces) addresses_give refl refl addresses_both list.values (x ∷ xs) each;
  }

  says_one : (span : Span) (v : Value) (x : AddrItem) → IsItem v x → SaysAddresses false (x ∷ []) (Addresses.One v span)
  says_one span v x is = record {
    excludes = refl;
    faults = sym (append-nil _) ∙ is.faults [] refl;
    gives = ap Some (elements_give ifaces (host_count_of ifaces) (address_list_faults ifaces) addresses_give refl refl addresses_both (v ∷ []) (x ∷ []) (is, tt));
    count = elements_count ifaces (host_count_of ifaces) (address_list_faults ifaces) addresses_give refl refl addresses_both (v ∷ []) (x ∷ []) (is, tt);
  }

  -- the same of values that are excluded
  abbrev SaysExcluded : List AddrItem → Values → Type 0
  SaysExcluded items values = (span : Span) → SaysAddresses true items (Addresses.Excluded values span)

  excluded_list : (own : Span) (list : ValueList) (x : AddrItem) (xs : List AddrItem) → Each IsItem list.values (x ∷ xs) → SaysExcluded (x ∷ xs) (Values.List list own)
  excluded_list own list x xs each span =
      let is = says_list span list x xs each in record { excludes = refl; faults = is.faults; gives = is.gives; count = is.count }

  excluded_one : (own : Span) (v : Value) (x : AddrItem) → IsItem v x → SaysExcluded (x ∷ []) (Values.One v own)
  excluded_one own v x is span =
      let one = says_one span v x is in record { excludes = refl; faults = is.faults [] refl; gives = one.gives; count = one.count }

  abbrev excluded_addresses : Grammar Token Addresses
  excluded_addresses = making (λ ts those. Addresses.Excluded those (span_of ts)) (preceded (sign Signs.Exclamation) (values ValueRole.Address))

  addresses_go : (excluded : Bool) (x : AddrItem) (xs : List AddrItem) → All (IsRegularItem model) (x ∷ xs) → (to : List TokenKind) → Behind false to
      → Goes addresses (SaysAddresses excluded (x ∷ xs)) (onto (addresses_pieces model excluded (x ∷ xs)) to) to
  unfolding addresses values
  addresses_go false x xs all to here =
      pick_second (list_head (IsRegularItem model) (item_pieces model) item_head x xs all to (meaning (quoted (codes "any"))).starts (λ ks head s. head.any s) (λ s. refl))
      (pick_second (list_head (IsRegularItem model) (item_pieces model) item_head x xs all to (meaning excluded_addresses).starts (λ ks head s. ap (λ b. b || false) (head.exclamation s)) (λ s. refl))
      (either_goes _ IsItem (IsRegularItem model) (item_pieces model) (item_goes _ (λ a o s. refl) (λ w s. refl)) item_head (SaysAddresses false)
      (λ ts list. Addresses.List list (span_of ts)) (λ ts v. Addresses.One v (span_of ts))
      (λ ts list x xs each. says_list (span_of ts) list x xs each) (λ ts v x is. says_one (span_of ts) v x is) x xs all to here))
  addresses_go true x xs all to here =
      pick_second (it_is (λ s. refl))
      (pick_first (it_is (λ s. refl))
      (make {P = SaysExcluded (x ∷ xs)} (λ ts values is. is (span_of ts))
      (signed (either_goes _ IsItem (IsRegularItem model) (item_pieces model) (item_goes _ (λ a o s. refl) (λ w s. refl)) item_head SaysExcluded
      (λ ts list. Values.List list (span_of ts)) (λ ts v. Values.One v (span_of ts))
      (λ ts list x xs each. excluded_list (span_of ts) list x xs each) (λ ts v x is. excluded_one (span_of ts) v x is) x xs all to here))))

  -- ports
  abbrev IsPort : Value → ℕ × ℕ → Type 0
  IsPort = IsElement ifaces count_of (port_list_faults ifaces) (filter_map atom_ports)

  port_goes : (role : _) → ((first : Number) (last : Option Number) (span : Span) → is_port first ≡ true → is_port_end last ≡ true → can_stand role (Value.Number first last span) ≡ true) →
      (inside : Bool) (range : ℕ × ℕ) → IsRange ifaces range → (to : List TokenKind) → Behind inside to
      → Goes (value role inside) (λ v. IsPort v range) (onto (range_pieces range) to) to
  port_goes role stands inside range is to here = keep (range_element ifaces range) (range_goes ifaces role stands inside range is to here)

  port_head : (range : ℕ × ℕ) → IsRange ifaces range → (to : List TokenKind) → HasHead (onto (range_pieces range) to)
  port_head range is to =
      record { kind = Kind.Number range.0; rest = _; is = refl; feed = λ s. refl; opening = λ s. refl; closing = λ s. refl; any = λ s. refl; exclamation = λ s. refl; port = λ s. refl }

  record SaysPorts (ranges : List (ℕ × ℕ)) (v : Values) : Type 0 where
    faults : ports_faults ifaces (nameless ifaces) (Some v) ≡ []
    gives : ports_of ifaces (nameless ifaces) (Some v) ≡ Some ranges
    count : ports_count ifaces (nameless ifaces) (Some v) ≡ length ranges

  ports_both : (xs ys : List Atom) → filter_map atom_ports (xs ++ ys) ≡ filter_map atom_ports xs ++ filter_map atom_ports ys
  ports_both xs ys = filter_map-append atom_ports xs ys

  says_ports : (span : Span) (list : ValueList) (x : ℕ × ℕ) (xs : List (ℕ × ℕ)) → Each IsPort list.values (x ∷ xs) → SaysPorts (x ∷ xs) (Values.List list span)
  says_ports span list x xs each = record {
    faults = rw (
      each_some IsPort list.span list.values x xs each,
      elements_faults ifaces count_of (port_list_faults ifaces) (filter_map atom_ports) refl refl
          ports_both list.values (x ∷ xs) each,
    ) refl;
    gives = ap Some (elements_give ifaces count_of (port_list_faults ifaces) (filter_map atom_ports) refl refl ports_both list.values (x ∷ xs) each);
    count = elements_count ifaces count_of (port_list_faults ifaces) (filter_map atom_ports) refl refl ports_both list.values (x ∷ xs) each;
  }

  says_port : (span : Span) (v : Value) (x : ℕ × ℕ) → IsPort v x → SaysPorts (x ∷ []) (Values.One v span)
  says_port span v x is = record {
    faults = is.faults [] refl;
    gives = ap Some (elements_give ifaces count_of (port_list_faults ifaces) (filter_map atom_ports) refl refl ports_both (v ∷ []) (x ∷ []) (is, tt));
    count = elements_count ifaces count_of (port_list_faults ifaces) (filter_map atom_ports) refl refl ports_both (v ∷ []) (x ∷ []) (is, tt);
  }

  ports_go : (x : ℕ × ℕ) (xs : List (ℕ × ℕ)) → All (IsRange ifaces) (x ∷ xs) → (to : List TokenKind) → Behind false to
      → Goes ports (SaysPorts (x ∷ xs)) (onto (ports_pieces (x ∷ xs)) to) to
  unfolding ports values
  ports_go x xs all to here =
      said (either_goes _ IsPort (IsRange ifaces) range_pieces (port_goes _ (λ f l s p q. rw (p, q) refl)) port_head SaysPorts
      (λ ts list. Values.List list (span_of ts)) (λ ts v. Values.One v (span_of ts))
      (λ ts list x xs each. says_ports (span_of ts) list x xs each) (λ ts v x is. says_port (span_of ts) v x is) x xs all to here)

  -- an end
  pub record SaysEnds (e : Ends) (o : Option WrittenEnds) : Type 0 where
    pub faults : ends_faults ifaces (nameless ifaces) o ≡ []
    pub gives : ends_of_written ifaces (nameless ifaces) tables o ≡ e
    pub count : ends_count ifaces (nameless ifaces) o ≡ elements_of_ends e

  pub record AreFine (e : Ends) : Type 0 where
    pub excluded : IsExclusion e.excluded e.addrs
    pub addrs : IfSome e.addrs (λ items. (0 < length items) × All (IsRegularItem model) items)
    pub ports : IfSome e.ports (λ ports. (0 < length ports) × All (IsRange ifaces) ports)

  no_elements : {R : Type 0} → 0 < 0 → R
  no_elements some = absurd (let none : ⊥ = omega (arith, some) in none)

  abbrev GoesEnds : Bool → Option (List AddrItem) → Option (List (ℕ × ℕ)) → List TokenKind → Type 0
  GoesEnds excluded addrs those to =
      Goes ends (λ e. SaysEnds (record { excluded = excluded; addrs = addrs; ports = those }) (Some e))
      (onto (optional_pieces (addresses_pieces model excluded) addrs ++ optional_pieces ports_pieces those) to) to

  no_port : (excluded : Bool) (x : AddrItem) (xs : List AddrItem) → All (IsRegularItem model) (x ∷ xs) → (to : List TokenKind)
      → Sees false (meaning ports).starts (onto (addresses_pieces model excluded (x ∷ xs)) to)
  unfolding ports
  no_port false x xs all to =
      list_head (IsRegularItem model) (item_pieces model) item_head x xs all to (meaning ports).starts (λ ks head s. ap (λ b. b || false) (head.port s)) (λ s. refl)
  no_port true x xs all to = it_is (λ s. refl)

  says_alone : (span : Span) (excluded : Bool) (x : AddrItem) (xs : List AddrItem) (a : Addresses) (o : Option Values) → SaysAddresses excluded (x ∷ xs) a → o ≡ None
      → SaysEnds (record { excluded = excluded; addrs = Some (x ∷ xs); ports = None }) (Some (WrittenEnds.Addresses a o span))
  says_alone span excluded x xs a o is none = record {
    faults = rw (is.faults, none) refl;
    gives = rw (is.excludes, is.gives, none) refl;
    count = rw (is.count, none) refl;
  }

  says_both : (span : Span) (excluded : Bool) (x : AddrItem) (xs : List AddrItem) (y : ℕ × ℕ) (ys : List (ℕ × ℕ)) (a : Addresses) (v : Values)
      → SaysAddresses excluded (x ∷ xs) a → SaysPorts (y ∷ ys) v
      → SaysEnds (record { excluded = excluded; addrs = Some (x ∷ xs); ports = Some (y ∷ ys) }) (Some (WrittenEnds.Addresses a (Some v) span))
  says_both span excluded x xs y ys a v is those = record {
    faults = rw (is.faults, those.faults) refl;
    gives = rw (is.excludes, is.gives, those.gives) refl;
    count = rw (is.count, those.count) refl;
  }

  -- ports that stand behind addresses
  abbrev AreListed : List (ℕ × ℕ) → Option Values → Type 0
  AreListed ranges None = ⊥
  AreListed ranges (Some v) = SaysPorts ranges v

  says_listed : (span : Span) (excluded : Bool) (x : AddrItem) (xs : List AddrItem) (y : ℕ × ℕ) (ys : List (ℕ × ℕ)) (a : Addresses) (o : Option Values)
      → SaysAddresses excluded (x ∷ xs) a → AreListed (y ∷ ys) o
      → SaysEnds (record { excluded = excluded; addrs = Some (x ∷ xs); ports = Some (y ∷ ys) }) (Some (WrittenEnds.Addresses a o span))
  says_listed span excluded x xs y ys a None is those = absurd those
  says_listed span excluded x xs y ys a (Some v) is those = says_both span excluded x xs y ys a v is those

  ends_by : (excluded : Bool) (addrs : Option (List AddrItem)) (those : Option (List (ℕ × ℕ))) → AreFine (record { excluded = excluded; addrs = addrs; ports = those })
      → (is_some addrs || is_some those) ≡ true → (to : List TokenKind) → HeadIn end_stops to → GoesEnds excluded addrs those to
  unfolding ends ports
  ends_by excluded None None fine said_some to here = cc
  ends_by excluded None (Some []) fine said_some to here = no_elements fine.ports.0
  ends_by true None (Some (y ∷ ys)) fine said_some to here = absurd fine.excluded
  ends_by false None (Some (y ∷ ys)) fine said_some to here =
      pick_first (it_is (λ s. refl))
      (make (λ ts v is. record {
        faults = is.faults;
        gives = ap (λ o. record { excluded = false; addrs = None; ports = o }) is.gives;
        count = is.count ∙ omega arith;
      }) (ports_go y ys fine.ports.1 to (end_behind to here)))
  ends_by excluded (Some []) those fine said_some to here = no_elements fine.addrs.0
  ends_by excluded (Some (x ∷ xs)) None fine said_some to here =
      subst (λ from. Goes ends (λ e. SaysEnds (record { excluded = excluded; addrs = Some (x ∷ xs); ports = None }) (Some e)) from to)
      (sym (onto_both (addresses_pieces model excluded (x ∷ xs)) [] to))
      (pick_second (no_port excluded x xs fine.addrs.1 to)
      (make {P = λ a. SaysAddresses excluded (x ∷ xs) a.0 × (a.1 ≡ None)} (λ ts a is. says_alone (span_of ts) excluded x xs a.0 a.1 is.0 is.1)
      (turn (addresses_go excluded x xs fine.addrs.1 to (end_behind to here)) (absent {g = ports} {P = λ o. o ≡ None} (none_is end_stops (λ s. refl) here) refl))))
  ends_by excluded (Some (x ∷ xs)) (Some []) fine said_some to here = no_elements fine.ports.0
  ends_by excluded (Some (x ∷ xs)) (Some (y ∷ ys)) fine said_some to here =
      let behind = onto (ports_pieces (y ∷ ys)) to in
      subst (λ from. Goes ends (λ e. SaysEnds (record { excluded = excluded; addrs = Some (x ∷ xs); ports = Some (y ∷ ys) }) (Some e)) from to)
      (sym (onto_both (addresses_pieces model excluded (x ∷ xs)) (ports_pieces (y ∷ ys)) to))
      (pick_second (no_port excluded x xs fine.addrs.1 behind)
      (make {P = λ a. SaysAddresses excluded (x ∷ xs) a.0 × AreListed (y ∷ ys) a.1} (λ ts a is. says_listed (span_of ts) excluded x xs y ys a.0 a.1 is.0 is.1)
      (turn (addresses_go excluded x xs fine.addrs.1 behind (inl (_, refl)))
      (present {P = AreListed (y ∷ ys)} (it_is (λ s. refl)) (ports_go y ys fine.ports.1 to (end_behind to here))))))

  pub ends_go : (e : Ends) → AreFine e → is_said e ≡ true → (to : List TokenKind) → HeadIn end_stops to → Goes ends (λ tree. SaysEnds e (Some tree)) (onto (ends_pieces model e) to) to
  ends_go e fine said_some to here = ends_by e.excluded e.addrs e.ports fine said_some to here

  -- an end that says nothing
  unsaid_by : (excluded : Bool) (addrs : Option (List AddrItem)) (those : Option (List (ℕ × ℕ))) → IsExclusion excluded addrs → (is_some addrs || is_some those) ≡ false
      → SaysEnds (record { excluded = excluded; addrs = addrs; ports = those }) None
  unsaid_by true None None is none = absurd is
  unsaid_by false None None is none = record { faults = refl; gives = refl; count = refl }
  unsaid_by excluded (Some items) those is none = cc
  unsaid_by excluded None (Some ranges) is none = cc

  unsaid : (e : Ends) → AreFine e → is_said e ≡ false → SaysEnds e None
  unsaid e fine none = unsaid_by e.excluded e.addrs e.ports fine.excluded none

  -- both ends
  abbrev pub SaysWhere : Ends → Ends → Where → Type 0
  SaysWhere from to tree = SaysEnds from (source_ends tree) × SaysEnds to (destination_ends tree)

  abbrev target : Bool → Ends → List Piece
  target t to = if t then spaced (Pieces.Word (codes "to")) ++ ends_pieces model to else []

  abbrev source : Bool → Ends → List Piece
  source f from = if f then spaced (Pieces.Word (codes "from")) ++ ends_pieces model from else []

  target_goes : (t : Bool) (to : Ends) → is_said to ≡ t → AreFine to → (behind : List TokenKind) → HeadIn where_stops behind
      → Goes (optional (preceded (quoted (codes "to")) ends)) (SaysEnds to) (onto (target t to) behind) behind
  target_goes true to is fine behind here = present (it_is (λ s. refl)) (said (ends_go to fine is behind (inr here)))
  target_goes false to is fine behind here = absent {g = preceded (quoted (codes "to")) ends} (none_is where_stops (λ s. refl) here) (unsaid to fine is)

  target_head : (t : Bool) (to : Ends) (behind : List TokenKind) → HeadIn where_stops behind → HeadIn end_stops (onto (target t to) behind)
  target_head true to behind here = inl (_, refl)
  target_head false to behind here = inr here

  where_by : (f t : Bool) (from to : Ends) → is_said from ≡ f → is_said to ≡ t → AreFine from → AreFine to → (behind : List TokenKind) → HeadIn where_stops behind
      → Goes the_ends (SaysWhere from to) (onto (if f || t then source f from ++ target t to else spaced (Pieces.Word (codes "all"))) behind) behind
  unfolding the_ends
  where_by true t from to is it fine fair behind here =
      let rest = onto (target t to) behind in
      subst (λ ks. Goes the_ends (SaysWhere from to) (keyword (codes "from") ∷ ks) behind) (sym (onto_both (ends_pieces model from) (target t to) behind))
      (pick_second (it_is (λ s. refl)) (pick_first (it_is (λ s. refl))
      (make {P = λ a. SaysEnds from (Some a.0) × SaysEnds to a.1} (λ ts a says. says)
      (said (turn (ends_go from fine is rest (target_head t to behind here)) (target_goes t to it fair behind here))))))
  where_by false true from to is it fine fair behind here =
      pick_second (it_is (λ s. refl)) (pick_second (it_is (λ s. refl)) (pick_second (it_is (λ s. refl))
      (make {P = λ a. SaysEnds to (Some a)} (λ ts a says. (unsaid from fine is, says)) (said (ends_go to fair it behind (inr here))))))
  where_by false false from to is it fine fair behind here =
      pick_first (it_is (λ s. refl)) (says_goes (codes "all") Where.All (SaysWhere from to) behind (λ s. (unsaid from fine is, unsaid to fair it)))

  pub where_goes : (from to : Ends) → AreFine from → AreFine to → (behind : List TokenKind) → HeadIn where_stops behind
      → Goes the_ends (SaysWhere from to) (onto (where_pieces model from to) behind) behind
  where_goes from to fine fair behind here = where_by (is_said from) (is_said to) from to refl refl fine fair behind here

  where_first : (f t : Bool) (from to : Ends) (behind : List TokenKind)
      → HeadIn where_starts (onto (if f || t then source f from ++ target t to else spaced (Pieces.Word (codes "all"))) behind)
  where_first true t from to behind = inr (inl (_, refl))
  where_first false true from to behind = inr (inr (inl (_, refl)))
  where_first false false from to behind = inl (_, refl)

  pub where_head : (from to : Ends) (behind : List TokenKind) → HeadIn where_starts (onto (where_pieces model from to) behind)
  where_head from to behind = where_first (is_said from) (is_said to) from to behind
