-- The statement of a map.
use Rattle.std.proofs.Common.{◌≡◌, ◌≤◌, inl, inr, ℕ, ◌+◌, nat_lt, true, false, Option, Some, None, IfSome, option_map, List, [], ◌∷◌, ◌++◌, codes, refl, sym, ap, ap₂, subst, ◌∙◌, arith}
use Rattle.std.proofs.lemmas.Bool.Decides.{nat_tests}
use Rattle.npf_types.specs.{declared.{limits.TheConstants.MAX_LIST_ELEMENTS, span.Span.Span}, Name.name_bytes}
use Rattle.npf_lexer.specs.declared.token.Sign.TheVariants as Signs
use Rattle.npf_lexer.specs.declared.token.TokenKind.{TokenKind}
use Rattle.npf_lexer.specs.declared.token.TokenKind.TheVariants as Kind
use Rattle.npf_syntax.specs.declared.{filter.Filter.Filter, map.{ArrowTree.ArrowTree as WrittenArrow, MapKind.MapKind, SideTree.SideTree as WrittenSide}}
use Rattle.npf_syntax.specs.declared.{stmt.Stmt.Stmt, value.{IfaceTree.IfaceTree as WrittenIface, One.One, Value.Value}, word.{Number.Number, Word.Word}}
use Rattle.npf_model.specs.declared.{iface.Iface.Iface, map.{Algo.Algo, Arrow.Arrow, Map.Map, Side.Side}, model.Model.Model, rule.Rule.Rule}
use Rattle.npf_model.specs.declared.map.Algo.TheVariants as Algos
use Rattle.npf_model.specs.declared.map.Arrow.TheVariants as Arrows
use Rattle.npf_phrase.specs.Grammar.{meaning, optional, preceded}
use Rattle.npf_parser_values.specs.{Token.{word, quoted, span_of}, Value.{one, value, can_stand, is_port, is_port_end}}
use Rattle.npf_parser.specs.{Filter.filter, Map.{no_ports, kind_details, map_kind, arrow, side, map_ruleset}, Stmt.{MapRest, translation, map_rest, map}}
use Rattle.npf_expand_values.specs.{Protocol.{one_protocol, one_protocol_faults}, Source.declared_of}
use Rattle.npf_expand.specs.{Elaborates.filter_elements, Map.{algo_of, arrow_of_sign, side_faults, side_of, side_port, side_port_faults, map_filter_faults}}
use Rattle.npf_expand.specs.Rule.{filter_rule}
use Rattle.npf_show.specs.{Ends.prefix_pieces, Map.{algo_pieces, one_proto_pieces, side_port_pieces, side_pieces, arrow_pieces, pass_pieces}}
use Rattle.npf_show.specs.Piece.{Piece, glued, spaced, optional_pieces}
use Rattle.npf_show.specs.Piece as Pieces
use Rattle.npf_show_tokens.specs.Showable.{FitsByte}
use Rattle.npf_show_meaning.specs.Regular.{pass_elements, IsRegularOn, IsFilterAlone}
use Rattle.npf_show_meaning.proofs.Goes.{Goes, Sees, HeadIn, Anything, make, turn, keep, pick_first, pick_second, said, absent, present, it_is, none_is, sign_goes}
use Rattle.npf_show_meaning.proofs.{Lists.{onto, onto_both}, Says.{nameless, SaysNet, net_side, range_side}}
use Rattle.npf_show_meaning.proofs.{Values.{keyword, Behind, IsRange, net_goes, range_goes}, Blocks.feed}
use Rattle.npf_show_meaning.proofs.{FilterOf.{SaysOne, one_goes, IsFineFilter, filter_goes, alone}, RuleOf.{SaysOn, iface_goes}, GroupOf.few_elements}
use Rattle.npf_show_meaning.proofs.{TableStmt.any_word_goes, Parts.{OfMap, SaysPartOf}}

-- the tokens behind a map's kind
abbrev behind_kind : Option ℕ → Side → List TokenKind → List TokenKind
behind_kind proto s ks = onto (optional_pieces one_proto_pieces proto) (onto (side_pieces s) ks)

no_algo : (proto : Option ℕ) (s : Side) (ks : List TokenKind) → Goes (optional (preceded (quoted (codes "algo")) word)) Anything (behind_kind proto s ks) (behind_kind proto s ks)
no_algo None s ks = absent {g = preceded (quoted (codes "algo")) word} (it_is (λ s. refl)) tt
no_algo (Some n) s ks = absent {g = preceded (quoted (codes "algo")) word} (it_is (λ s. refl)) tt

no_no_ports : (proto : Option ℕ) (s : Side) (ks : List TokenKind) → Goes (optional no_ports) Anything (behind_kind proto s ks) (behind_kind proto s ks)
no_no_ports None s ks = absent {g = no_ports} (it_is (λ s. refl)) tt
no_no_ports (Some n) s ks = absent {g = no_ports} (it_is (λ s. refl)) tt

-- a word behind `static algo`
static_goes : (text : List ℕ) (algo : Algo) → ((w : Word) (none : Option Span) (span : Span) → w.text ≡ text → algo_of (MapKind.Static (Some w) none span) ≡ algo)
    → (proto : Option ℕ) (s : Side) (ks : List TokenKind)
    → Goes map_kind (λ k. algo_of k ≡ algo) (keyword (codes "static") ∷ keyword (codes "algo") ∷ keyword text ∷ behind_kind proto s ks) (behind_kind proto s ks)
unfolding map_kind kind_details
static_goes text algo means proto s ks =
    pick_second (it_is (λ s. refl))
    (make {P = λ a. ((w : Word) × (a.0 ≡ Some w) × (w.text ≡ text)) × Anything a.1}
    (λ ts a q. ap (λ o. algo_of (MapKind.Static o a.1 (span_of ts))) q.0.1 ∙ means q.0.0 a.1 (span_of ts) q.0.2)
    (said (turn (present {g = preceded (quoted (codes "algo")) word} {P = λ o. (w : Word) × (o ≡ Some w) × (w.text ≡ text)}
    (it_is (λ s. refl)) (said (keep (λ w same. (w, refl, same)) (any_word_goes text (behind_kind proto s ks))))) (no_no_ports proto s ks))))

algo_goes : (algo : Algo) (proto : Option ℕ) (s : Side) (ks : List TokenKind)
    → Goes map_kind (λ k. algo_of k ≡ algo) (onto (algo_pieces algo) (behind_kind proto s ks)) (behind_kind proto s ks)
unfolding map_kind kind_details
algo_goes Algos.Dynamic proto s ks =
    pick_first (it_is (λ s. refl)) (make {P = λ a. Anything a.0 × Anything a.1} (λ ts a q. refl) (said (turn (no_algo proto s ks) (no_no_ports proto s ks))))
algo_goes Algos.Netmap proto s ks = static_goes (codes "netmap") Algos.Netmap (λ w none span same. rw same refl) proto s ks
algo_goes Algos.Npt66 proto s ks = static_goes (codes "npt66") Algos.Npt66 (λ w none span same. rw same refl) proto s ks

no_string : (algo : Algo) (ks : List TokenKind) → Sees false (meaning map_ruleset).starts (onto (algo_pieces algo) ks)
unfolding map_ruleset
no_string Algos.Dynamic ks = it_is (λ s. refl)
no_string Algos.Netmap ks = it_is (λ s. refl)
no_string Algos.Npt66 ks = it_is (λ s. refl)

arrow_goes : (a : Arrow) (ks : List TokenKind) → Goes arrow (λ tree. arrow_of_sign tree ≡ a) (onto (arrow_pieces a) ks) ks
unfolding arrow
arrow_goes Arrows.ToOutside ks = pick_first (it_is (λ s. refl)) (make (λ ts a is. refl) (sign_goes Signs.Right ks))
arrow_goes Arrows.ToInside ks = pick_second (it_is (λ s. refl)) (pick_first (it_is (λ s. refl)) (make (λ ts a is. refl) (sign_goes Signs.Left ks)))
arrow_goes Arrows.Both ks = pick_second (it_is (λ s. refl)) (pick_second (it_is (λ s. refl)) (make (λ ts a is. refl) (sign_goes Signs.Both ks)))

arrow_head : (a : Arrow) (ks : List TokenKind) → HeadIn (Kind.Sign Signs.Right ∷ Kind.Sign Signs.Left ∷ Kind.Sign Signs.Both ∷ []) (onto (arrow_pieces a) ks)
arrow_head Arrows.ToOutside ks = inl (_, refl)
arrow_head Arrows.ToInside ks = inr (inl (_, refl))
arrow_head Arrows.Both ks = inr (inr (inl (_, refl)))

-- what stands behind a side
abbrev side_stops : List TokenKind
side_stops = keyword (codes "pass") ∷ feed ∷ Kind.Sign Signs.Right ∷ Kind.Sign Signs.Left ∷ Kind.Sign Signs.Both ∷ []

side_behind : (ks : List TokenKind) → HeadIn side_stops ks → Behind false ks
side_behind ks (inl here) = inr (inr (inl here))
side_behind ks (inr (inl here)) = inr (inr (inr (inr (inl here))))
side_behind ks (inr (inr more)) = inr (inr (inr (inr (inr more))))

-- a rule that is its filter alone
same_alone : (ifaces : List Iface) (model : Model) (r : Rule) → IsFilterAlone r → alone ifaces model r ≡ r
same_alone ifaces model r is = λ i. record r {
  decision = sym is.decision i;
  state = sym is.state i;
  dir = sym is.dir i;
  last = sym is.last i;
  on = sym is.on i;
  procedure = sym is.procedure i;
}

module _ (ifaces : List Iface) (model : Model) where
  record SaysSide (s : Side) (tree : WrittenSide) : Type 0 where
    faults : side_faults ifaces (nameless ifaces) tree ≡ []
    gives : side_of ifaces (nameless ifaces) tree ≡ s

  abbrev SaysSidePort : Option (ℕ × ℕ) → Option Value → Type 0
  SaysSidePort ports o = (side_port_faults ifaces (nameless ifaces) o ≡ []) × (side_port ifaces (nameless ifaces) o ≡ ports)

  side_port_goes : (role : _) → ((first : Number) (last : Option Number) (span : Span) → is_port first ≡ true → is_port_end last ≡ true → can_stand role (Value.Number first last span) ≡ true)
      → (ports : Option (ℕ × ℕ)) → IfSome ports (IsRange ifaces) → (ks : List TokenKind) → HeadIn side_stops ks
      → Goes (optional (preceded (quoted (codes "port")) (value role false))) (SaysSidePort ports) (onto (optional_pieces side_port_pieces ports) ks) ks
  side_port_goes role stands None is ks here = absent {g = preceded (quoted (codes "port")) (value role false)} (none_is side_stops (λ s. refl) here) (refl, refl)
  side_port_goes role stands (Some range) is ks here =
      present {g = preceded (quoted (codes "port")) (value role false)} (it_is (λ s. refl))
      (said (keep (λ v says. range_side ifaces range v says) (range_goes ifaces role stands false range is ks (side_behind ks here))))

  port_behind : (ports : Option (ℕ × ℕ)) (ks : List TokenKind) → HeadIn side_stops ks → Behind false (onto (optional_pieces side_port_pieces ports) ks)
  port_behind None ks here = side_behind ks here
  port_behind (Some range) ks here = inl (_, refl)

  side_goes : (s : Side) → IfSome s.ports (IsRange ifaces) → (ks : List TokenKind) → HeadIn side_stops ks → Goes side (SaysSide s) (onto (side_pieces s) ks) ks
  unfolding side
  side_goes s is ks here =
      let behind = onto (optional_pieces side_port_pieces s.ports) ks in
      subst (λ from. Goes side (SaysSide s) from ks) (sym (onto_both (prefix_pieces s.net) (optional_pieces side_port_pieces s.ports) ks))
      (make {P = λ a. SaysNet ifaces s.net a.0 × SaysSidePort s.ports a.1}
      (λ ts a q. let net = net_side ifaces s.net a.0 q.0 a.1 (span_of ts) in record { faults = net.0 ∙ q.1.0; gives = ap₂ (λ n p. record { net = n; ports = p }) net.1 q.1.1 })
      (turn (net_goes ifaces _ (λ a o s. refl) false s.net behind (port_behind s.ports ks here)) (side_port_goes _ (λ f l s p q. rw (p, q) refl) s.ports is ks here)))

  abbrev SaysProto : Option ℕ → Option One → Type 0
  SaysProto proto o = (one_protocol_faults (nameless ifaces) o ≡ []) × (one_protocol (nameless ifaces) o ≡ proto)

  proto_says : (n : ℕ) → FitsByte n → (tree : One) → SaysOne ifaces n tree → SaysProto (Some n) (Some tree)
  proto_says n small tree is =
      let fits : nat_lt 255 n ≡ false = grind (arith, nat_tests) in
      (rw (is.binding, fits) refl, rw (is.binding, fits) refl)

  proto_goes : (proto : Option ℕ) → IfSome proto FitsByte → (s : Side) (ks : List TokenKind)
      → Goes (optional (preceded (quoted (codes "proto")) one)) (SaysProto proto) (onto (optional_pieces one_proto_pieces proto) (onto (side_pieces s) ks)) (onto (side_pieces s) ks)
  proto_goes None small s ks = absent {g = preceded (quoted (codes "proto")) one} (it_is (λ s. refl)) (refl, refl)
  proto_goes (Some n) small s ks = present {g = preceded (quoted (codes "proto")) one} {P = SaysProto (Some n)} (it_is (λ s. refl))
      (said (keep (λ a says. proto_says n small a says) (one_goes ifaces n small (onto (side_pieces s) ks))))

  -- the filter of a map
  abbrev SaysPass : Option Rule → Option Filter → Type 0
  SaysPass pass o = (map_filter_faults ifaces (nameless ifaces) o ≡ []) × (option_map (filter_rule ifaces (nameless ifaces) (declared_of model).tables) o ≡ pass)
      × (filter_elements ifaces (declared_of model) (nameless ifaces) o ≡ pass_elements pass)

  pass_goes : (pass : Option Rule) → IfSome pass (λ r. IsFilterAlone r × IsFineFilter ifaces model r) → (ks : List TokenKind)
      → Goes (optional (preceded (quoted (codes "pass")) filter)) (SaysPass pass) (onto (optional_pieces (pass_pieces model) pass) (feed ∷ ks)) (feed ∷ ks)
  pass_goes None is ks = absent {g = preceded (quoted (codes "pass")) filter} (it_is (λ s. refl)) (refl, refl, refl)
  pass_goes (Some r) is ks =
      present {g = preceded (quoted (codes "pass")) filter} {P = SaysPass (Some r)} (it_is (λ s. refl))
      (said (keep (λ tree says. (says.faults, ap Some (says.gives ∙ same_alone ifaces model r is.0), says.count)) (filter_goes ifaces model r is.1 (feed ∷ ks) (inr (inl (ks, refl))))))

  pass_head : (pass : Option Rule) (ks : List TokenKind) → HeadIn side_stops (onto (optional_pieces (pass_pieces model) pass) (feed ∷ ks))
  pass_head None ks = inr (inl (_, refl))
  pass_head (Some r) ks = inl (_, refl)

  -- what a map needs so that it is read again
  pub record IsFineMap (m : Map) : Type 0 where
    pub on : IsRegularOn ifaces model m.on
    pub proto : IfSome m.proto FitsByte
    pub inside : IfSome m.inside.ports (IsRange ifaces)
    pub outside : IfSome m.outside.ports (IsRange ifaces)
    pub filter : IfSome m.filter (λ r. IsFilterAlone r × IsFineFilter ifaces model r)

  says_map : (m : Map) (i : WrittenIface) (k : MapKind) (p : Option One) (l : WrittenSide) (a : WrittenArrow) (r : WrittenSide) (pass : Option Filter) (span : Span)
      → SaysOn ifaces model m.on i → algo_of k ≡ m.algo → SaysProto m.proto p → SaysSide m.inside l → arrow_of_sign a ≡ m.arrow → SaysSide m.outside r → SaysPass m.filter pass
      → SaysPartOf ifaces model (OfMap m) (Stmt.Map i k p l a r pass span)
  says_map m i k p l a r pass span on algo proto left arrows right passes = record {
    plain = λ older. refl;
    faults = λ counted few.
        let fewer : counted + filter_elements ifaces (declared_of model) (nameless ifaces) pass ≤ MAX_LIST_ELEMENTS = subst (λ n. counted + n ≤ MAX_LIST_ELEMENTS) (sym passes.2) few in
        rw (on.faults, proto.0, left.faults, right.faults, passes.0, few_elements counted (filter_elements ifaces (declared_of model) (nameless ifaces) pass) span fewer) refl;
    count = passes.2;
    named = refl;
    default = refl;
    maps = rw (on.gives, algo, arrows, proto.1, left.gives, right.gives, passes.1) refl;
    tables = tt;
    procedures = refl;
    table_names = refl;
    procedure_names = refl;
    settings = refl;
    algs = refl;
  }

  -- the line of a map but for its end
  abbrev pub map_within : Map → List Piece
  map_within m =
      glued (Pieces.Word (codes "map"))
      ++ spaced (Pieces.Quoted (name_bytes m.on.name))
      ++ algo_pieces m.algo
      ++ optional_pieces one_proto_pieces m.proto
      ++ side_pieces m.inside
      ++ arrow_pieces m.arrow
      ++ side_pieces m.outside
      ++ optional_pieces (pass_pieces model) m.filter

  map_kinds : (m : Map) (ks : List TokenKind) → onto (map_within m) ks
      ≡ keyword (codes "map") ∷ Kind.Str (name_bytes m.on.name) ∷ onto (algo_pieces m.algo) (onto (optional_pieces one_proto_pieces m.proto) (onto (side_pieces m.inside)
      (onto (arrow_pieces m.arrow) (onto (side_pieces m.outside) (onto (optional_pieces (pass_pieces model) m.filter) ks)))))
  map_kinds m ks =
      let w = glued (Pieces.Word (codes "map")) ++ spaced (Pieces.Quoted (name_bytes m.on.name)) in
      let al = algo_pieces m.algo in
      let pr = optional_pieces one_proto_pieces m.proto in
      let si = side_pieces m.inside in
      let ar = arrow_pieces m.arrow in
      let so = side_pieces m.outside in
      let pa = optional_pieces (pass_pieces model) m.filter in
      onto_both (w ++ al ++ pr ++ si ++ ar ++ so) pa ks ∙ onto_both (w ++ al ++ pr ++ si ++ ar) so (onto pa ks) ∙ onto_both (w ++ al ++ pr ++ si) ar (onto so (onto pa ks))
      ∙ onto_both (w ++ al ++ pr) si (onto ar (onto so (onto pa ks))) ∙ onto_both (w ++ al) pr (onto si (onto ar (onto so (onto pa ks))))
      ∙ onto_both w al (onto pr (onto si (onto ar (onto so (onto pa ks)))))

  -- what stands behind the interface says the map, whatever the interface is
  abbrev SaysRest : Map → MapRest → Type 0
  SaysRest m rest = (i : WrittenIface) (span : Span) → SaysOn ifaces model m.on i → SaysPartOf ifaces model (OfMap m) (rest i span)

  translation_goes : (m : Map) → IsFineMap m → (ks : List TokenKind) → Goes translation (SaysRest m)
      (onto (algo_pieces m.algo) (behind_kind m.proto m.inside (onto (arrow_pieces m.arrow)
      (onto (side_pieces m.outside) (onto (optional_pieces (pass_pieces model) m.filter) (feed ∷ ks)))))) (feed ∷ ks)
  unfolding translation
  translation_goes m is ks =
      let k5 = onto (optional_pieces (pass_pieces model) m.filter) (feed ∷ ks) in
      let k4 = onto (side_pieces m.outside) k5 in
      let k3 = onto (arrow_pieces m.arrow) k4 in
      make
      {P = λ a. (algo_of a.0 ≡ m.algo) ×
      (SaysProto m.proto a.1.0 × (SaysSide m.inside a.1.1.0 × ((arrow_of_sign a.1.1.1.0 ≡ m.arrow) × (SaysSide m.outside a.1.1.1.1.0 × SaysPass m.filter a.1.1.1.1.1))))}
      (λ ts a q i span on. says_map m i a.0 a.1.0 a.1.1.0 a.1.1.1.0 a.1.1.1.1.0 a.1.1.1.1.1 span on q.0 q.1.0 q.1.1.0 q.1.1.1.0 q.1.1.1.1.0 q.1.1.1.1.1)
      (turn (algo_goes m.algo m.proto m.inside k3)
      (turn (proto_goes m.proto is.proto m.inside k3)
      (turn (side_goes m.inside is.inside k3 (inr (inr (arrow_head m.arrow k4))))
      (turn (arrow_goes m.arrow k4)
      (turn (side_goes m.outside is.outside k5 (pass_head m.filter ks)) (pass_goes m.filter is.filter ks))))))

  pub map_goes : (m : Map) → IsFineMap m → (ks : List TokenKind) → Goes map (SaysPartOf ifaces model (OfMap m)) (onto (map_within m) (feed ∷ ks)) (feed ∷ ks)
  unfolding map map_rest
  map_goes m is ks =
      let to = feed ∷ ks in
      let k3 = onto (arrow_pieces m.arrow) (onto (side_pieces m.outside) (onto (optional_pieces (pass_pieces model) m.filter) to)) in
      let k1 = behind_kind m.proto m.inside k3 in
      subst (λ from. Goes map (SaysPartOf ifaces model (OfMap m)) from to) (sym (map_kinds m to))
      (make {P = λ a. SaysOn ifaces model m.on a.0 × SaysRest m a.1} (λ ts a q. q.1 a.0 (span_of ts) q.0)
      (said (turn (iface_goes ifaces model m.on is.on (onto (algo_pieces m.algo) k1))
      (pick_second (no_string m.algo k1) (translation_goes m is ks)))))
