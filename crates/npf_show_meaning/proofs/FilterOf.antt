-- The filter of a rule, written and read again.
use Rattle.std.proofs.Common.{◌≡◌, ◌≤◌, ◌<◌, ◌^◌, inl, inr, ℕ, ◌+◌, ◌==◌, nat_lt, Bool, true, false, if◌then◌else◌, Option, Some, None, IfSome, option_map, List}
use Rattle.std.proofs.{Common.{[], ◌∷◌, ◌++◌, length, flat_map, filter_map, codes, refl, sym, ap, ap₂, subst, ◌∙◌, arith}, lemmas.Bool.and_parts}
use Rattle.std.{proofs.lemmas.{Bool.Decides.nat_tests, List.{Elements.{All-head, All-tail}, Sums.sum_by-append}}, specs.{List.{All, list_all, list_any}, Prelude.bit_and}}
use Rattle.npf_types.specs.declared.{decision.Decision.TheVariants.Pass, span.Span.Span}
use Rattle.npf_lexer.specs.declared.token.Sign.TheVariants as Signs
use Rattle.npf_lexer.specs.declared.token.TokenKind.{TokenKind}
use Rattle.npf_lexer.specs.declared.token.TokenKind.TheVariants as Kind
use Rattle.npf_faults.specs.declared.fault.ConfFault.{ConfFault}
use Rattle.npf_syntax.specs.declared.filter.{Detail.Detail, Family.Family, Filter.Filter, ProtoPart.ProtoPart, Protocols.Protocols, Where.Where}
use Rattle.npf_syntax.specs.declared.{value.{One.One, OneList.OneList}, word.{Number.Number, Word.Word}}
use Rattle.npf_model.specs.{declared.{iface.Iface.Iface, model.Model.Model, rule.{Rule.Rule, StateOpt.TheVariants.Not}}, Count.elements_of}
use Rattle.npf_phrase.specs.Grammar.{optional, preceded}
use Rattle.npf_parser_values.specs.{Token.{sign, number, number_to, flags, is_flag, quoted, span_of}, Value.{one, ones, one_list, protocols}}
use Rattle.npf_parser.specs.Filter.{family, detail, proto_part, filter}
use Rattle.npf_expand_values.specs.{Atom.{Atom, NumberAtom}, Protocol.{one_binding, protocol_of, protocol_faults, protocols_faults, spliced_ones, protocols_of, written_ones}}
use Rattle.npf_expand_values.specs.Message.{icmp_names, message_faults, message_number}
use Rattle.npf_names.specs.{declared.icmp.IcmpNames.IcmpNames, Icmp.{codes_of, types_of}, Names.Names}
use Rattle.npf_expand_values.specs.{Use.{element_count, atoms_of, count_of, then_faults}, Variable.alone_binding, Source.declared_of}
use Rattle.npf_expand.specs.Rule.{is_inet6, flag_bits, flags_of_detail, icmp_of_detail, icmp_of_part, with_code, code_of, code_faults, detail_faults}
use Rattle.npf_expand.specs.Rule.{detail_faults_beside, detail_of_part, gives_atom, part_faults, part_protocols, part_count, filter_faults, filter_rule, filter_count}
use Rattle.npf_show.specs.Ends.{where_pieces}
use Rattle.npf_show.specs.Filter.{family_pieces, protocol_pieces, protocols_pieces, letters_of_bits, letter_if_set, flag_text, flags_pieces, code_pieces, icmp_pieces, filter_pieces}
use Rattle.npf_show.specs.Piece.{Piece, glued, spaced, optional_pieces, comma_list, list_pieces}
use Rattle.npf_show.specs.Piece as Pieces
use Rattle.npf_show_tokens.{specs.Showable.FitsByte, proofs.{Values.values_come_back_lem, Digits.all_join}}
use Rattle.npf_show_meaning.specs.Regular.{IsOneDetail}
use Rattle.npf_show_meaning.proofs.Goes.{Goes, HeadIn, token_goes, make, turn, keep, pick_first, pick_second, fit, said, signed, before, absent, present, it_is, none_is, says_goes, sign_goes}
use Rattle.npf_show_meaning.proofs.{Lists.{onto, onto_both, Each, list_goes}, Says.nameless, Values.{keyword, number_goes}, ValueLists.close}
use Rattle.npf_show_meaning.proofs.EndsOf.{SaysWhere, AreFine, where_goes, where_head, where_starts, where_stops}

abbrev part_starts : List TokenKind
part_starts = keyword (codes "proto") ∷ where_starts

-- what stands first of a filter
abbrev pub filter_starts : List TokenKind
filter_starts = keyword (codes "family") ∷ part_starts

-- a number that an end of its range holds
pub to_goes : (most n : ℕ) (ks : List TokenKind) → n ≤ most → Goes (number_to most) (λ a. a.value ≡ n) (Kind.Number n ∷ ks) ks
to_goes most n ks small = fit (λ a is. rw is (grind (arith, nat_tests))) (number_goes n ks)

pub byte_goes : (n : ℕ) (ks : List TokenKind) → FitsByte n → Goes (number_to 255) (λ a. a.value ≡ n) (Kind.Number n ∷ ks) ks
byte_goes n ks small = to_goes 255 n ks (omega (arith, small))

-- the letters of flags
letter_is_flag : (bits : ℕ) (row : ℕ × ℕ) (none : Bool) → is_flag row.0 ≡ true → list_all is_flag (if none then [] else row.0 ∷ []) ≡ true
letter_is_flag bits row true is = refl
letter_is_flag bits row false is = rw is refl

letters_are_flags : (bits : ℕ) (rows : List (ℕ × ℕ)) → list_all (λ row. is_flag row.0) rows ≡ true → list_all is_flag (flat_map (letter_if_set bits) rows) ≡ true
letters_are_flags bits [] are = refl
letters_are_flags bits (row ∷ rows) are =
    let parts = and_parts (is_flag row.0) (list_all (λ row. is_flag row.0) rows) are in
    all_join is_flag (letter_if_set bits row) (flat_map (letter_if_set bits) rows) (letter_is_flag bits row (bit_and bits row.1 == 0) parts.0) (letters_are_flags bits rows parts.1)

flags_go : (bits : ℕ) (ks : List TokenKind) → Goes flags (λ w. w.text ≡ flag_text bits) (Kind.Word (flag_text bits) ∷ ks) ks
flags_go bits ks =
    fit (λ w is. rw is (letters_are_flags bits letters_of_bits refl))
    (token_goes _ _ (λ w. w.text ≡ flag_text bits) (Kind.Word (flag_text bits)) ks (λ s. record { text = flag_text bits; span = s }) (λ s. refl) (λ s. refl))

family_goes : (v6 : Bool) (ks : List TokenKind) → Goes (preceded (quoted (codes "family")) family) (λ f. is_inet6 f ≡ v6) (onto (family_pieces v6) ks) ks
unfolding family
family_goes false ks = said (pick_first (it_is (λ s. refl)) (says_goes (codes "inet4") Family.Inet4 (λ f. is_inet6 f ≡ false) ks (λ s. refl)))
family_goes true ks = said (pick_second (it_is (λ s. refl)) (pick_first (it_is (λ s. refl)) (says_goes (codes "inet6") Family.Inet6 (λ f. is_inet6 f ≡ true) ks (λ s. refl))))

module _ (ifaces : List Iface) where
  pub record SaysOne (n : ℕ) (tree : One) : Type 0 where
    pub faults : protocol_faults (nameless ifaces) tree ≡ []
    pub binding : one_binding (nameless ifaces) tree ≡ alone_binding (NumberAtom n)

  one_says : (n : ℕ) → FitsByte n → (number : Number) (span : Span) → number.value ≡ n → SaysOne n (One.Number number span)
  one_says n small number span is = record {
    faults = let fits : nat_lt 255 n ≡ false = grind (arith, nat_tests) in rw (is, fits) refl;
    binding = rw is refl;
  }

  pub one_goes : (n : ℕ) → FitsByte n → (ks : List TokenKind) → Goes one (SaysOne n) (Kind.Number n ∷ ks) ks
  unfolding one
  one_goes n small ks = pick_first (it_is (λ s. refl)) (make (λ ts number is. one_says n small number (span_of ts) is) (byte_goes n ks small))

  record SaysProtocols (protos : List ℕ) (tree : Protocols) : Type 0 where
    faults : protocols_faults (nameless ifaces) tree ≡ []
    gives : protocols_of (nameless ifaces) tree ≡ protos
    count : element_count (spliced_ones (nameless ifaces) tree) ≡ length protos

  ones_faults : (ones : List One) (ns : List ℕ) → Each (λ one n. SaysOne n one) ones ns → flat_map (protocol_faults (nameless ifaces)) ones ≡ []
  ones_faults [] [] each = refl
  ones_faults (one ∷ ones) (n ∷ ns) (is, each) = rw (is.faults, ones_faults ones ns each) refl
  ones_faults [] (n ∷ ns) each = absurd each
  ones_faults (one ∷ ones) [] each = absurd each

  abbrev ones_atoms : List One → List Atom
  ones_atoms ones = flat_map (λ one. atoms_of (one_binding (nameless ifaces) one)) ones

  ones_give : (ones : List One) (ns : List ℕ) → All FitsByte ns → Each (λ one n. SaysOne n one) ones ns → filter_map protocol_of (ones_atoms ones) ≡ ns
  ones_give [] [] all each = refl
  ones_give (one ∷ ones) (n ∷ ns) all (is, each) =
      let small = All-head FitsByte n ns all in
      let fits : nat_lt 255 n ≡ false = grind (arith, nat_tests) in
      rw (is.binding, fits, ones_give ones ns (All-tail FitsByte n ns all) each) refl
  ones_give [] (n ∷ ns) all each = absurd each
  ones_give (one ∷ ones) [] all each = absurd each

  ones_count : (ones : List One) (ns : List ℕ) → Each (λ one n. SaysOne n one) ones ns → element_count (ones_atoms ones) ≡ length ns
  ones_count [] [] each = refl
  ones_count (one ∷ ones) (n ∷ ns) (is, each) =
      sum_by-append count_of (atoms_of (one_binding (nameless ifaces) one)) (ones_atoms ones)
      ∙ ap (λ binding. element_count (atoms_of binding) + element_count (ones_atoms ones)) is.binding ∙ ap (λ n. 1 + n) (ones_count ones ns each) ∙ omega arith
  ones_count [] (n ∷ ns) each = absurd each
  ones_count (one ∷ ones) [] each = absurd each

  says_listed : (ns : List ℕ) → All FitsByte ns → (span : Span) (list : OneList) → Each (λ one n. SaysOne n one) list.ones ns → SaysProtocols ns (Protocols.List list span)
  says_listed ns all span list each = record { faults = ones_faults list.ones ns each; gives = ones_give list.ones ns all each; count = ones_count list.ones ns each }

  says_alone : (n : ℕ) → All FitsByte (n ∷ []) → (span : Span) (one : One) → SaysOne n one → SaysProtocols (n ∷ []) (Protocols.One one span)
  says_alone n all span one is = record {
    faults = ones_faults (one ∷ []) (n ∷ []) (is, tt);
    gives = ones_give (one ∷ []) (n ∷ []) all (is, tt);
    count = ones_count (one ∷ []) (n ∷ []) (is, tt);
  }

  ones_go : (n : ℕ) (ns : List ℕ) → All FitsByte (n ∷ ns) → (to : List TokenKind) → HeadIn (close ∷ []) to
      → Goes ones (λ list. Each (λ one n. SaysOne n one) list (n ∷ ns)) (onto (comma_list protocol_pieces (n ∷ ns)) to) to
  unfolding ones one
  ones_go n ns all to here =
      list_goes (sign Signs.Comma) one (λ one n. SaysOne n one) FitsByte protocol_pieces (close ∷ []) (λ n small to stops. one_goes n small to)
      (λ n small to. sign_goes Signs.Comma (onto (protocol_pieces n) to)) refl refl (λ ks. it_is (λ s. refl)) (λ to here. none_is (close ∷ []) (λ s. refl) here) n ns all to here

  protocols_go : (n : ℕ) (ns : List ℕ) → All FitsByte (n ∷ ns) → (to : List TokenKind)
      → Goes protocols (SaysProtocols (n ∷ ns)) (onto (list_pieces protocol_pieces (n ∷ ns)) to) to
  unfolding protocols one_list
  protocols_go n [] all to =
      pick_second (it_is (λ s. refl)) (make (λ ts one is. says_alone n all (span_of ts) one is) (one_goes n (All-head FitsByte n [] all) to))
  protocols_go n (m ∷ ns) all to =
      let elements = n ∷ m ∷ ns in
      subst (λ ks. Goes protocols (SaysProtocols elements) (Kind.Sign Signs.OpenBrace ∷ ks) to) (sym (onto_both (comma_list protocol_pieces elements) (spaced (Pieces.Sign (codes "}"))) to))
      (pick_first (it_is (λ s. refl))
      (make {P = λ list. Each (λ one n. SaysOne n one) list.ones elements} (λ ts list each. says_listed elements all (span_of ts) list each)
      (make {P = λ list. Each (λ one n. SaysOne n one) list elements} (λ ts list each. each)
      (signed (before (ones_go n (m ∷ ns) all (close ∷ to) (inl (to, refl))))))))

  -- what more is said of protocols
  record SaysDetail (flags : Option (ℕ × ℕ)) (icmp : Option (ℕ × Option ℕ)) (o : Option Detail) : Type 0 where
    flags_are : flags_of_detail o ≡ flags
    icmp_is : (names : IcmpNames) → icmp_of_detail (nameless ifaces) names o ≡ icmp
    none : (names : IcmpNames) → detail_faults (nameless ifaces) names o ≡ []

  -- a number means itself whatever names there are
  message_says : (n : ℕ) → FitsByte n → (names : Names) (one : One) → SaysOne n one
      → (message_faults names (nameless ifaces) one ≡ []) × (message_number names (nameless ifaces) one ≡ Some n)
  message_says n small names one is = let fits : nat_lt 255 n ≡ false = grind (arith, nat_tests) in (rw (is.binding, fits) refl, rw (is.binding, fits) refl)

  abbrev IsCode : Option ℕ → Option One → Type 0
  IsCode None None = Unit {0}
  IsCode (Some n) (Some one) = SaysOne n one
  IsCode _ _ = ⊥

  code_says : (names : IcmpNames) (kind : ℕ) (code : Option ℕ) → IfSome code FitsByte → (o : Option One) → IsCode code o
      → (code_faults (nameless ifaces) names (Some kind) o ≡ []) × (code_of (nameless ifaces) names kind o ≡ code)
  code_says names kind None small None is = (refl, refl)
  code_says names kind (Some n) small (Some one) is = message_says n small (codes_of names kind) one is
  code_says names kind None small (Some one) is = absurd is
  code_says names kind (Some n) small None is = absurd is

  says_icmp : (icmp : ℕ × Option ℕ) → FitsByte icmp.0 × IfSome icmp.1 FitsByte → (kind : One) (code : Option One) (span : Span) → SaysOne icmp.0 kind → IsCode icmp.1 code
      → SaysDetail None (Some icmp) (Some (Detail.IcmpType kind code span))
  says_icmp icmp small kind code span is those =
      let env = nameless ifaces in record {
        flags_are = refl;
        icmp_is = λ names.
            ap (with_code env names code) (message_says icmp.0 small.0 (types_of names) kind is).1 ∙ ap (λ o. Some (icmp.0, o)) (code_says names icmp.0 icmp.1 small.1 code those).1;
        none = λ names.
            let number = message_number (types_of names) env kind in
            ap (λ fs. then_faults fs (code_faults env names number code)) (message_says icmp.0 small.0 (types_of names) kind is).0
            ∙ ap (λ o. code_faults env names o code) (message_says icmp.0 small.0 (types_of names) kind is).1 ∙ (code_says names icmp.0 icmp.1 small.1 code those).0;
      }

  code_goes : (code : Option ℕ) → IfSome code FitsByte → (ks : List TokenKind) → HeadIn where_starts ks
      → Goes (optional (preceded (quoted (codes "code")) one)) (IsCode code) (onto (optional_pieces code_pieces code) ks) ks
  code_goes None small ks here = absent {g = preceded (quoted (codes "code")) one} (none_is where_starts (λ s. refl) here) tt
  code_goes (Some n) small ks here =
      present {g = preceded (quoted (codes "code")) one} {P = IsCode (Some n)} (it_is (λ s. refl)) (said (one_goes n small ks))

  icmp_goes : (icmp : ℕ × Option ℕ) → FitsByte icmp.0 × IfSome icmp.1 FitsByte → (ks : List TokenKind) → HeadIn where_starts ks
      → Goes detail (λ d. SaysDetail None (Some icmp) (Some d)) (onto (icmp_pieces icmp) ks) ks
  unfolding detail
  icmp_goes icmp small ks here =
      pick_second (it_is (λ s. refl))
      (make {P = λ a. SaysOne icmp.0 a.0 × IsCode icmp.1 a.1} (λ ts a is. says_icmp icmp small a.0 a.1 (span_of ts) is.0 is.1)
      (said (turn (one_goes icmp.0 small.0 (onto (optional_pieces code_pieces icmp.1) ks)) (code_goes icmp.1 small.1 ks here))))

  abbrev IsMask : ℕ → Option Word → Type 0
  IsMask bits None = ⊥
  IsMask bits (Some w) = w.text ≡ flag_text bits

  says_flags : (bits : ℕ × ℕ) → bits.0 < 2 ^ 8 → bits.1 < 2 ^ 8 → (w : Word) (o : Option Word) (span : Span) →
      w.text ≡ flag_text bits.0 → IsMask bits.1 o → SaysDetail (Some bits) None (Some (Detail.Flags w o span))
  says_flags bits small short w None span is mask = absurd mask
  says_flags bits small short w (Some m) span is mask = record {
    flags_are = ap₂ (λ a b. Some (a, b)) (ap flag_bits is ∙ values_come_back_lem.flags bits.0 small) (ap flag_bits mask ∙ values_come_back_lem.flags bits.1 short);
    icmp_is = λ names. refl;
    none = λ names. refl;
  }

  flags_detail_goes : (bits : ℕ × ℕ) → bits.0 < 2 ^ 8 → bits.1 < 2 ^ 8 → (ks : List TokenKind) → Goes detail (λ d. SaysDetail (Some bits) None (Some d)) (onto (flags_pieces bits) ks) ks
  unfolding detail
  flags_detail_goes bits small short ks =
      pick_first (it_is (λ s. refl))
      (make {P = λ a. (a.0.text ≡ flag_text bits.0) × IsMask bits.1 a.1} (λ ts a is. says_flags bits small short a.0 a.1 (span_of ts) is.0 is.1)
      (said (turn (flags_go bits.0 (Kind.Sign Signs.Slash ∷ Kind.Word (flag_text bits.1) ∷ ks)) (present {P = IsMask bits.1} (it_is (λ s. refl)) (signed (flags_go bits.1 ks))))))

  -- the protocols and what more is said of them
  record SaysPart (protos : List ℕ) (flags : Option (ℕ × ℕ)) (icmp : Option (ℕ × Option ℕ)) (o : Option ProtoPart) : Type 0 where
    faults : part_faults ifaces (nameless ifaces) o ≡ []
    gives : part_protocols ifaces (nameless ifaces) o ≡ protos
    count : part_count ifaces (nameless ifaces) o ≡ length protos
    flags_are : flags_of_detail (detail_of_part o) ≡ flags
    icmp_is : icmp_of_part (nameless ifaces) o ≡ icmp

  none_where : (test : Bool) (faults : List ConfFault) → faults ≡ [] → (if test then faults else []) ≡ []
  none_where true faults none = none
  none_where false faults none = refl

  says_part : (protos : List ℕ) (flags : Option (ℕ × ℕ)) (icmp : Option (ℕ × Option ℕ)) (tree : Protocols) (o : Option Detail) (span : Span) → SaysProtocols protos tree → SaysDetail flags icmp o
      → SaysPart protos flags icmp (Some (record { protocols = tree; detail = o; span = span }))
  says_part protos flags icmp tree o span is more =
      let names = icmp_names (spliced_ones (nameless ifaces) tree) in record {
        faults = ap (λ fs. then_faults fs (detail_faults_beside (nameless ifaces) (written_ones tree) o)) is.faults
            ∙ none_where (list_any (gives_atom (nameless ifaces)) (written_ones tree)) (detail_faults (nameless ifaces) names o) (more.none names);
        gives = is.gives;
        count = is.count;
        flags_are = more.flags_are;
        icmp_is = more.icmp_is names;
      }

  abbrev detail_pieces : Option (ℕ × ℕ) → Option (ℕ × Option ℕ) → List TokenKind → List TokenKind
  detail_pieces bits icmp ks = onto (optional_pieces flags_pieces bits) (onto (optional_pieces icmp_pieces icmp) ks)

  detail_goes : (protos : List ℕ) (bits : Option (ℕ × ℕ)) (icmp : Option (ℕ × Option ℕ)) → IsOneDetail protos bits icmp → IfSome icmp (λ icmp. FitsByte icmp.0 × IfSome icmp.1 FitsByte)
      → (ks : List TokenKind) → HeadIn where_starts ks → Goes (optional detail) (SaysDetail bits icmp) (detail_pieces bits icmp ks) ks
  unfolding detail
  detail_goes protos None None is small ks here = absent {g = detail} (none_is where_starts (λ s. refl) here) (record { flags_are = refl; icmp_is = λ names. refl; none = λ names. refl })
  detail_goes protos (Some bits) None is small ks here = present {g = detail} (it_is (λ s. refl)) (flags_detail_goes bits is.1 is.2 ks)
  detail_goes protos None (Some icmp) is small ks here = present {g = detail} (it_is (λ s. refl)) (icmp_goes icmp small ks here)
  detail_goes protos (Some bits) (Some icmp) is small ks here = absurd is

  abbrev part_kinds : List ℕ → Option (ℕ × ℕ) → Option (ℕ × Option ℕ) → List TokenKind → List TokenKind
  part_kinds protos bits icmp ks = onto (protocols_pieces protos) (detail_pieces bits icmp ks)

  part_goes : (protos : List ℕ) (bits : Option (ℕ × ℕ)) (icmp : Option (ℕ × Option ℕ)) → All FitsByte protos →
      IsOneDetail protos bits icmp → IfSome icmp (λ icmp. FitsByte icmp.0 × IfSome icmp.1 FitsByte)
      → (ks : List TokenKind) → HeadIn where_starts ks → Goes (optional proto_part) (SaysPart protos bits icmp) (part_kinds protos bits icmp ks) ks
  unfolding proto_part
  part_goes [] None None all is small ks here =
      absent {g = proto_part} (none_is where_starts (λ s. refl) here) (record { faults = refl; gives = refl; count = refl; flags_are = refl; icmp_is = refl })
  part_goes [] (Some bits) None all is small ks here = absurd (let none : ⊥ = omega (arith, is.0) in none)
  part_goes [] None (Some icmp) all is small ks here = absurd (let none : ⊥ = omega (arith, is) in none)
  part_goes [] (Some bits) (Some icmp) all is small ks here = absurd is
  part_goes (n ∷ ns) bits icmp all is small ks here =
      present {g = proto_part} (it_is (λ s. refl))
      (make {P = λ a. SaysProtocols (n ∷ ns) a.0 × SaysDetail bits icmp a.1} (λ ts a says. says_part (n ∷ ns) bits icmp a.0 a.1 (span_of ts) says.0 says.1)
      (said (turn (protocols_go n ns all (detail_pieces bits icmp ks)) (detail_goes (n ∷ ns) bits icmp is small ks here))))

  part_head : (protos : List ℕ) (bits : Option (ℕ × ℕ)) (icmp : Option (ℕ × Option ℕ)) → IsOneDetail protos bits icmp → (ks : List TokenKind) → HeadIn where_starts ks
      → HeadIn part_starts (part_kinds protos bits icmp ks)
  part_head [] None None is ks here = inr here
  part_head [] (Some bits) None is ks here = absurd (let none : ⊥ = omega (arith, is.0) in none)
  part_head [] None (Some icmp) is ks here = absurd (let none : ⊥ = omega (arith, is) in none)
  part_head [] (Some bits) (Some icmp) is ks here = absurd is
  part_head (n ∷ ns) bits icmp is ks here = inl (_, refl)

  abbrev OnFamily : Option Bool → Option Family → Type 0
  OnFamily v6 o = option_map is_inet6 o ≡ v6

  optional_family : (v6 : Option Bool) (ks : List TokenKind) → HeadIn part_starts ks
      → Goes (optional (preceded (quoted (codes "family")) family)) (OnFamily v6) (onto (optional_pieces family_pieces v6) ks) ks
  optional_family None ks here = absent {g = preceded (quoted (codes "family")) family} (none_is part_starts (λ s. refl) here) refl
  optional_family (Some false) ks here = present (it_is (λ s. refl)) (keep (λ a is. ap Some is) (family_goes false ks))
  optional_family (Some true) ks here = present (it_is (λ s. refl)) (keep (λ a is. ap Some is) (family_goes true ks))

  module _ (model : Model) where
    -- the rule of a filter alone
    abbrev pub alone : Rule → Rule
    alone rule = record rule { decision = Pass; state = Not; dir = None; last = false; on = None; procedure = None }

    pub record SaysFilter (rule : Rule) (tree : Filter) : Type 0 where
      pub faults : filter_faults ifaces (nameless ifaces) tree ≡ []
      pub gives : filter_rule ifaces (nameless ifaces) (declared_of model).tables tree ≡ alone rule
      pub count : filter_count ifaces (nameless ifaces) tree ≡ elements_of rule

    -- what a rule needs so that its filter is read again
    pub record IsFineFilter (rule : Rule) : Type 0 where
      pub protos : All FitsByte rule.protos
      pub detail : IsOneDetail rule.protos rule.flags rule.icmp
      pub icmp : IfSome rule.icmp (λ icmp. FitsByte icmp.0 × IfSome icmp.1 FitsByte)
      pub from : AreFine ifaces model rule.from
      pub to : AreFine ifaces model rule.to

    says_filter : (rule : Rule) (family : Option Family) (part : Option ProtoPart) (ends : Where) (span : Span) → OnFamily rule.v6 family → SaysPart rule.protos rule.flags rule.icmp part
        → SaysWhere ifaces model rule.from rule.to ends → SaysFilter rule (record { family = family; proto = part; ends = ends; span = span })
    says_filter rule family part ends span fam is those = record {
      faults = rw (is.faults, those.0.faults, those.1.faults) refl;
      gives = rw (fam, is.gives, is.flags_are, is.icmp_is, those.0.gives, those.1.gives) refl;
      count = rw (is.count, those.0.count, those.1.count) refl;
    }

    filter_kinds : (rule : Rule) (ks : List TokenKind) → onto (filter_pieces model rule) ks
        ≡ onto (optional_pieces family_pieces rule.v6) (part_kinds rule.protos rule.flags rule.icmp (onto (where_pieces model rule.from rule.to) ks))
    filter_kinds rule ks =
        let family = optional_pieces family_pieces rule.v6 in
        let protos = protocols_pieces rule.protos in
        let flags = optional_pieces flags_pieces rule.flags in
        let icmp = optional_pieces icmp_pieces rule.icmp in
        let ends = where_pieces model rule.from rule.to in
        onto_both (family ++ protos ++ flags ++ icmp) ends ks ∙ onto_both (family ++ protos ++ flags) icmp (onto ends ks)
        ∙ onto_both (family ++ protos) flags (onto icmp (onto ends ks)) ∙ onto_both family protos (onto flags (onto icmp (onto ends ks)))

    pub filter_goes : (rule : Rule) → IsFineFilter rule → (ks : List TokenKind) → HeadIn where_stops ks → Goes filter (SaysFilter rule) (onto (filter_pieces model rule) ks) ks
    unfolding filter
    filter_goes rule is ks here =
        let behind = onto (where_pieces model rule.from rule.to) ks in
        let first = where_head ifaces model rule.from rule.to ks in
        subst (λ from. Goes filter (SaysFilter rule) from ks) (sym (filter_kinds rule ks))
        (make {P = λ a. OnFamily rule.v6 a.0 × (SaysPart rule.protos rule.flags rule.icmp a.1.0 × SaysWhere ifaces model rule.from rule.to a.1.1)}
        (λ ts a says. says_filter rule a.0 a.1.0 a.1.1 (span_of ts) says.0 says.1.0 says.1.1)
        (turn (optional_family rule.v6 (part_kinds rule.protos rule.flags rule.icmp behind) (part_head rule.protos rule.flags rule.icmp is.detail behind first))
        (turn (part_goes rule.protos rule.flags rule.icmp is.protos is.detail is.icmp behind first) (where_goes ifaces model rule.from rule.to is.from is.to ks here))))

    head_by : (v6 : Option Bool) (ks : List TokenKind) → HeadIn part_starts ks → HeadIn filter_starts (onto (optional_pieces family_pieces v6) ks)
    head_by None ks here = inr here
    head_by (Some false) ks here = inl (_, refl)
    head_by (Some true) ks here = inl (_, refl)

    pub filter_head : (rule : Rule) → IsFineFilter rule → (ks : List TokenKind) → HeadIn filter_starts (onto (filter_pieces model rule) ks)
    filter_head rule is ks =
        let behind = onto (where_pieces model rule.from rule.to) ks in
        subst (HeadIn filter_starts) (sym (filter_kinds rule ks))
        (head_by rule.v6 (part_kinds rule.protos rule.flags rule.icmp behind) (part_head rule.protos rule.flags rule.icmp is.detail behind (where_head ifaces model rule.from rule.to ks)))
