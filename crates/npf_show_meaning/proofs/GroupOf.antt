-- A group, written and read again.
use Rattle.std.proofs.Common.{◌≡◌, ◌≤◌, inl, inr, ℕ, ◌+◌, false, nat_le, nat_lt, Option, IfSome, option_map, List, []}
use Rattle.std.proofs.{Common.{◌∷◌, ◌++◌, map, flat_map, sum_by, codes, refl, sym, ap, subst, arith}, lemmas.{Bool.Decides.nat_tests, List.Sums.sum_by-cons}}
use Rattle.std.{specs.List.All, proofs.lemmas.Bool.and_right}
use Rattle.npf_types.specs.{declared.{direction.Dir.Dir, limits.TheConstants.MAX_LIST_ELEMENTS, name.Name.Name, span.Span.Span}, Name.name_bytes}
use Rattle.npf_lexer.specs.declared.token.TokenKind.{TokenKind}
use Rattle.npf_lexer.specs.declared.token.TokenKind.TheVariants as Kind
use Rattle.npf_syntax.specs.declared.{group.ItemTree.ItemTree as WrittenItem, rule.{Direction.Direction, RuleTree.RuleTree}}
use Rattle.npf_syntax.specs.declared.{value.IfaceTree.IfaceTree as WrittenIface, word.Str.Str}
use Rattle.npf_model.specs.declared.{group.Item.{Item, TheVariants.{One, Dynamic}}, iface.Iface.Iface, model.Model.Model, rule.{OnIf.OnIf, Rule.Rule}}
use Rattle.npf_parser_values.specs.Token.{says, span_of}
use Rattle.npf_parser_values.specs.Value.{iface, one, ones, one_list, protocols, number_value, address_value, table_value, function, function_value, written, value, listed_values, value_list, values}
use Rattle.npf_parser.specs.Filter.{family, detail, proto_part, addresses, ports, ends, the_ends, filter}
use Rattle.npf_parser.specs.Rule.{answer, action, stateful, direction, ends_walk, on, relation, relations, owner, rule, item, items, ends_item}
use Rattle.npf_faults.specs.{declared.fault.{Excess.TheVariants.Elements, Fault.TheVariants.TooMany}, First.fault_if}
use Rattle.npf_expand.specs.{Group.{item_of_tree, item_elements, item_faults, items_faults, items_elements}, Rule.{dir_of, filter_count, passing_faults}}
use Rattle.npf_show.specs.{Bound.{dir_pieces, on_pieces}, Group.{within_item, item_line}, Piece.{line_end, optional_pieces}}
use Rattle.npf_show_meaning.specs.Regular.{entry_elements, IsRegularOn, IsOfText}
use Rattle.npf_show_meaning.proofs.{Goes.{Goes, HeadIn, make, turn, pick_first, pick_second, said, it_is, none_is}, Lists.{onto, onto_both, Each}}
use Rattle.npf_show_meaning.proofs.{Says.nameless, Values.keyword, ValueLists.close, Blocks.{feed, opened_goes}}
use Rattle.npf_show_meaning.proofs.RuleOf.{IsText, name_goes, IsFineRule, SaysRule, OnBound, rule_goes, rule_head, bound_goes}
use Rattle.npf_expand_values.specs.Source.{declared_of}

-- elements that are few enough make no fault
pub few_elements : (counted more : ℕ) (span : Span) → counted + more ≤ MAX_LIST_ELEMENTS → passing_faults counted more span ≡ []
few_elements counted more span few =
    let small : nat_lt MAX_LIST_ELEMENTS (counted + more) ≡ false = grind (arith, nat_tests) in
    ap (λ test. fault_if test span (TooMany Elements (MAX_LIST_ELEMENTS + 1))) (and_right (nat_le counted MAX_LIST_ELEMENTS) (nat_lt MAX_LIST_ELEMENTS (counted + more)) small)

module _ (ifaces : List Iface) (model : Model) where
  -- what an entry needs so that it is read again
  abbrev pub IsFineEntry : Item → Type 0
  IsFineEntry (One r) = IsFineRule ifaces model r
  IsFineEntry (Dynamic name dir on next_id rules) = IsOfText name × IfSome on (IsRegularOn ifaces model) × (next_id ≡ 1) × (rules ≡ [])

  pub record SaysItem (entry : Item) (tree : WrittenItem) : Type 0 where
    pub faults : (counted : ℕ) → counted + entry_elements entry ≤ MAX_LIST_ELEMENTS → item_faults ifaces (nameless ifaces) (declared_of model) counted tree ≡ []
    pub gives : item_of_tree ifaces (nameless ifaces) (declared_of model) tree ≡ entry
    pub count : item_elements ifaces (nameless ifaces) (declared_of model) tree ≡ entry_elements entry

  abbrev pub IsItemOf : WrittenItem → Item → Type 0
  IsItemOf tree entry = SaysItem entry tree

  says_rule_item : (r : Rule) (tree : RuleTree) (span : Span) → SaysRule ifaces model r tree → SaysItem (One r) (WrittenItem.Rule tree span)
  says_rule_item r tree span says = record {
    faults = λ counted few.
        let fewer : counted + filter_count ifaces (nameless ifaces) tree.filter ≤ MAX_LIST_ELEMENTS = subst (λ n. counted + n ≤ MAX_LIST_ELEMENTS) (sym says.count) few in
        rw (says.faults, few_elements counted (filter_count ifaces (nameless ifaces) tree.filter) tree.span fewer) refl;
    gives = ap One says.gives;
    count = says.count;
  }

  says_ruleset : (name : Name) (dir : Option Dir) (bound : Option OnIf) (next_id : ℕ) (rules : List (ℕ × Rule)) → IsOfText name → next_id ≡ 1 → rules ≡ []
      → (s : Str) (d : Option Direction) (o : Option WrittenIface) (span : Span) → IsText (name_bytes name) s → option_map dir_of d ≡ dir → OnBound ifaces model bound o
      → SaysItem (Dynamic name dir bound next_id rules) (WrittenItem.Ruleset s d o span)
  says_ruleset name dir bound next_id rules is first none s d o span same dirs bounds = record {
    faults = λ counted few. bounds.0;
    gives = rw (same, is, dirs, bounds.1, first, none) refl;
    count = refl;
  }

  bound_kinds : (dir : Option Dir) (bound : Option OnIf) (ks : List TokenKind)
      → onto (optional_pieces dir_pieces dir ++ optional_pieces on_pieces bound) ks ≡ onto (optional_pieces dir_pieces dir) (onto (optional_pieces on_pieces bound) ks)
  bound_kinds dir bound ks = onto_both (optional_pieces dir_pieces dir) (optional_pieces on_pieces bound) ks

  entry_goes : (entry : Item) → IsFineEntry entry → (ks : List TokenKind) → Goes item (λ tree. SaysItem entry tree) (onto (within_item model entry) (feed ∷ ks)) (feed ∷ ks)
  unfolding item
  entry_goes (One r) is ks =
      pick_second (none_is (keyword (codes "pass") ∷ keyword (codes "block") ∷ []) (λ s. refl) (rule_head ifaces model r (feed ∷ ks)))
      (make (λ ts tree says. says_rule_item r tree (span_of ts) says) (rule_goes ifaces model r is ks))
  entry_goes (Dynamic name dir bound next_id rules) is ks =
      let behind = feed ∷ ks in
      subst (λ from. Goes item (λ tree. SaysItem (Dynamic name dir bound next_id rules) tree) (keyword (codes "ruleset") ∷
      Kind.Str (name_bytes name) ∷ from) behind) (sym (bound_kinds dir bound behind))
      (pick_first (it_is (λ s. refl))
      (make {P = λ a. IsText (name_bytes name) a.0 × ((option_map dir_of a.1.0 ≡ dir) × OnBound ifaces model bound a.1.1)}
      (λ ts a q. says_ruleset name dir bound next_id rules is.0 is.2 is.3 a.0 a.1.0 a.1.1 (span_of ts) q.0 q.1.0 q.1.1)
      (said (turn (name_goes (name_bytes name) (onto (optional_pieces dir_pieces dir) (onto (optional_pieces on_pieces bound) behind)) name.named)
      (bound_goes ifaces model dir bound is.1 behind (inr (inl (ks, refl))))))))

  entry_head : (entry : Item) (ks : List TokenKind) → HeadIn (keyword (codes "ruleset") ∷ keyword (codes "pass") ∷ keyword (codes "block") ∷ []) (onto (within_item model entry) ks)
  entry_head (One r) ks = inr (rule_head ifaces model r ks)
  entry_head (Dynamic name dir bound next_id rules) ks = inl (_, refl)

  entry_line : (entry : Item) (ks : List TokenKind) → onto (item_line model entry) ks ≡ onto (within_item model entry) (feed ∷ ks)
  entry_line entry ks = onto_both (within_item model entry) line_end ks

  pub items_go : (entries : List Item) → All IsFineEntry entries → (ks : List TokenKind)
      → Goes items (λ trees. Each IsItemOf trees entries) (feed ∷ onto (flat_map (item_line model) entries) (close ∷ ks)) (close ∷ ks)
  unfolding items item rule action answer stateful direction ends_walk on relation relations owner filter family proto_part detail the_ends ends ports addresses protocols one_list
      ones one values value_list listed_values value written number_value address_value table_value function function_value iface
  items_go entries all ks =
      opened_goes item ends_item IsItemOf IsFineEntry (within_item model) (item_line model) entry_line (λ entry is ks. entry_goes entry is ks)
      (λ entry is ks. none_is (keyword (codes "ruleset") ∷ keyword (codes "pass") ∷ keyword (codes "block") ∷ []) (λ s. refl) (entry_head entry (feed ∷ ks)))
      refl refl (λ ks. it_is (λ s. refl)) (λ ks. it_is (λ s. refl)) (close ∷ ks) (it_is (λ s. refl)) (it_is (λ s. refl)) entries all

  -- what the items of a group give
  pub items_clean : (trees : List WrittenItem) (entries : List Item) → Each IsItemOf trees entries → (counted : ℕ) → counted + sum_by entry_elements entries ≤ MAX_LIST_ELEMENTS
      → items_faults ifaces (nameless ifaces) (declared_of model) counted trees ≡ []
  items_clean [] [] each counted few = refl
  items_clean (tree ∷ trees) (entry ∷ entries) (is, each) counted few =
      let sum = sum_by-cons entry_elements entry entries in
      let first : counted + entry_elements entry ≤ MAX_LIST_ELEMENTS = omega (arith, few, sum) in
      let count = is.count in
      let onward : counted + item_elements ifaces (nameless ifaces) (declared_of model) tree + sum_by entry_elements entries ≤ MAX_LIST_ELEMENTS = omega (arith, few, sum, count) in
      rw (is.faults counted first, items_clean trees entries each (counted + item_elements ifaces (nameless ifaces) (declared_of model) tree) onward) refl
  items_clean [] (entry ∷ entries) each counted few = absurd each
  items_clean (tree ∷ trees) [] each counted few = absurd each

  pub items_counted : (trees : List WrittenItem) (entries : List Item) → Each IsItemOf trees entries
      → items_elements ifaces (nameless ifaces) (declared_of model) trees ≡ sum_by entry_elements entries
  items_counted [] [] each = refl
  items_counted (tree ∷ trees) (entry ∷ entries) (is, each) =
      rw (is.count, items_counted trees entries each) (sym (sum_by-cons entry_elements entry entries))
  items_counted [] (entry ∷ entries) each = absurd each
  items_counted (tree ∷ trees) [] each = absurd each

  pub items_given : (trees : List WrittenItem) (entries : List Item) → Each IsItemOf trees entries → map (item_of_tree ifaces (nameless ifaces) (declared_of model)) trees ≡ entries
  items_given [] [] each = refl
  items_given (tree ∷ trees) (entry ∷ entries) (is, each) = rw (is.gives, items_given trees entries each) refl
  items_given [] (entry ∷ entries) each = absurd each
  items_given (tree ∷ trees) [] each = absurd each
