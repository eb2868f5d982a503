-- What is met behind what was met before.
use Rattle.std.proofs.Common.{◌≡◌, ◌≤◌, ◌<◌, ◌+◌, ℕ, false, is_some, ◌&&◌, nat_le, nat_lt, Option, None, List, [], ◌∷◌, ◌++◌, length}
use Rattle.std.proofs.{Common.{get_or, drop, map, refl, sym, ap, ◌∙◌, append-nil, append_assoc, arith}, lemmas.List.{drop_more, drop_all}}
use Rattle.npf_types.specs.declared.{limits.TheConstants.MAX_LIST_ELEMENTS, span.Span.Span}
use Rattle.npf_faults.specs.declared.fault.{ConfFault.ConfFault, Excess.TheVariants.Elements, Fault.TheVariants.TooMany}
use Rattle.npf_syntax.specs.declared.{group.ItemTree.ItemTree as WrittenItem, rule.Direction.Direction, stmt.Stmt.Stmt}
use Rattle.npf_syntax.specs.declared.group.ItemTree.TheVariants as ItemIs
use Rattle.npf_syntax.specs.declared.{value.IfaceTree.IfaceTree as WrittenIface, word.Str.Str, group.GroupHead.GroupHead}
use Rattle.npf_syntax.specs.declared.group.GroupHead.TheVariants as Head
use Rattle.npf_model.specs.declared.{group.Item.Item, iface.Iface.Iface}
use Rattle.npf_faults.{specs.First.{earlier, fault_if, first_fault}, proofs.FirstLemmas.{earlier-assoc, earlier-none, first_fault-append, none_of_earlier}}
use Rattle.npf_expand_values.{specs.{Atom.Env, Declarations.Declared, Summary.counted}, proofs.{PlaceLemmas.none_there, FaultLemmas.first_of_both}}
use Rattle.npf_expand.specs.{declared.met.NodeTally.NodeTally, Elaborates.{default_group, named_group}}
use Rattle.npf_expand.specs.{Group.{group_of_tree, item_elements, item_faults, item_of_tree, items_elements, items_faults}, Meets.Meets}
use Rattle.npf_expand.specs.Rule.{passing_faults, rule_faults}

same_passing : (a b m n : ℕ) → counted a ≡ counted b → counted m ≡ counted n →
    (nat_le a MAX_LIST_ELEMENTS && nat_lt MAX_LIST_ELEMENTS (a + m)) ≡ (nat_le b MAX_LIST_ELEMENTS && nat_lt MAX_LIST_ELEMENTS (b + n))
same_passing a b m n one other = grind arith

pub passing_faults-counted : (a b m n : ℕ) (span : Span) → counted a ≡ counted b → counted m ≡ counted n → passing_faults a m span ≡ passing_faults b n span
passing_faults-counted a b m n span one other = ap (λ test. fault_if test span (TooMany Elements (MAX_LIST_ELEMENTS + 1))) (same_passing a b m n one other)

pub counted-more : (a b m n : ℕ) → counted a ≡ counted b → counted m ≡ counted n → counted (a + m) ≡ counted (b + n)
counted-more a b m n one other = omega (arith, one, other)

counted-shift : (now one rest next : ℕ) → counted next ≡ counted (now + one) → counted (now + (one + rest)) ≡ counted (next + rest)
counted-shift now one rest next is = omega (arith, is)

module _ (ifaces : List Iface) (env : Env) (declared : Declared) where
  item_faults-counted : (a b : ℕ) (item : WrittenItem) → counted a ≡ counted b → item_faults ifaces env declared a item ≡ item_faults ifaces env declared b item
  item_faults-counted a b (ItemIs.Rule rule span) same =
      ap (λ faults. rule_faults ifaces env rule ++ faults) (passing_faults-counted a b _ _ rule.span same refl)
  item_faults-counted a b (ItemIs.Ruleset name dir on span) same = refl

  pub items_faults-counted : (a b : ℕ) (items : List WrittenItem) → counted a ≡ counted b → items_faults ifaces env declared a items ≡ items_faults ifaces env declared b items
  items_faults-counted a b [] same = refl
  items_faults-counted a b (item ∷ items) same =
      ap (λ faults. faults ++ items_faults ifaces env declared (a + item_elements ifaces env declared item) items) (item_faults-counted a b item same)
      ∙ ap (λ faults. item_faults ifaces env declared b item ++ faults)
      (items_faults-counted (a + item_elements ifaces env declared item) (b + item_elements ifaces env declared item) items (counted-more a b _ _ same refl))

pub met_rule : (old new : NodeTally) (fault passes both : Option ConfFault) (more : ℕ) (span : Span) (faults : List ConfFault) (elements : ℕ)
    → new.first ≡ earlier old.first both → both ≡ earlier fault passes → passes ≡ first_fault (passing_faults old.elements more span)
    → new.elements ≡ counted (old.elements + more) → fault ≡ first_fault faults → more ≡ counted elements
    → Meets old new (faults ++ passing_faults old.elements elements span) elements
met_rule old new fault passes both more span faults elements is_first is_both is_passing is_after is_fault is_more = record {
  first = is_first ∙ ap (earlier old.first) (is_both ∙ first_of_both faults (passing_faults old.elements elements span) fault passes is_fault
      (is_passing ∙ ap first_fault (passing_faults-counted old.elements old.elements more elements span refl (omega (arith, is_more)))));
  count = omega (arith, is_after, is_more);
}

-- what may be gathered where no fault was met
pub few_gathered : (old new : NodeTally) (faults : List ConfFault) (elements : ℕ) → Meets old new faults elements → is_some new.first ≡ false
    → elements ≤ MAX_LIST_ELEMENTS
few_gathered old new faults elements meets none =
    let count = meets.count in
    let all = new.few (none_there new.first none) in
    omega (arith, count, all)

module _ (ifaces : List Iface) (env : Env) (declared : Declared) where
  -- what is left of a group's items, of which so many were read
  pub record ItemsLeft (old now : NodeTally) (built : List Item) (items : List WrittenItem) (read : ℕ) : Type 0 where
    pub faults : earlier old.first (first_fault (items_faults ifaces env declared old.elements items))
        ≡ earlier now.first (first_fault (items_faults ifaces env declared now.elements (drop read items)))
    pub count : counted (old.elements + items_elements ifaces env declared items) ≡ counted (now.elements + items_elements ifaces env declared (drop read items))
    pub model : now.first ≡ None → map (item_of_tree ifaces env declared) items ≡ built ++ map (item_of_tree ifaces env declared) (drop read items)

  pub items_step : (old now next : NodeTally) (built more : List Item) (items : List WrittenItem) (read : ℕ) (item d : WrittenItem) → read < length items → item ≡ get_or items read d
      → ItemsLeft old now built items read → Meets now next (item_faults ifaces env declared now.elements item) (item_elements ifaces env declared item)
      → (next.first ≡ None → more ≡ built ++ item_of_tree ifaces env declared item ∷ []) → ItemsLeft old next more items (read + 1)
  items_step old now next built more items read item d below is left meets pushed =
      let rest = drop (read + 1) items in
      let front : drop read items ≡ item ∷ rest = drop_more items read d below ∙ ap (λ (x : WrittenItem). x ∷ rest) (sym is) in
      let here = item_faults ifaces env declared now.elements item in
      let behind_it = items_faults ifaces env declared (now.elements + item_elements ifaces env declared item) rest in
      let one = item_of_tree ifaces env declared item in
      record {
        faults = left.faults ∙ ap (λ (l : List WrittenItem). earlier now.first (first_fault (items_faults ifaces env declared now.elements l))) front
            ∙ ap (earlier now.first) (first_fault-append here behind_it) ∙ sym (earlier-assoc now.first (first_fault here) (first_fault behind_it))
            ∙ ap (λ o. earlier o (first_fault behind_it)) (sym meets.first)
            ∙ ap (λ fs. earlier next.first (first_fault fs)) (items_faults-counted ifaces env declared _ next.elements rest (sym meets.count));
        count = left.count ∙ ap (λ (l : List WrittenItem). counted (now.elements + items_elements ifaces env declared l)) front
            ∙ counted-shift now.elements (item_elements ifaces env declared item) (items_elements ifaces env declared rest) next.elements meets.count;
        model = λ none. left.model (none_of_earlier now.first (first_fault here) (sym meets.first ∙ none))
            ∙ ap (λ (l : List WrittenItem). built ++ map (item_of_tree ifaces env declared) l) front
            ∙ sym (append_assoc built (one ∷ []) (map (item_of_tree ifaces env declared) rest))
            ∙ ap (λ (b : List Item). b ++ map (item_of_tree ifaces env declared) rest) (sym (pushed none));
      }

  pub items_met : (old now : NodeTally) (built : List Item) (items : List WrittenItem) (read : ℕ) → length items ≤ read → ItemsLeft old now built items read
      → Meets old now (items_faults ifaces env declared old.elements items) (items_elements ifaces env declared items)
  items_met old now built items read past left = record {
    first = sym (left.faults ∙ ap (λ (l : List WrittenItem). earlier now.first (first_fault (items_faults ifaces env declared now.elements l))) (drop_all read items past) ∙ earlier-none now.first);
    count = sym (left.count ∙ ap (λ (l : List WrittenItem). counted (now.elements + items_elements ifaces env declared l)) (drop_all read items past) ∙ omega arith);
  }

  pub items_built : (old now : NodeTally) (built : List Item) (items : List WrittenItem) (read : ℕ) → length items ≤ read → ItemsLeft old now built items read
      → now.first ≡ None → built ≡ map (item_of_tree ifaces env declared) items
  items_built old now built items read past left none =
      sym (left.model none ∙ ap (λ (l : List WrittenItem). built ++ map (item_of_tree ifaces env declared) l) (drop_all read items past) ∙ append-nil built)

  pub group_met : (old mid new : NodeTally) (faults : List ConfFault) (items : List WrittenItem) (elements : ℕ) → Meets old mid faults 0
      → Meets mid new (items_faults ifaces env declared mid.elements items) elements
      → Meets old new (faults ++ items_faults ifaces env declared old.elements items) elements
  group_met old mid new faults items elements one other = record {
    first = other.first ∙ ap (λ o. earlier o (first_fault (items_faults ifaces env declared mid.elements items))) one.first
        ∙ earlier-assoc old.first (first_fault faults) _ ∙ ap (earlier old.first) (sym (first_fault-append faults (items_faults ifaces env declared mid.elements items)))
        ∙ ap (λ fs. earlier old.first (first_fault (faults ++ fs))) (items_faults-counted ifaces env declared mid.elements old.elements items (omega (arith, one.count)));
    count = omega (arith, one.count, other.count);
  }

  pub group_is : (head : GroupHead) (items : List WrittenItem) (built : List Item) → built ≡ map (item_of_tree ifaces env declared) items
      → record (group_of_tree ifaces env declared head []) { items = built } ≡ group_of_tree ifaces env declared head items
  group_is (Head.Named name dir layer on span) items built is = ap (λ (l : List Item). record (group_of_tree ifaces env declared (Head.Named name dir layer on span) []) { items = l }) is
  group_is (Head.Default layer span) items built is = ap (λ (l : List Item). record (group_of_tree ifaces env declared (Head.Default layer span) []) { items = l }) is

module _ (ifaces : List Iface) (env : Env) (declared : Declared) (head : GroupHead) (items : List WrittenItem) (span : Span) where
  pub named_is : (name : Str) (dir : Option Direction) (layer : Option Span) (on : Option WrittenIface) (head_span : Span) → head ≡ Head.Named name dir layer on head_span
      → group_of_tree ifaces env declared head items ∷ [] ≡ named_group ifaces declared env (Stmt.Group head items span)
  named_is name dir layer on head_span is = rw is refl

  pub default_none : (name : Str) (dir : Option Direction) (layer : Option Span) (on : Option WrittenIface) (head_span : Span) → head ≡ Head.Named name dir layer on head_span
      → [] ≡ default_group ifaces declared env (Stmt.Group head items span)
  default_none name dir layer on head_span is = rw is refl

  pub default_is : (layer : Option Span) (head_span : Span) → head ≡ Head.Default layer head_span
      → group_of_tree ifaces env declared head items ∷ [] ≡ default_group ifaces declared env (Stmt.Group head items span)
  default_is layer head_span is = rw is refl

  pub named_none : (layer : Option Span) (head_span : Span) → head ≡ Head.Default layer head_span → [] ≡ named_group ifaces declared env (Stmt.Group head items span)
  named_none layer head_span is = rw is refl
