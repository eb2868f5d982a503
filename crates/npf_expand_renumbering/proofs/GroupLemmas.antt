-- Groups without faults, numbered anew, are what they are with a longer list of interfaces.
use Rattle.std.{proofs.Common.{◌≡◌, ℕ, ◌+◌, Option, List, [], ◌∷◌, ◌++◌, map, refl, ap, ◌∙◌}, specs.Option.option_map}
use Rattle.npf_types.specs.Named.{named}
use Rattle.npf_syntax.specs.declared.group.{GroupHead.GroupHead, ItemTree.ItemTree as WrittenItem}
use Rattle.npf_syntax.specs.declared.group.GroupHead.TheVariants as Head
use Rattle.npf_syntax.specs.declared.group.ItemTree.TheVariants as ItemIs
use Rattle.npf_model.specs.declared.{group.Item.{Item, TheVariants.{One, Dynamic}}, iface.Iface.Iface, rule.{OnIf.OnIf, Rule.Rule}}
use Rattle.npf_model.specs.Numbering.{numbered_group, numbered_item}
use Rattle.npf_expand_values.specs.{Atom.Env, Declarations.Declared}
use Rattle.npf_expand.specs.Group.{group_of_tree, head_faults, item_elements, item_faults, item_of_tree, items_elements, items_faults}
use Rattle.npf_expand.specs.Rule.{dir_of, filter_count, passing_faults, rule_faults}
use Rattle.npf_expand_renumbering.proofs.{CleanLemmas.{back, both, front}, IfaceLemmas.KeepsAddresses, WholeLemmas.IsWhole, FilterLemmas.IsSame}
use Rattle.npf_expand_renumbering.proofs.RuleLemmas.{option_same, rule_same}

module _ (ifaces longer : List Iface) (keeps : KeepsAddresses ifaces longer) (declared : Declared) where
  module _ (env : Env) (whole : IsWhole env) where
    item_same : (counted : ℕ) (item : WrittenItem) → item_faults ifaces env declared counted item ≡ []
        → IsSame ifaces longer (λ list. item_faults list env declared counted item) (λ list. item_elements list env declared item)
        (λ list. item_of_tree list env declared item) (numbered_item longer)
    item_same counted (ItemIs.Ruleset name dir on span) none = record {
      none = none;
      counts = refl;
      means = ap (λ (found : Option OnIf). Dynamic (named name.text) (option_map dir_of dir) found 1 []) (option_same ifaces longer keeps env whole on none);
    }
    item_same counted (ItemIs.Rule rule span) none =
        let own = rule_faults ifaces env rule in
        let passing = λ (n : ℕ). passing_faults counted n rule.span in
        let elements = filter_count ifaces env rule.filter in
        let same = rule_same ifaces longer keeps env whole declared rule (front own (passing elements) none) in
        record {
          none = both (rule_faults longer env rule) (passing (filter_count longer env rule.filter)) same.none
              (ap passing same.counts ∙ back own (passing elements) none);
          counts = same.counts;
          means = ap (λ (r : Rule). One r) same.means;
        }

    items_same : (counted : ℕ) (items : List WrittenItem) → items_faults ifaces env declared counted items ≡ []
        → IsSame ifaces longer (λ list. items_faults list env declared counted items) (λ list. items_elements list env declared items)
        (λ list. map (item_of_tree list env declared) items) (map (numbered_item longer))
    items_same counted [] none = record { none = refl; counts = refl; means = refl }
    items_same counted (item ∷ items) none =
        let here = item_faults ifaces env declared counted item in
        let elements = item_elements ifaces env declared item in
        let left = items_faults ifaces env declared (counted + elements) items in
        let one = item_same counted item (front here left none) in
        let rest = items_same (counted + elements) items (back here left none) in
        let here_too = item_faults longer env declared counted item in
        record {
          none = ap (λ n. here_too ++ items_faults longer env declared (counted + n) items) one.counts
              ∙ both here_too (items_faults longer env declared (counted + elements) items) one.none rest.none;
          counts = ap (λ n. n + items_elements longer env declared items) one.counts ∙ ap (λ n. elements + n) rest.counts;
          means = ap (λ (i : Item). i ∷ map (item_of_tree longer env declared) items) one.means
              ∙ ap (λ (l : List Item). numbered_item longer (item_of_tree ifaces env declared item) ∷ l) rest.means;
        }

    pub group_same : (head : GroupHead) (items : List WrittenItem) (counted : ℕ)
        → head_faults ifaces env declared head ++ items_faults ifaces env declared counted items ≡ []
        → IsSame ifaces longer (λ list. head_faults list env declared head ++ items_faults list env declared counted items)
        (λ list. items_elements list env declared items) (λ list. group_of_tree list env declared head items) (numbered_group longer)
    group_same (Head.Named name dir layer on span) items counted none =
        let head = Head.Named name dir layer on span in
        let one = head_faults ifaces env declared head in
        let other = items_faults ifaces env declared counted items in
        let same = items_same counted items (back one other none) in
        record {
          none = both one (items_faults longer env declared counted items) (front one other none) same.none;
          counts = same.counts;
          means = ap (λ (l : List Item). record (group_of_tree longer env declared head items) { items = l }) same.means
              ∙ ap (λ (found : Option OnIf). record (numbered_group longer (group_of_tree ifaces env declared head items)) { on = found })
              (option_same ifaces longer keeps env whole on (front one other none));
        }
    group_same (Head.Default layer span) items counted none =
        let same = items_same counted items none in
        record {
          none = same.none;
          counts = same.counts;
          means = ap (λ (l : List Item). record (group_of_tree longer env declared (Head.Default layer span) items) { items = l }) same.means;
        }
