-- How many rules stand in front of a group.
use Rattle.std.proofs.Common.{◌≡◌, ◌<◌, ◌≤◌, ℕ, ◌+◌, ◌^◌, List, [], ◌∷◌, ◌++◌, length, map, get_or, take, drop, Option, Some, None, refl, sym, ap, ◌∙◌, arith}
use Rattle.std.proofs.lemmas.{Grind.flat_map-append, List.{append-nil, length-append, length-map, take-append-drop, take_more}}
use Rattle.npf_model.specs.{declared.{group.Group.Group, model.Model.Model}, Verdict.{all_rules, rules_of}}
use Rattle.npf_precedence.{specs.{declared.entry.RuleEntry.RuleEntry, Entry.ordered_rule, Precedence.{OrderedRule, rules_from}}, proofs.OrderLemmas.length-rules_from}
use Rattle.npf_explain.specs.declared.told.ToldGroup.{ToldGroup}
use Rattle.npf_ctl_explain.specs.{Beside.beside, Text.{group_text, nth_group_text}}

-- no more than in all
pub few_front : (groups : List Group) (k : ℕ) → length (all_rules (take k groups)) ≤ length (all_rules groups)
few_front groups k =
    let whole = ap (λ (gs : List Group). length (all_rules gs)) (sym (take-append-drop k groups)) in
    let parts = ap length (flat_map-append rules_of (take k groups) (drop k groups)) in
    let sum = length-append (all_rules (take k groups)) (all_rules (drop k groups)) in
    omega arith

-- with those of one group more
pub rules_more : (groups : List Group) (i first : ℕ) (group : Group) (rules : List RuleEntry) → i < length groups → group ≡ get_or groups i group
    → first ≡ length (all_rules (take i groups)) → map ordered_rule rules ≡ rules_from group first (rules_of group)
    → first + length rules ≡ length (all_rules (take (i + 1) groups))
rules_more groups i first group rules within at is laid =
    let count : length rules ≡ length (rules_of group) =
    sym (length-map rules ordered_rule) ∙ ap length laid ∙ length-rules_from group first (rules_of group) in
    let more : length (all_rules (take (i + 1) groups)) ≡ length (all_rules (take i groups)) + length (rules_of group) =
    ap (λ (gs : List Group). length (all_rules gs)) (take_more groups i group within)
    ∙ ap (λ (g : Group). length (all_rules (take i groups ++ g ∷ []))) (sym at)
    ∙ ap length (flat_map-append rules_of (take i groups) (group ∷ []))
    ∙ length-append (all_rules (take i groups)) (all_rules (group ∷ []))
    ∙ ap (λ rules. length (all_rules (take i groups)) + length rules) (append-nil (rules_of group)) in
    omega arith

-- a group's text by its own rules is the text at its place
pub group_beside : (model : Model) (k first : ℕ) (rules : List OrderedRule) (group : Group) (told : Option ToldGroup) → first ≡ length (all_rules (take k model.groups))
    → rules ≡ rules_from group first (rules_of group) → beside (group_text model rules) (Some group) told ≡ beside (nth_group_text model k) (Some group) told
group_beside model k first rules group None count laid = refl
group_beside model k first rules group (Some told) count laid =
    ap (λ (own : List OrderedRule). group_text model own group told) (laid ∙ ap (λ n. rules_from group n (rules_of group)) count)
