-- A group without a `final` rule is laid out as rules of which none is `final`, and so none decides at once.
use Rattle.std.{proofs.Common.{◌≡◌, ℕ, ◌+◌, false, List, [], ◌∷◌, None, All, flat_map, map, refl, sym, subst, ◌∙◌}, specs.List.{AllZip, list_any}}
use Rattle.std.proofs.lemmas.{List.{Concat.flat_map-cons, Elements.{All-nil, All-cons, All-head, All-tail, All-append}}, Bool.or_parts}
use Rattle.npf_model.specs.declared.{group.{Group.Group, Item.{Item, TheVariants.{One, Dynamic}}}, rule.Rule.Rule}
use Rattle.npf_model.specs.Verdict.{PlacedRule, first_where, rules_at, rules_of}
use Rattle.npf_ruleset.specs.{declared.{flat.FlatRule.FlatRule, packet.PacketView.PacketView}, Flat.{IsFlatRule, has_final, item_has_final}}
use Rattle.npf_ruleset.specs.Packet.{flat_decides}

abbrev IsNotFinal : PlacedRule → Type 0
IsNotFinal placed = placed.rule.last ≡ false

in_ruleset : (dir : _) (on : _) (rules : List (ℕ × Rule)) → list_any (λ numbered. numbered.1.last) rules ≡ false
    → All IsNotFinal (map (λ numbered. record { within_dir = dir; within_on = on; rule = numbered.1 }) rules)
in_ruleset dir on [] none = All-nil IsNotFinal
in_ruleset dir on (r ∷ rs) none =
    let parts = or_parts r.1.last (list_any (λ numbered. numbered.1.last) rs) none in
    All-cons IsNotFinal (record { within_dir = dir; within_on = on; rule = r.1 })
    (map (λ numbered. record { within_dir = dir; within_on = on; rule = numbered.1 }) rs) parts.0 (in_ruleset dir on rs parts.1)

in_item : (item : Item) → item_has_final item ≡ false → All IsNotFinal (rules_at item)
in_item (One rule) none = All-cons IsNotFinal (record { within_dir = None; within_on = None; rule = rule }) [] none (All-nil IsNotFinal)
in_item (Dynamic name dir on next_id rules) none = in_ruleset dir on rules none

in_items : (items : List Item) → list_any item_has_final items ≡ false → All IsNotFinal (flat_map rules_at items)
in_items [] none = All-nil IsNotFinal
in_items (item ∷ items) none =
    let parts = or_parts (item_has_final item) (list_any item_has_final items) none in
    subst (All IsNotFinal) (sym (flat_map-cons rules_at item items)) (All-append IsNotFinal (rules_at item) (flat_map rules_at items) (in_item item parts.0) (in_items items parts.1))

laid_out : (groups : List Group) (placed : List PlacedRule) (flats : List FlatRule) → AllZip (IsFlatRule groups) placed flats → All IsNotFinal placed
    → All (λ (flat : FlatRule). flat.last ≡ false) flats
laid_out groups [] [] all none = All-nil (λ (flat : FlatRule). flat.last ≡ false)
laid_out groups (p ∷ ps) (f ∷ fs) all none =
    All-cons (λ (flat : FlatRule). flat.last ≡ false) f fs (all.0.last ∙ All-head IsNotFinal p ps none) (laid_out groups ps fs all.1 (All-tail IsNotFinal p ps none))
laid_out groups [] (f ∷ fs) all none = absurd all
laid_out groups (p ∷ ps) [] all none = absurd all

pub none_final : (groups : List Group) (group : Group) (flats : List FlatRule) → AllZip (IsFlatRule groups) (rules_of group) flats → has_final group ≡ false
    → All (λ (flat : FlatRule). flat.last ≡ false) flats
none_final groups group flats all none = laid_out groups (rules_of group) flats all (in_items group.items none)

pub none_decides : (packet : PacketView) (n : ℕ) (flats : List FlatRule) → All (λ (flat : FlatRule). flat.last ≡ false) flats → first_where (flat_decides packet) n flats ≡ None
none_decides packet n [] none = refl
none_decides packet n (f ∷ fs) none =
    rw (All-head (λ (flat : FlatRule). flat.last ≡ false) f fs none) (none_decides packet (n + 1) fs (All-tail (λ (flat : FlatRule). flat.last ≡ false) f fs none))
