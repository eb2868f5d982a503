use Rattle.std.proofs.{Common.{◌≡◌, ◌<◌, ℕ, Some, List, flat_map, length, slice_get, take, refl, subst, sym, ap, ◌∙◌, arith, get_or}, Math.Seq.take-length}
use Rattle.std.proofs.lemmas.Option.{slice_get-get_or, slice_get_read}
use Rattle.npf_model.specs.Verdict.{rules_at}
use Rattle.npf_ruleset.{specs.Layout.AddsPlaces, proofs.LayoutLemmas.{adds_both, adds_item, adds_none, in_group, next_part, stands_there}}
use Rattle.npf_ruleset.proofs.layout.add_group.Goals as goal

-- what an index reads is there
read : {X : Type 0} (xs : List X) (n : ℕ) (x : X) → n < length xs → x ≡ get_or xs n x → slice_get xs n ≡ Some x
read xs n x lt is = slice_get_read xs (length xs) n x refl lt is

pub loop-at-init : goal.loop-at-init
loop-at-init c = adds_none c.args.groups.now c.args.places.now.items

pub loop-at-preserved : goal.loop-at-preserved
loop-at-preserved c =
    let groups = c.args.groups.now in
    let items = c.as_slice-item-items.result.now in
    let group = slice_get-get_or groups c.args.number c.index-groups-number.result c.requires in
    let item = read items c.loop-at.at c.item-item.result c.loop-at-test.true c.item-item.is in
    subst (λ rules. AddsPlaces groups rules c.args.places.now.items c.add_item.new.places.items) (sym (next_part rules_at items c.loop-at.at c.item-item.result item))
    (adds_both groups (flat_map rules_at (take c.loop-at.at items)) (rules_at c.item-item.result) c.args.places.now.items c.loop-at.places.items c.add_item.new.places.items c.loop-at.invariant
    (adds_item groups (record { group = c.args.number; item = c.loop-at.at; number = 0 }) (rules_at c.item-item.result)
    (stands_there groups c.args.number (get_or groups c.args.number c.index-groups-number.result) items c.item-item.result c.loop-at.at group c.as_slice-item-items.ensures item)
    c.count_of.result c.count_of.ensures c.loop-at.places.items c.add_item.new.places.items c.in_ok-add_item.ensures))

pub returns : goal.returns
returns c =
    let groups = c.args.groups.now in
    let items = c.as_slice-item-items.result.now in
    let group = slice_get-get_or groups c.args.number c.index-groups-number.result c.requires in
    let end = c.loop-at.auto.at-end in let past = c.loop-at-test.false in
    let last : c.loop-at.at ≡ length items = omega arith in
    subst (λ rules. AddsPlaces groups rules c.args.places.now.items c.loop-at.places.items)
    (ap (λ k. flat_map rules_at (take k items)) last ∙ ap (flat_map rules_at) (take-length items)
    ∙ sym (in_group groups c.args.number (get_or groups c.args.number c.index-groups-number.result) items group c.as_slice-item-items.ensures))
    c.loop-at.invariant
