use Rattle.std.{proofs.Common.{◌≡◌, ◌<◌, ◌-◌, ℕ, Some, List, [], length, slice_get, take, get_or, refl, subst, sym, ap, ◌∙◌, arith}, specs.List.AllZip}
use Rattle.std.proofs.{Math.Seq.take-length, lemmas.Option.slice_get_read}
use Rattle.npf_model.specs.Verdict.{all_rules, rules_of}
use Rattle.npf_ruleset.specs.{declared.flat.FlatGroup.FlatGroup, Flat.IsFlatGroup, Layout.{AddsPlaces, ArePlacesOf, rules_in_group}}
use Rattle.npf_ruleset.proofs.LayoutLemmas.{adds_both, adds_len, adds_none, group_related, next_part}
use Rattle.npf_ruleset.proofs.layout.GroupLayout.of.Goals as goal

read : {X : Type 0} (xs : List X) (n : ℕ) (x : X) → n < length xs → x ≡ get_or xs n x → slice_get xs n ≡ Some x
read xs n x lt is = slice_get_read xs (length xs) n x refl lt is

pub loop-number-init : goal.loop-number-init
loop-number-init c = (
  subst (AddsPlaces c.args.groups.now [] []) (sym c.new.ensures.items) (adds_none c.args.groups.now []),
  subst (AllZip IsFlatGroup []) (sym c.in_ok-with_capacity.ensures.items) tt,
)

pub loop-number-preserved : goal.loop-number-preserved
loop-number-preserved c =
    let groups = c.args.groups.now in let n = c.loop-number.number in
    let group = read groups n c.index-groups-number.result c.loop-number-test.true c.index-groups-number.is in
    let added : AddsPlaces groups (rules_of c.index-groups-number.result) c.loop-number.layout.places.items c.add_group.new.places.items =
    subst (λ rules. AddsPlaces groups rules c.loop-number.layout.places.items c.add_group.new.places.items) (ap rules_in_group group) c.in_ok-add_group.ensures in
    let count = adds_len groups (rules_of c.index-groups-number.result) c.loop-number.layout.places.items c.add_group.new.places.items added in
    let before : c.len-before.result ≡ length c.loop-number.layout.places.items = c.len-before.ensures ∙ c.loop-number.layout.places.ok.0 in
    let after : c.len.result ≡ length c.add_group.new.places.items = c.len.ensures ∙ c.add_group.new.places.ok.0 in
    let flat : FlatGroup = record { binding = c.of_group.result; count = c.len.result - c.len-before.result; finals = c.has_final.result } in (
      subst (λ rules. AddsPlaces groups rules [] c.add_group.new.places.items) (sym (next_part rules_of groups n c.index-groups-number.result group))
          (adds_both groups (all_rules (take n groups)) (rules_of c.index-groups-number.result) [] c.loop-number.layout.places.items c.add_group.new.places.items c.loop-number.invariant.0 added),
      group_related groups n c.index-groups-number.result flat c.loop-number.layout.groups.items c.push.new.self.items group c.loop-number.invariant.1
          (record { binding = c.of_group.ensures; count = omega arith; finals = c.has_final.ensures }) c.in_ok-push.ensures.items,
    )

pub returns-clause-groups : goal.returns-clause-groups
returns-clause-groups c =
    let end = c.loop-number.auto.number-end in let past = c.loop-number-test.false in
    let last : c.loop-number.number ≡ length c.args.groups.now = omega arith in
    let whole : take c.loop-number.number c.args.groups.now ≡ c.args.groups.now = ap (λ k. take k c.args.groups.now) last ∙ take-length c.args.groups.now in
    subst (λ groups. AllZip IsFlatGroup groups c.loop-number.layout.groups.items) whole c.loop-number.invariant.1

pub returns-clause-places : goal.returns-clause-places
returns-clause-places c =
    let end = c.loop-number.auto.number-end in let past = c.loop-number-test.false in
    let last : c.loop-number.number ≡ length c.args.groups.now = omega arith in
    let whole : take c.loop-number.number c.args.groups.now ≡ c.args.groups.now = ap (λ k. take k c.args.groups.now) last ∙ take-length c.args.groups.now in
    let adds = subst (λ groups. AddsPlaces c.args.groups.now (all_rules groups) [] c.loop-number.layout.places.items) whole c.loop-number.invariant.0 in
    subst (ArePlacesOf c.args.groups.now) (sym adds.are) adds.each
