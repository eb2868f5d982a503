-- What is told of the orders of precedence is told of the configurations.
use Rattle.std.proofs.Common.{◌≡◌, ℕ, ◌≤◌, true, List, Option, Some, None, length, map, slice_get, slice_index, refl, sym, subst, ap, ◌∙◌, inl, inr, option_and_then, arith}
use Rattle.std.specs.List.{Contains}
use Rattle.std.specs.Option.{option_map}
use Rattle.std.proofs.lemmas.Bool.{cases_lt}
use Rattle.std.proofs.lemmas.List.Elements.{All-weaker}
use Rattle.std.proofs.lemmas.Option.{slice_get_past}
use Rattle.npf_types.specs.declared.{direction.Dir.Dir, facts.Facts.Facts, interface.IfId.IfId}
use Rattle.npf_model.specs.Configuration.{verdict_of}
use Rattle.npf_model.specs.Verdict.{rule_at}
use Rattle.npf_precedence.specs.declared.entry.RuleEntry.{RuleEntry}
use Rattle.npf_precedence.specs.PrecedenceLaw.{EachRuleOnce, FirstMatchDecides}
use Rattle.npf_products.specs.declared.packet.CellPacket.{CellPacket}
use Rattle.npf_treatment.specs.Treatment.{rule_effect}
use Rattle.npf_judge.specs.Order.{entry_place, meets_entry}
use Rattle.npf_judge.specs.Place.{HasRulePlaces, IsRulePlace}
use Rattle.npf_judge.proofs.{AnswerLemmas.verdict_first, FirstLemmas.{first_found, some_first}, PlaceLemmas.{has_places, place_of, there_is}}
use Rattle.npf_compare.specs.declared.{asked.AskedPlaces.AskedPlaces, difference.RuleDifference.RuleDifference, side.RuleSide.RuleSide}
use Rattle.npf_compare.specs.Difference.{AreRuleDifferences, AreWholeDifferences, IsRuleDifference, rule_effect_on, rule_pair}
use Rattle.npf_compare.specs.Side.{AreBothFirst, IsSideOf, effect_at, is_first_at, place_in, side_config}
use Rattle.npf_compare.specs.Told.{AreToldOfAll, IsAskedWhole, IsToldOf}
use Rattle.npf_compare.proofs.ToldLemmas.{no_rule_there, rule_there}

-- ---- one configuration
module _ (side : RuleSide) (is : IsSideOf side) (first_decides : FirstMatchDecides) (once : EachRuleOnce) where
  placed : HasRulePlaces side.model.now side.order.now
  placed = has_places side.model.now side.order.now is.laid once

  -- the rule at a place in the order of inspection is the one that stands at its place in the order of precedence
  rule_at_place : (place : ℕ) → place ≤ length side.order.now → entry_place (slice_get side.order.now (slice_index side.at.now place)) ≡ place_in side place
  rule_at_place place within = elim (cases_lt place (length side.order.now)) [
    | inl low ↦
        let there = place_of side.model.now side.order.now is.laid once place low in
        ap (λ n. entry_place (slice_get side.order.now n)) (is.places.rules there.0 place there.1) ∙ there.1 ∙ sym (rule_there (length side.order.now) place low)
    | inr past ↦
        let end : place ≡ length side.order.now = omega (arith, within, past) in
        ap (λ n. entry_place (slice_get side.order.now n)) (ap (slice_index side.at.now) end ∙ is.places.last)
        ∙ ap entry_place (slice_get_past side.order.now (length side.order.now) (omega arith))
        ∙ sym (no_rule_there (length side.order.now) place past)
  ]

  place_with : (at : ℕ) → at ≤ length side.order.now → (place : ℕ) × (place ≤ length side.order.now) × (slice_index side.at.now place ≡ at)
  place_with at within = elim (cases_lt at (length side.order.now)) [
    | inl low ↦
        let entry = there_is side.order.now at low in
        let here : IsRulePlace side.order.now at entry.0.place = ap entry_place entry.1 in
        let inside = placed.below at entry.0.place here in
        (entry.0.place, omega (arith, inside), is.places.rules at entry.0.place here)
    | inr past ↦ let end : at ≡ length side.order.now = omega (arith, within, past) in (length side.order.now, omega arith, is.places.last ∙ sym end)
  ]

  module _ (facts : Facts) (ifid : IfId) (dir : Dir) (at : ℕ) (first : is_first_at side at facts ifid dir ≡ true) where
    decided_by : verdict_of (side_config side) facts ifid dir ≡ entry_place (slice_get side.order.now at)
    decided_by =
        verdict_first side.tables.now facts ifid dir side.model.now.groups side.order.now is.laid first_decides
        ∙ ap entry_place (first_found (meets_entry side.tables.now facts ifid dir) side.order.now at first)

    rule_of : (found : Option RuleEntry) → slice_get side.order.now at ≡ found
        → option_and_then (rule_at side.model.now) (entry_place found) ≡ option_map (λ (entry : RuleEntry). entry.rule.now) found
    rule_of None there = refl
    rule_of (Some entry) there = placed.rules at entry there

    treated_by : rule_effect_on (side_config side) facts ifid dir ≡ effect_at side at
    treated_by = ap (rule_effect side.model.now) (ap (option_and_then (rule_at side.model.now)) decided_by ∙ rule_of (slice_get side.order.now at) refl)

-- ---- both
module _ (old new : RuleSide) (old_is : IsSideOf old) (new_is : IsSideOf new) (first_decides : FirstMatchDecides) (once : EachRuleOnce)
    (asked : AskedPlaces) (whole : IsAskedWhole old new asked) (differences : List RuleDifference) (told : AreToldOfAll old new asked differences) where
  is_difference : (difference : RuleDifference) → IsToldOf old new difference → IsRuleDifference (side_config old) (side_config new) difference
  is_difference difference of =
      let facts = difference.packet.facts in
      let ifid = difference.packet.ifid in
      let dir = difference.packet.dir in
      let at = slice_index old.at.now of.place in
      let other = slice_index new.at.now of.other in
      let first = of.unlike.first in
      record {
        possible = first.possible;
        by_old = decided_by old old_is first_decides once facts ifid dir at first.by_old ∙ rule_at_place old old_is first_decides once of.place of.old_within ∙ sym of.old_is;
        by_new = decided_by new new_is first_decides once facts ifid dir other first.by_new ∙ rule_at_place new new_is first_decides once of.other of.new_within ∙ sym of.new_is;
        otherwise = λ same. of.unlike.otherwise (sym (treated_by old old_is first_decides once facts ifid dir at first.by_old) ∙ same
            ∙ treated_by new new_is first_decides once facts ifid dir other first.by_new);
      }

  all_settled : AreWholeDifferences (side_config old) (side_config new) differences
  all_settled facts ifid dir possible =
      let old_first = some_first (meets_entry old.tables.now facts ifid dir) old.order.now in
      let new_first = some_first (meets_entry new.tables.now facts ifid dir) new.order.now in
      let one = place_with old old_is first_decides once old_first.0 old_first.1 in
      let two = place_with new new_is first_decides once new_first.0 new_first.1 in
      let at = slice_index old.at.now one.0 in
      let other = slice_index new.at.now two.0 in
      let packet : CellPacket = record { facts = facts; ifid = ifid; dir = dir } in
      let by_old : is_first_at old at facts ifid dir ≡ true = ap (λ n. is_first_at old n facts ifid dir) one.2 ∙ old_first.2 in
      let by_new : is_first_at new other facts ifid dir ≡ true = ap (λ n. is_first_at new n facts ifid dir) two.2 ∙ new_first.2 in
      let first : AreBothFirst old new at other packet = record { possible = possible; by_old = by_old; by_new = by_new } in
      let alike : effect_at old at ≡ effect_at new other → rule_effect_on (side_config old) facts ifid dir ≡ rule_effect_on (side_config new) facts ifid dir =
      λ same. treated_by old old_is first_decides once facts ifid dir at by_old ∙ same ∙ sym (treated_by new new_is first_decides once facts ifid dir other by_new) in
      elim (whole.whole at two.0 two.1) [
        | inl is ↦ elim (told.settled one.0 two.0 one.1 is packet first) [
          | inl same ↦ inl (alike same)
          | inr there ↦ inr (subst (λ rule. Contains (map rule_pair differences) (rule, verdict_of (side_config new) facts ifid dir))
              (sym (decided_by old old_is first_decides once facts ifid dir at by_old ∙ rule_at_place old old_is first_decides once one.0 one.1))
              (subst (λ rule. Contains (map rule_pair differences) (place_in old one.0, rule))
              (sym (decided_by new new_is first_decides once facts ifid dir other by_new ∙ rule_at_place new new_is first_decides once two.0 two.1)) there))
        ]
        | inr same ↦ inl (alike (same packet first))
      ]

  pub are_differences : AreRuleDifferences (side_config old) (side_config new) differences
  are_differences = record {
    each = All-weaker (IsToldOf old new) (IsRuleDifference (side_config old) (side_config new)) is_difference differences told.told.each;
    whole = all_settled;
    ordered = told.told.ordered;
  }
