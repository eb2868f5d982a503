-- What an explanation says of a rule, a group and a map by their places.
use Rattle.std.proofs.Common.{◌≡◌, ◌≢◌, ◌≤◌, ◌<◌, ℕ, zero, suc, ◌+◌, ◌==◌, nat_le, Bool, true, false, not, ◌&&◌, List, [], ◌∷◌, ◌++◌, Option, Some, None}
use Rattle.std.proofs.Common.{length, map, slice_get, option_and_then, inl, inr, refl, sym, subst, ap, ◌∙◌, true≢false, arith}
use Rattle.std.{specs.{Option.{is_some, option_map, option_or}, Prelude.if◌then◌else◌}, proofs.lemmas.{Bool.cases_Bool, Cmp.nat_eq_equiv, List.{Concat.flat_map-cons, length-append}}}
use Rattle.npf_types.specs.declared.{direction.Dir.Dir, facts.Facts.Facts, interface.IfId.IfId}
use Rattle.npf_model.specs.declared.{group.Group.Group, map.Map.Map, rule.Rule.Rule}
use Rattle.npf_model.specs.{Configuration.{Configuration, map_place_of, verdict_of}, Describes.Tables, MapOf.map_applies, Place.{fits_dir, fits_on}}
use Rattle.npf_model.specs.Verdict.{PlacedRule, all_rules, applies, group_answer, matches, rule_at, rules_of, verdict}
use Rattle.npf_ruleset.specs.{declared.misfit.Part.Part, Misfit.{map_misfit, rule_misfit}}
use Rattle.npf_ruleset.proofs.MisfitLemmas.{applies_without_misfit_lem, matches_without_misfit_lem}
use Rattle.npf_precedence.specs.Precedence.{OrderedRule, rules_from}
use Rattle.npf_explain.specs.declared.{decider.Decider.Decider, told.{RuleTold.RuleTold, ToldGroup.ToldGroup, Unasked.Unasked}}
use Rattle.npf_explain.specs.declared.told.Unasked.TheVariants.{BehindFinal, GroupAnswered, GroupElsewhere}
use Rattle.npf_explain.specs.declared.told.GroupTold.TheVariants as GroupSays
use Rattle.npf_explain.specs.declared.told.MapTold.TheVariants as MapSays
use Rattle.npf_explain.specs.declared.told.RuleTold.TheVariants as RuleSays
use Rattle.npf_explain.specs.Explanation.{decider_of, explanation, group_told, groups_told, is_final_rule, is_decided_before, is_behind_final, is_translated_before}
use Rattle.npf_explain.specs.Explanation.{map_told, maps_told, rule_told, told_by_misfit, told_group, told_map_by_misfit, told_match}
use Rattle.npf_explain.specs.ExplanationLaw.{IsAsked, IsBehindFinal, IsOverridden, IsReached, told_of_group, told_of_rule}
use Rattle.npf_explain.specs.ExplanationLaw.{DecidesExactly, MapAppliesExactly, MisfitsExactly, OverriddenExactly, ReachedExactly}
use Rattle.npf_explain.proofs.FoundLemmas.{IsWithin, answer_matches, answer_of, first_before, first_passes, group_within, or_within, unanswered, verdict_append, verdict_within, wider}

-- tests of places
is_past : (a b : ℕ) → b < a → not (nat_le a b) ≡ true
is_past a b lt = let e : nat_le a b ≡ false = grind arith in ap not e

is_not_past : (a b : ℕ) → a ≤ b → not (nat_le a b) ≡ false
is_not_past a b le = let e : nat_le a b ≡ true = grind arith in ap not e

past : (a b : ℕ) → not (nat_le a b) ≡ true → b < a
past a b is = elim (cases_Bool (nat_le a b)) [
  | inl le ↦ let h = rw le at is in absurd (cc)
  | inr lt ↦ grind arith
]

not_past : (a b : ℕ) → not (nat_le a b) ≡ false → a ≤ b
not_past a b is = elim (cases_Bool (nat_le a b)) [
  | inl le ↦ grind arith
  | inr lt ↦ let h = rw lt at is in absurd (cc)
]

at_place : (s place : ℕ) → (s == place) ≡ true → Some s ≡ Some place
at_place s place is = let e : s ≡ place = grind arith in ap (λ p. Some p) e

other_place : (a b : ℕ) → (a == b) ≡ false → a ≢ b
other_place a b is = grind arith

ordered_at : Group → ℕ → PlacedRule → OrderedRule
ordered_at group place placed = record { place = place; group_dir = group.dir; group_on = group.on; placed = placed }

rule_behind : {Y : Type 0} (f : OrderedRule → Y) (group : Group) (n : ℕ) (rules : List PlacedRule) (k : ℕ) (placed : PlacedRule)
    → slice_get rules k ≡ Some placed
    → slice_get (map f (rules_from group n rules)) k ≡ Some (f (record { place = n + k; group_dir = group.dir; group_on = group.on; placed = placed }))
rule_behind f group n [] k placed at = absurd (cc)
rule_behind f group n (p ∷ ps) zero placed at =
    let same : p ≡ placed = cc in
    let place : n ≡ n + zero = omega arith in
    ap (λ (one : PlacedRule). Some (f (record { place = n; group_dir = group.dir; group_on = group.on; placed = one }))) same
    ∙ ap (λ (m : ℕ). Some (f (record { place = m; group_dir = group.dir; group_on = group.on; placed = placed }))) place
rule_behind f group n (p ∷ ps) (suc k) placed at =
    let place : n + 1 + k ≡ n + suc k = omega arith in
    rule_behind f group (n + 1) ps k placed at
    ∙ ap (λ (m : ℕ). Some (f (record { place = m; group_dir = group.dir; group_on = group.on; placed = placed }))) place

module _ (tables : Tables) (facts : Facts) (ifid : IfId) (dir : Dir) (decider : Option Decider) where
  group_behind : (n : ℕ) (front : List Group) (group : Group) (behind : List Group)
      → slice_get (groups_told tables facts ifid dir decider n (front ++ group ∷ behind)) (length front)
      ≡ Some (told_group tables facts ifid dir decider (n + length (all_rules front)) group)
  group_behind n [] group behind = ap (λ k. Some (told_group tables facts ifid dir decider k group)) (let e : n ≡ n + 0 = omega arith in e)
  group_behind n (g ∷ gs) group behind =
      let all = ap length (flat_map-cons rules_of g gs) ∙ length-append (rules_of g) (all_rules gs) in
      let place : n + length (rules_of g) + length (all_rules gs) ≡ n + length (all_rules (g ∷ gs)) = omega arith in
      group_behind (n + length (rules_of g)) gs group behind ∙ ap (λ k. Some (told_group tables facts ifid dir decider k group)) place

map_behind : (tables : Tables) (facts : Facts) (ifid : IfId) (dir : Dir) (first : Option ℕ) (n : ℕ) (maps : List Map) (k : ℕ) (m : Map)
    → slice_get maps k ≡ Some m → slice_get (maps_told tables facts ifid dir first n maps) k ≡ Some (map_told tables facts ifid dir first (n + k) m)
map_behind tables facts ifid dir first n [] k m at = absurd (cc)
map_behind tables facts ifid dir first n (one ∷ maps) zero m at =
    let same : one ≡ m = cc in
    let place : n ≡ n + zero = omega arith in
    ap (λ (x : Map). Some (map_told tables facts ifid dir first n x)) same ∙ ap (λ p. Some (map_told tables facts ifid dir first p m)) place
map_behind tables facts ifid dir first n (one ∷ maps) (suc k) m at =
    let place : n + 1 + k ≡ n + suc k = omega arith in
    map_behind tables facts ifid dir first (n + 1) maps k m at ∙ ap (λ p. Some (map_told tables facts ifid dir first p m)) place

told_same : {X : Type 0} (o : Option X) (x y : X) → o ≡ Some x → o ≡ Some y → x ≡ y
told_same o x y one other = let e : Some x ≡ Some y = sym one ∙ other in cc

no_answer : (o : Option ℕ) → is_some o ≡ false → o ≡ None
no_answer None is = refl
no_answer (Some x) is = absurd (cc)

no_part : (o : Option Part) → not (is_some o) ≡ true → o ≡ None
no_part None is = refl
no_part (Some x) is = absurd (cc)

some_left : {X : Type 0} (o : Option X) → ¬ (o ≡ None) → is_some o ≡ true
some_left None never = absurd (never refl)
some_left (Some x) never = refl

slice_get_lt : {X : Type 0} (xs : List X) (k : ℕ) (x : X) → slice_get xs k ≡ Some x → k < length xs
slice_get_lt [] k x at = absurd (cc)
slice_get_lt (y ∷ ys) zero x at = omega arith
slice_get_lt (y ∷ ys) (suc k) x at = let h = slice_get_lt ys k x at in omega arith

-- of three answers one behind the other, the first below a place and the last from another one on
one_of_three : (low high : ℕ) (one two three : Option ℕ) (s : ℕ) → ((k : ℕ) → one ≡ Some k → k < low) → ((k : ℕ) → three ≡ Some k → high ≤ k)
    → option_or one (option_or two three) ≡ Some s → low ≤ s → s < high → (one ≡ None) × (two ≡ Some s)
one_of_three low high (Some k) two three s below above is least most = let e : k ≡ s = cc in let h = below k refl in absurd (omega arith)
one_of_three low high None (Some k) three s below above is least most = (refl, is)
one_of_three low high None None three s below above is least most = let h = above s is in absurd (omega arith)

pub record HasValue (o : Option ℕ) : Type 0 where
  pub value : ℕ
  pub is : o ≡ Some value

-- what a rule says by its group and by the part that isn't fitted
decides_fits : (d : Option Decider) (place : ℕ) (o : Option Part) → told_by_misfit d place o ≡ RuleSays.Decides → o ≡ None
decides_fits d place None is = refl
decides_fits d place (Some part) is = absurd (cc)

overridden_fits : (d : Option Decider) (place : ℕ) (o : Option Part) (by : ℕ) → told_by_misfit d place o ≡ RuleSays.Overridden by → o ≡ None
overridden_fits d place None by is = refl
overridden_fits d place (Some part) by is = absurd (cc)

misfits_part : (d : Option Decider) (place : ℕ) (o : Option Part) (part : Part) → told_by_misfit d place o ≡ RuleSays.Misfits part → o ≡ Some part
misfits_part d place (Some unfit) part is = let e : unfit ≡ part = cc in ap (λ p. Some p) e
misfits_part None place None part is = absurd (cc)
misfits_part (Some decider) place None part is = elim (cases_Bool (decider.place == place)) [
  | inl same ↦ let h = rw same at is in absurd (cc)
  | inr other ↦ let h = rw other at is in absurd (cc)
]

not_behind_itself : (last : Bool) (place : ℕ) → (last && not (nat_le place place)) ≡ false
not_behind_itself true place = (is_not_past place place (omega arith))
not_behind_itself false place = refl

decides_itself : (last : Bool) (place : ℕ) → told_match (Some (record { place = place; last = last })) place ≡ RuleSays.Decides
decides_itself last place = let same : (place == place) ≡ true = nat_eq_equiv.refl place in rw same refl

overrides_other : (last : Bool) (by place : ℕ) → by ≢ place → told_match (Some (record { place = by; last = last })) place ≡ RuleSays.Overridden by
overrides_other last by place other = elim (cases_Bool (by == place)) [
  | inl same ↦ let e = at_place by place same in absurd (other (cc))
  | inr never ↦ rw never refl
]

not_reached_before : (before way on : Bool)
    → (if before then GroupSays.NotReached else if not way then GroupSays.OtherDirection else if not on then GroupSays.OtherInterface else GroupSays.Applies) ≡ GroupSays.NotReached
    → before ≡ true
not_reached_before true way on is = refl
not_reached_before false false on is = absurd (cc)
not_reached_before false true false is = absurd (cc)
not_reached_before false true true is = absurd (cc)

map_asked : (before : Bool) (unfit : Option Part) → (if before then MapSays.NotReached else told_map_by_misfit unfit) ≡ MapSays.Applies
    → (before ≡ false) × (unfit ≡ None)
map_asked true unfit is = absurd (cc)
map_asked false (Some part) is = absurd (cc)
map_asked false None is = (refl, refl)

-- a rule that is asked
pub record Asked (tables : Tables) (facts : Facts) (ifid : IfId) (dir : Dir) (d : Option Decider) (before way on : Bool) (place : ℕ) (unfit : Option Part) (r : RuleTold) : Type 0 where
  pub reached : before ≡ false
  pub applies : (way && on) ≡ true
  pub unended : is_behind_final d place ≡ false
  pub by : told_by_misfit d place unfit ≡ r

module _ (tables : Tables) (facts : Facts) (ifid : IfId) (dir : Dir) (d : Option Decider) where
  asked_only : (before way on : Bool) (rule : OrderedRule) (r : RuleTold) → ((u : Unasked) → RuleSays.NotReached u ≢ r)
      → rule_told tables facts ifid dir d
      (if before then GroupSays.NotReached else if not way then GroupSays.OtherDirection else if not on then GroupSays.OtherInterface else GroupSays.Applies) rule ≡ r
      → Asked tables facts ifid dir d before way on rule.place (rule_misfit rule.placed tables facts ifid dir) r
  asked_only true way on rule r other is = absurd (other GroupAnswered is)
  asked_only false false on rule r other is = absurd (other GroupElsewhere is)
  asked_only false true false rule r other is = absurd (other GroupElsewhere is)
  asked_only false true true rule r other is = elim (cases_Bool (is_behind_final d rule.place)) [
    | inl behind ↦ absurd (other BehindFinal (rw behind at is))
    | inr unended ↦ record { reached = refl; applies = refl; unended = unended; by = rw unended at is }
  ]

  asked_gives : (before way on : Bool) (rule : OrderedRule) (r : RuleTold) → before ≡ false → (way && on) ≡ true → is_behind_final d rule.place ≡ false
      → told_by_misfit d rule.place (rule_misfit rule.placed tables facts ifid dir) ≡ r
      → rule_told tables facts ifid dir d
      (if before then GroupSays.NotReached else if not way then GroupSays.OtherDirection else if not on then GroupSays.OtherInterface else GroupSays.Applies) rule ≡ r
  asked_gives true way on rule r reached applies unended is = absurd (cc)
  asked_gives false false on rule r reached applies unended is = absurd (cc)
  asked_gives false true false rule r reached applies unended is = absurd (cc)
  asked_gives false true true rule r reached applies unended is = rw unended is

-- the test of a `final` rule in front
module _ (config : Configuration) (facts : Facts) (ifid : IfId) (dir : Dir) (place : ℕ) where
  behind_holds : IsBehindFinal config facts ifid dir place → is_behind_final (decider_of config.model (verdict_of config facts ifid dir)) place ≡ true
  behind_holds h =
      ap (λ (o : Option ℕ). is_behind_final (decider_of config.model o) place) h.decides
      ∙ ap (λ (rule : Option Rule). is_final_rule rule && not (nat_le place h.decider)) h.at
      ∙ ap (λ (last : Bool). last && not (nat_le place h.decider)) h.final
      ∙ (is_past place h.decider h.before)

  behind_rule : (s : ℕ) (rule : Option Rule) → verdict_of config facts ifid dir ≡ Some s → rule_at config.model s ≡ rule → (is_final_rule rule && not (nat_le place s)) ≡ true
      → IsBehindFinal config facts ifid dir place
  behind_rule s None is at test = absurd (cc)
  behind_rule s (Some rule) is at test = elim (cases_Bool rule.last) [
    | inl final ↦ record { decider = s; rule = rule; decides = is; at = at; final = final; before = past place s (rw final at test) }
    | inr unended ↦ let h = rw unended at test in absurd (cc)
  ]

  behind_is : (o : Option ℕ) → verdict_of config facts ifid dir ≡ o → is_behind_final (decider_of config.model o) place ≡ true → IsBehindFinal config facts ifid dir place
  behind_is None is test = absurd (cc)
  behind_is (Some s) is test = behind_rule s (rule_at config.model s) is refl test

  open_of : is_behind_final (decider_of config.model (verdict_of config facts ifid dir)) place ≡ false → ¬ IsBehindFinal config facts ifid dir place
  open_of unended = λ h. true≢false (sym (behind_holds h) ∙ unended)

  open_is : ¬ IsBehindFinal config facts ifid dir place → is_behind_final (decider_of config.model (verdict_of config facts ifid dir)) place ≡ false
  open_is never = elim (cases_Bool (is_behind_final (decider_of config.model (verdict_of config facts ifid dir)) place)) [
    | inl behind ↦ absurd (never (behind_is (verdict_of config facts ifid dir) refl behind))
    | inr unended ↦ unended
  ]

-- A rule in a group, whatever decides. `v` is the verdict, and of it `a` that of the groups in front, `g` the group's answer and `b` that of those behind.
module _ (config : Configuration) (facts : Facts) (ifid : IfId) (dir : Dir) (front : List Group) (group : Group) (behind : List Group)
    (are : config.model.groups ≡ front ++ group ∷ behind) where
  abbrev n : ℕ
  n = length (all_rules front)

  abbrev v : Option ℕ
  v = verdict_of config facts ifid dir

  abbrev a : Option ℕ
  a = verdict config.tables facts ifid dir 0 front

  abbrev g : Option ℕ
  g = answer_of config.tables facts ifid dir n group

  abbrev b : Option ℕ
  b = verdict config.tables facts ifid dir (n + length (rules_of group)) behind

  abbrev d : Option Decider
  d = decider_of config.model v

  parts_of : v ≡ option_or a (option_or g b)
  parts_of =
      let place : 0 + n ≡ n = omega arith in
      ap (verdict config.tables facts ifid dir 0) are ∙ verdict_append config.tables facts ifid dir 0 front (group ∷ behind)
      ∙ ap (λ (m : ℕ). option_or a (verdict config.tables facts ifid dir m (group ∷ behind))) place

  told_group_is : slice_get (explanation config facts ifid dir).groups (length front) ≡ Some (told_group config.tables facts ifid dir d n group)
  told_group_is =
      let place : 0 + n ≡ n = omega arith in
      ap (λ (groups : List Group). slice_get (groups_told config.tables facts ifid dir d 0 groups) (length front)) are
      ∙ group_behind config.tables facts ifid dir d 0 front group behind ∙ ap (λ (m : ℕ). Some (told_group config.tables facts ifid dir d m group)) place

  told_rule_is : (k : ℕ) (placed : PlacedRule) → slice_get (rules_of group) k ≡ Some placed
      → told_of_rule (explanation config facts ifid dir) front k
      ≡ Some (rule_told config.tables facts ifid dir d (group_told config.tables facts ifid dir d n group)
      (record { place = n + k; group_dir = group.dir; group_on = group.on; placed = placed }))
  told_rule_is k placed at =
      ap (option_and_then (λ (told : ToldGroup). slice_get told.rules k)) told_group_is
      ∙ rule_behind (rule_told config.tables facts ifid dir d (group_told config.tables facts ifid dir d n group)) group n (rules_of group) k placed at

  rest_within : (s : ℕ) → option_or g b ≡ Some s → IsWithin n (n + length (rules_of group) + length (all_rules behind)) s
  rest_within s is =
      let high = n + length (rules_of group) + length (all_rules behind) in
      or_within n high g b s
      (λ k at. wider n (n + length (rules_of group)) n high k (omega arith) (omega arith) (group_within config.tables facts ifid dir n group k at))
      (λ k at. wider (n + length (rules_of group)) high n high k (omega arith) (omega arith) (verdict_within config.tables facts ifid dir (n + length (rules_of group)) behind k at))
      is

  -- the groups in front answer exactly where the verdict stands before the group
  front_answers : (one two : Option ℕ) → one ≡ a → two ≡ option_or g b → is_decided_before (decider_of config.model (option_or one two)) n ≡ is_some one
  front_answers (Some s) two is rest = let place = (verdict_within config.tables facts ifid dir 0 front s (sym is)).most in (is_past n s (omega arith))
  front_answers None None is rest = refl
  front_answers None (Some s) is rest = (is_not_past n s (rest_within s (sym rest)).least)

  reached_is : is_decided_before d n ≡ is_some a
  reached_is = ap (λ (o : Option ℕ). is_decided_before (decider_of config.model o) n) parts_of ∙ front_answers a (option_or g b) refl refl

  reached_of : is_decided_before d n ≡ false → a ≡ None
  reached_of not_before = no_answer a (sym reached_is ∙ not_before)

  not_before : a ≡ None → is_decided_before d n ≡ false
  not_before none = reached_is ∙ ap (λ (o : Option ℕ). is_some o) none

  -- a verdict at a place of the group is the group's answer
  inside : (s : ℕ) → v ≡ Some s → n ≤ s → s < n + length (rules_of group) → (a ≡ None) × (g ≡ Some s)
  inside s is least most =
      one_of_three n (n + length (rules_of group)) a g b s
      (λ k at. let place = (verdict_within config.tables facts ifid dir 0 front k at).most in omega arith)
      (λ k at. (verdict_within config.tables facts ifid dir (n + length (rules_of group)) behind k at).least)
      (sym parts_of ∙ is) least most

  answered : (s : ℕ) → a ≡ None → g ≡ Some s → v ≡ Some s
  answered s none some = parts_of ∙ ap (λ (o : Option ℕ). option_or o (option_or g b)) none ∙ ap (λ (o : Option ℕ). option_or o b) some

  group_applies : (s : ℕ) → g ≡ Some s → applies config.tables facts ifid dir group ≡ true
  group_applies s is = elim (cases_Bool (applies config.tables facts ifid dir group)) [
    | inl holds ↦ holds
    | inr never ↦ let h = rw never at is in absurd (cc)
  ]

  answer_is : (o : Option ℕ) → applies config.tables facts ifid dir group ≡ true → g ≡ o → group_answer config.tables facts ifid dir n (rules_of group) ≡ o
  answer_is o holds is = rw holds at is

  module _ (k : ℕ) (placed : PlacedRule) (at : slice_get (rules_of group) k ≡ Some placed) where
    abbrev misfits : Option Part
    misfits = rule_misfit placed config.tables facts ifid dir

    fits : misfits ≡ None → matches config.tables facts ifid dir placed ≡ true
    fits none = matches_without_misfit_lem config.tables facts ifid dir placed ∙ ap (λ (o : Option Part). not (is_some o)) none

    no_misfit : matches config.tables facts ifid dir placed ≡ true → misfits ≡ None
    no_misfit holds = no_part misfits (sym (matches_without_misfit_lem config.tables facts ifid dir placed) ∙ holds)

    -- a group that applies and has a match has an answer
    some_answer : (o : Option ℕ) → applies config.tables facts ifid dir group ≡ true → matches config.tables facts ifid dir placed ≡ true → g ≡ o → HasValue g
    some_answer (Some s) holds match is = record { value = s; is = is }
    some_answer None holds match is =
        let never = unanswered config.tables facts ifid dir n (rules_of group) k placed (answer_is None holds is) at in absurd (true≢false (sym match ∙ never))

    value_of : applies config.tables facts ifid dir group ≡ true → matches config.tables facts ifid dir placed ≡ true → HasValue g
    value_of holds match = some_answer g holds match refl

    abbrev says : RuleTold
    says = rule_told config.tables facts ifid dir d (group_told config.tables facts ifid dir d n group) (record { place = n + k; group_dir = group.dir; group_on = group.on; placed = placed })

    told_is : (r : RuleTold) → told_of_rule (explanation config facts ifid dir) front k ≡ Some r → says ≡ r
    told_is r is = told_same (told_of_rule (explanation config facts ifid dir) front k) says r (told_rule_is k placed at) is

    asked : (r : RuleTold) → ((u : Unasked) → RuleSays.NotReached u ≢ r) → says ≡ r
        → Asked config.tables facts ifid dir d (is_decided_before d n) (fits_dir group.dir dir) (fits_on group.on ifid) (n + k) misfits r
    asked r other is =
        asked_only config.tables facts ifid dir d (is_decided_before d n) (fits_dir group.dir dir) (fits_on group.on ifid)
        (record { place = n + k; group_dir = group.dir; group_on = group.on; placed = placed }) r other is

    tells : (r : RuleTold) → a ≡ None → applies config.tables facts ifid dir group ≡ true → is_behind_final d (n + k) ≡ false → told_by_misfit d (n + k) misfits ≡ r
        → told_of_rule (explanation config facts ifid dir) front k ≡ Some r
    tells r none holds unended is =
        told_rule_is k placed at
        ∙ ap (λ (told : RuleTold). Some told) (asked_gives config.tables facts ifid dir d (is_decided_before d n) (fits_dir group.dir dir) (fits_on group.on ifid)
        (record { place = n + k; group_dir = group.dir; group_on = group.on; placed = placed }) r (not_before none) holds unended is)

    -- decided here
    decides_only : (o : Option ℕ) → v ≡ o → applies config.tables facts ifid dir group ≡ true → matches config.tables facts ifid dir placed ≡ true → a ≡ None
        → told_match (decider_of config.model o) (n + k) ≡ RuleSays.Decides → o ≡ Some (n + k)
    decides_only None is holds match none told =
        let some = value_of holds match in let h = sym is ∙ answered some.value none some.is in absurd (cc)
    decides_only (Some s) is holds match none told = elim (cases_Bool (s == n + k)) [
      | inl same ↦ at_place s (n + k) same
      | inr other ↦ let h = rw other at told in absurd (cc)
    ]

    told_decides : told_of_rule (explanation config facts ifid dir) front k ≡ Some RuleSays.Decides → v ≡ Some (n + k)
    told_decides is =
        let h = asked RuleSays.Decides (λ u same. cc) (told_is RuleSays.Decides is) in
        let none = decides_fits d (n + k) misfits h.by in
        let match = fits none in
        let told = ap (told_by_misfit d (n + k)) (sym none) ∙ h.by in
        decides_only v refl h.applies match (reached_of h.reached) told

    decides_told : v ≡ Some (n + k) → told_of_rule (explanation config facts ifid dir) front k ≡ Some RuleSays.Decides
    decides_told is =
        let here = inside (n + k) is (omega arith) (let lt = slice_get_lt (rules_of group) k placed at in omega arith) in
        let holds = group_applies (n + k) here.1 in
        let match = answer_matches config.tables facts ifid dir n (rules_of group) k placed (answer_is (Some (n + k)) holds here.1) at in
        tells RuleSays.Decides here.0 holds
        (ap (λ (o : Option ℕ). is_behind_final (decider_of config.model o) (n + k)) is ∙ not_behind_itself (is_final_rule (rule_at config.model (n + k))) (n + k))
        (ap (told_by_misfit d (n + k)) (no_misfit match) ∙ ap (λ (o : Option ℕ). told_match (decider_of config.model o) (n + k)) is
        ∙ decides_itself (is_final_rule (rule_at config.model (n + k))) (n + k))

    -- decided by another one
    overrides_only : (o : Option ℕ) (by : ℕ) → told_match (decider_of config.model o) (n + k) ≡ RuleSays.Overridden by → (o ≡ Some by) × (by ≢ n + k)
    overrides_only None by told = absurd (cc)
    overrides_only (Some s) by told = elim (cases_Bool (s == n + k)) [
      | inl same ↦ let h = rw same at told in absurd (cc)
      | inr other ↦ let e : s ≡ by = (let h = rw other at told in cc) in
          (ap (λ p. Some p) e, subst (λ (p : ℕ). p ≢ n + k) e (other_place s (n + k) other))
    ]

    told_overridden : (by : ℕ) → told_of_rule (explanation config facts ifid dir) front k ≡ Some (RuleSays.Overridden by) → IsOverridden config facts ifid dir front group k placed by
    told_overridden by is =
        let h = asked (RuleSays.Overridden by) (λ u same. cc) (told_is (RuleSays.Overridden by) is) in
        let none = overridden_fits d (n + k) misfits by h.by in
        let match = fits none in
        let told = overrides_only v by (ap (told_by_misfit d (n + k)) (sym none) ∙ h.by) in
        let some = value_of h.applies match in
        let there = sym (answered some.value (reached_of h.reached) some.is) ∙ told.0 in
        let e : some.value ≡ by = cc in
        let place = group_within config.tables facts ifid dir n group by (some.is ∙ ap (λ p. Some p) e) in
        record { decides = told.0; least = place.least; most = place.most; other = told.1; matched = match; unended = open_of config facts ifid dir (n + k) h.unended }

    overridden_told : (by : ℕ) → IsOverridden config facts ifid dir front group k placed by → told_of_rule (explanation config facts ifid dir) front k ≡ Some (RuleSays.Overridden by)
    overridden_told by h =
        let here = inside by h.decides h.least h.most in
        tells (RuleSays.Overridden by) here.0 (group_applies by here.1) (open_is config facts ifid dir (n + k) h.unended)
        (ap (told_by_misfit d (n + k)) (no_misfit h.matched)
        ∙ ap (λ (o : Option ℕ). told_match (decider_of config.model o) (n + k)) h.decides ∙ overrides_other (is_final_rule (rule_at config.model by)) by (n + k) h.other)

    -- and a part that isn't fitted
    told_misfits : (part : Part) → told_of_rule (explanation config facts ifid dir) front k ≡ Some (RuleSays.Misfits part)
        → IsAsked config facts ifid dir front group k × (misfits ≡ Some part)
    told_misfits part is =
        let h = asked (RuleSays.Misfits part) (λ u same. cc) (told_is (RuleSays.Misfits part) is) in
        (record { reached = reached_of h.reached; applied = h.applies; unended = open_of config facts ifid dir (n + k) h.unended }, misfits_part d (n + k) misfits part h.by)

    misfits_told : (part : Part) → IsAsked config facts ifid dir front group k × (misfits ≡ Some part)
        → told_of_rule (explanation config facts ifid dir) front k ≡ Some (RuleSays.Misfits part)
    misfits_told part h =
        tells (RuleSays.Misfits part) h.0.reached h.0.applied (open_is config facts ifid dir (n + k) h.0.unended) (ap (told_by_misfit d (n + k)) h.1)

  told_not_reached : told_of_group (explanation config facts ifid dir) front ≡ Some GroupSays.NotReached → ¬ IsReached config facts ifid dir front
  told_not_reached is = λ none.
      let says = told_same (told_of_group (explanation config facts ifid dir) front) (group_told config.tables facts ifid dir d n group) GroupSays.NotReached
      (ap (option_map (λ (told : ToldGroup). told.told)) told_group_is) is in
      let h = not_reached_before (is_decided_before d n) (fits_dir group.dir dir) (fits_on group.on ifid) says in
      true≢false (sym h ∙ not_before none)

  not_reached_told : ¬ IsReached config facts ifid dir front → told_of_group (explanation config facts ifid dir) front ≡ Some GroupSays.NotReached
  not_reached_told never =
      let before : is_decided_before d n ≡ true = reached_is ∙ some_left a never in
      ap (option_map (λ (told : ToldGroup). told.told)) told_group_is ∙ rw before refl

pub decides_exactly_lem : DecidesExactly
decides_exactly_lem config facts ifid dir front group k placed has = (
  told_decides config facts ifid dir front group has.within.behind has.within.are k placed has.rule,
  decides_told config facts ifid dir front group has.within.behind has.within.are k placed has.rule,
)

pub overridden_exactly_lem : OverriddenExactly
overridden_exactly_lem config facts ifid dir front group k placed by has = (
  told_overridden config facts ifid dir front group has.within.behind has.within.are k placed has.rule by,
  overridden_told config facts ifid dir front group has.within.behind has.within.are k placed has.rule by,
)

pub misfits_exactly_lem : MisfitsExactly
misfits_exactly_lem config facts ifid dir front group k placed part has = (
  told_misfits config facts ifid dir front group has.within.behind has.within.are k placed has.rule part,
  misfits_told config facts ifid dir front group has.within.behind has.within.are k placed has.rule part,
)

pub reached_exactly_lem : ReachedExactly
reached_exactly_lem config facts ifid dir front group has =
    (told_not_reached config facts ifid dir front group has.behind has.are, not_reached_told config facts ifid dir front group has.behind has.are)

module _ (config : Configuration) (facts : Facts) (ifid : IfId) (dir : Dir) (k : ℕ) (m : Map) (at : slice_get config.model.maps k ≡ Some m) where
  abbrev first : Option ℕ
  first = map_place_of config facts ifid dir

  abbrev unfit : Option Part
  unfit = map_misfit m config.tables facts ifid dir

  map_says : slice_get (explanation config facts ifid dir).maps k ≡ Some (map_told config.tables facts ifid dir first k m)
  map_says =
      let place : 0 + k ≡ k = omega arith in
      map_behind config.tables facts ifid dir first 0 config.model.maps k m at ∙ ap (λ p. Some (map_told config.tables facts ifid dir first p m)) place

  told_first : (o : Option ℕ) → first ≡ o → (if is_translated_before o k then MapSays.NotReached else told_map_by_misfit unfit) ≡ MapSays.Applies → o ≡ Some k
  told_first o is told =
      let asks = map_asked (is_translated_before o k) unfit told in
      let holds : map_applies config.tables facts ifid dir m ≡ true =
      applies_without_misfit_lem config.tables facts ifid dir m ∙ ap (λ (u : Option Part). not (is_some u)) asks.1 in
      let there = first_before (map_applies config.tables facts ifid dir) 0 config.model.maps k m at holds in
      first_at o there.at (sym is ∙ there.first) asks.0 (let b = there.before in omega arith)
    where
      first_at : (o : Option ℕ) (s : ℕ) → o ≡ Some s → is_translated_before o k ≡ false → s ≤ k → o ≡ Some k
      first_at None s is before le = absurd (cc)
      first_at (Some j) s is before le =
          let e : j ≡ s = cc in let b = not_past k j before in let same : j ≡ k = omega arith in ap (λ p. Some p) same

  first_told : first ≡ Some k → slice_get (explanation config facts ifid dir).maps k ≡ Some MapSays.Applies
  first_told is =
      let place : k ≡ 0 + k = omega arith in
      let holds = first_passes (map_applies config.tables facts ifid dir) 0 config.model.maps k m (is ∙ ap (λ p. Some p) place) at in
      let none = no_part unfit (sym (applies_without_misfit_lem config.tables facts ifid dir m) ∙ holds) in
      let unended : is_translated_before first k ≡ false = ap (λ (o : Option ℕ). is_translated_before o k) is ∙ (is_not_past k k (omega arith)) in
      map_says ∙ rw (unended, none) refl

  map_told_first : slice_get (explanation config facts ifid dir).maps k ≡ Some MapSays.Applies → first ≡ Some k
  map_told_first is = told_first first refl (told_same (slice_get (explanation config facts ifid dir).maps k) (map_told config.tables facts ifid dir first k m) MapSays.Applies map_says is)

pub map_applies_exactly_lem : MapAppliesExactly
map_applies_exactly_lem config facts ifid dir k m at = (map_told_first config facts ifid dir k m at, first_told config facts ifid dir k m at)
