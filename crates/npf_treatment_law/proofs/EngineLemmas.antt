-- What the engine makes of a packet follows from its treatment and the settings.
use Rattle.std.proofs.Common.{◌≡◌, ◌≤◌, ◌+◌, ℕ, zero, suc, Bool, true, false, ◌&&◌, List, [], ◌∷◌, Option, Some, None, refl, sym, ap, ◌∙◌, subst, arith}
use Rattle.std.specs.Prelude.{slice_get, option_and_then, if◌then◌else◌}
use Rattle.std.specs.Option.{option_map}
use Rattle.npf_types.specs.declared.{direction.Dir.{Dir}, facts.Facts.{Facts}, interface.IfId.{IfId}}
use Rattle.npf_model.specs.declared.{map.Map.{Map}, model.Model.{Model}, rule.Rule.{Rule}}
use Rattle.npf_model.specs.{Configuration.{Configuration, verdict_of}, Describes.{Tables}, MapOf.{fits_map_protocol, fits_segment, map_applies}}
use Rattle.npf_model.specs.{Settings.{drawn_ports}, Verdict.{first_where, rule_at}}
use Rattle.npf_nat.specs.MapPlan.{plan, plan_by}
use Rattle.npf_engine.specs.Rules.{mapping, mapping_by, mapping_under, ruling, ruling_of}
use Rattle.npf_treatment.specs.declared.{map.MapEffect.{MapEffect}, rule.RuleEffect.{RuleEffect, TheVariants.{Blocked, Passed}}}
use Rattle.npf_treatment.specs.Treatment.{applying_map, deciding_rule, map_effect, rule_effect, treatment, treatment_by}
use Rattle.npf_treatment_law.specs.TreatmentLaw.{AreHandledAlike, PassesBy, ruling_effect}
use Rattle.npf_treatment_law.proofs.PlanLemmas.{algos_alike, plans_alike}

rule_of_treatment : (e : RuleEffect) (m : Option MapEffect) → (treatment_by e m).rule ≡ e
rule_of_treatment (Blocked answer log) m = refl
rule_of_treatment (Passed state action) m = refl

map_of_treatment : (e : RuleEffect) (m : Option MapEffect) → PassesBy e → (treatment_by e m).map ≡ m
map_of_treatment (Blocked answer log) m passes = absurd passes
map_of_treatment (Passed state action) m passes = refl

-- a ruling does what its rule does
by_rule : (model : Model) (place : ℕ) (rule : Option Rule) → ruling_effect (option_map (ruling model place) rule) ≡ rule_effect model rule
by_rule model place None = refl
by_rule model place (Some rule) = refl

by_place : (model : Model) (place : Option ℕ)
    → ruling_effect (option_and_then (λ at. option_map (ruling model at) (rule_at model at)) place) ≡ rule_effect model (option_and_then (rule_at model) place)
by_place model None = refl
by_place model (Some place) = by_rule model place (rule_at model place)

module _ (config : Configuration) (facts : Facts) (ifid : IfId) (dir : Dir) where
  pub ruled : ruling_effect (ruling_of config facts ifid dir) ≡ rule_effect config.model (deciding_rule config facts ifid dir)
  ruled = by_place config.model (verdict_of config facts ifid dir)

  pub treated : (treatment config facts ifid dir).rule ≡ ruling_effect (ruling_of config facts ifid dir)
  treated = rule_of_treatment _ _ ∙ sym ruled

  pub mapped : PassesBy (ruling_effect (ruling_of config facts ifid dir))
      → (treatment config facts ifid dir).map ≡ option_map (λ map. map_effect map dir) (applying_map config facts ifid dir)
  mapped passes = map_of_treatment _ _ (subst PassesBy ruled passes)

module _ {X : Type 0} (test : X → Bool) where
  behind_start : (n p : ℕ) (xs : List X) → first_where test n xs ≡ Some p → n ≤ p
  behind_start n p [] found = absurd cc
  behind_start n p (y ∷ ys) found = at_test (test y) (behind_start (n + 1) p ys) found
    where
      at_test : (b : Bool) → (first_where test (n + 1) ys ≡ Some p → n + 1 ≤ p) → (if b then Some n else first_where test (n + 1) ys) ≡ Some p → n ≤ p
      at_test true behind here = let same : n ≡ p = cc in omega arith
      at_test false behind later = let after = behind later in omega arith

  -- what is found first passes the test
  found_passes : (n k : ℕ) (xs : List X) (x : X) → first_where test n xs ≡ Some (n + k) → slice_get xs k ≡ Some x → test x ≡ true
  found_passes n k [] x found is = absurd cc
  found_passes n zero (y ∷ ys) x found is = at_test (test y) refl found
    where
      at_test : (b : Bool) → test y ≡ b → (if b then Some n else first_where test (n + 1) ys) ≡ Some (n + zero) → test x ≡ true
      at_test true passes here = let same : y ≡ x = cc in subst (λ z. test z ≡ true) same passes
      at_test false fails later = let after = behind_start (n + 1) (n + zero) ys later in absurd (omega arith)
  found_passes n (suc k) (y ∷ ys) x found is =
      let next : n + suc k ≡ n + 1 + k = omega arith in
      at_test (test y) (λ later. found_passes (n + 1) k ys x (later ∙ ap Some next) is) found
    where
      at_test : (b : Bool) → (first_where test (n + 1) ys ≡ Some (n + suc k) → test x ≡ true) → (if b then Some n else first_where test (n + 1) ys) ≡ Some (n + suc k)
          → test x ≡ true
      at_test true behind here = let same : n ≡ n + suc k = cc in absurd (omega arith)
      at_test false behind later = behind later

module _ (tables : Tables) (facts : Facts) (ifid : IfId) (dir : Dir) where
  -- a map that applies has the packet's protocol and end
  fits_by : (on proto filter segment : Bool) → (on && proto && filter && segment) ≡ true → (proto && segment) ≡ true
  fits_by true true true true h = refl
  fits_by true true true false h = absurd cc
  fits_by true true false segment h = absurd cc
  fits_by true false filter segment h = absurd cc
  fits_by false proto filter segment h = absurd cc

  fits : (map : Map) → map_applies tables facts ifid dir map ≡ true → (fits_map_protocol map.proto facts.proto && fits_segment map facts dir) ≡ true
  fits map applies = fits_by _ (fits_map_protocol map.proto facts.proto) _ (fits_segment map facts dir) applies

  found_applies : (maps : List Map) (place : Option ℕ) (map : Map) → first_where (map_applies tables facts ifid dir) 0 maps ≡ place
      → option_and_then (slice_get maps) place ≡ Some map → map_applies tables facts ifid dir map ≡ true
  found_applies maps None map found is = absurd cc
  found_applies maps (Some k) map found is =
      let same : k ≡ 0 + k = omega arith in
      found_passes (map_applies tables facts ifid dir) 0 k maps map (found ∙ ap Some same) is

  plan_there : (unsaid : ℕ × ℕ) (map : Map) → map_applies tables facts ifid dir map ≡ true → plan unsaid map facts dir ≡ Some (plan_by unsaid dir map facts)
  plan_there unsaid map applies = rw (fits map applies) refl

module _ (old new : Configuration) (facts : Facts) (ifid : IfId) (dir : Dir) (settings : old.model.settings ≡ new.model.settings) where
  abbrev effects_of : Option Map → Option MapEffect
  effects_of map = option_map (λ it. map_effect it dir) map

  both_map : (a b : Map) → applying_map old facts ifid dir ≡ Some a → applying_map new facts ifid dir ≡ Some b → map_effect a dir ≡ map_effect b dir
      → mapping_under old.model.settings facts dir (Some a) ≡ mapping_under new.model.settings facts dir (Some b)
  both_map a b is_a is_b same =
      let ports_old = drawn_ports old.model.settings in
      let ports_new = drawn_ports new.model.settings in
      let of_a = plan_there old.tables facts ifid dir ports_old a (found_applies old.tables facts ifid dir old.model.maps _ a refl is_a) in
      let of_b = plan_there new.tables facts ifid dir ports_new b (found_applies new.tables facts ifid dir new.model.maps _ b refl is_b) in
      let plans : plan_by ports_old dir a facts ≡ plan_by ports_new dir b facts
      = plans_alike a b ports_old facts dir same ∙ ap (λ s. plan_by (drawn_ports s) dir b facts) settings in
      ap (mapping_by a.algo) of_a ∙ (λ i. mapping (algos_alike a b dir same i) (plans i)) ∙ sym (ap (mapping_by b.algo) of_b)

  both : (x y : Option Map) → applying_map old facts ifid dir ≡ x → applying_map new facts ifid dir ≡ y → effects_of x ≡ effects_of y
      → mapping_under old.model.settings facts dir x ≡ mapping_under new.model.settings facts dir y
  both None None is_x is_y same = refl
  both (Some a) (Some b) is_x is_y same = both_map a b is_x is_y cc
  both None (Some b) is_x is_y same = absurd cc
  both (Some a) None is_x is_y same = absurd cc

pub handled_alike : (old new : Configuration) (facts : Facts) (ifid : IfId) (dir : Dir) → old.model.settings ≡ new.model.settings
    → treatment old facts ifid dir ≡ treatment new facts ifid dir → AreHandledAlike old new facts ifid dir
handled_alike old new facts ifid dir settings same =
    let rules = sym (treated old facts ifid dir) ∙ ap (λ t. t.rule) same ∙ treated new facts ifid dir in
    record {
      rule = rules;
      map = λ passes.
          both old new facts ifid dir settings (applying_map old facts ifid dir) (applying_map new facts ifid dir) refl refl
          (sym (mapped old facts ifid dir passes) ∙ ap (λ t. t.map) same ∙ mapped new facts ifid dir (subst PassesBy rules passes));
    }
