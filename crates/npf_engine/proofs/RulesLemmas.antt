-- The places of the rule that decides and of the map that translates are places of the configuration.
use Rattle.std.proofs.Common.{◌≡◌, ◌<◌, ◌⊎◌, ℕ, ◌+◌, Bool, true, false, List, [], ◌∷◌, Some, None, length, sym, inl, inr, arith, suc, length-append}
use Rattle.std.specs.Prelude.{if◌then◌else◌}
use Rattle.npf_types.specs.declared.{direction.Dir.Dir, facts.Facts.Facts, interface.IfId.IfId}
use Rattle.npf_packet.proofs.UpperLemmas.{some_of_either}
use Rattle.npf_model.specs.{declared.group.Group.Group, Configuration.{Configuration, verdict_of, map_place_of}, Describes.Tables, MapOf.map_applies}
use Rattle.npf_model.specs.Verdict.{all_rules, applies, decides, first_where, group_answer, last_where, matches, rules_of, verdict}

module _ {X : Type 0} (test : X → Bool) where
  first_within : (n : ℕ) (xs : List X) (p : ℕ) → first_where test n xs ≡ Some p → p < n + length xs
  first_within n [] p is = absurd cc
  first_within n (x ∷ xs) p is = at_test (test x) (first_within (n + 1) xs p) is
    where
      at_test : (b : Bool) → (first_where test (n + 1) xs ≡ Some p → p < n + 1 + length xs) → (if b then Some n else first_where test (n + 1) xs) ≡ Some p → p < n + suc (length xs)
      at_test true behind here = let same : n ≡ p = cc in omega arith
      at_test false behind later = let within = behind later in omega arith

  last_within : (n : ℕ) (xs : List X) (p : ℕ) → last_where test n xs ≡ Some p → p < n + length xs
  last_within n [] p is = absurd cc
  last_within n (x ∷ xs) p is =
      at_last (last_within (n + 1) xs p) (some_of_either (last_where test (n + 1) xs) (if test x then Some n else None) p is)
    where
      at_test : (b : Bool) → (if b then Some n else None) ≡ Some p → p < n + suc (length xs)
      at_test true here = let same : n ≡ p = cc in omega arith
      at_test false none = absurd cc

      at_last : (last_where test (n + 1) xs ≡ Some p → p < n + 1 + length xs) → (last_where test (n + 1) xs ≡ Some p) ⊎ ((if test x then Some n else None) ≡ Some p) → p < n + suc (length xs)
      at_last behind (inl later) = let within = behind later in omega arith
      at_last behind (inr here) = at_test (test x) here

module _ (tables : Tables) (facts : Facts) (ifid : IfId) (dir : Dir) where
  answer_within : (n : ℕ) (group : Group) (p : ℕ) (b : Bool) → (if b then group_answer tables facts ifid dir n (rules_of group) else None) ≡ Some p → p < n + length (rules_of group)
  answer_within n group p false none = absurd cc
  answer_within n group p true here =
      elim (some_of_either (first_where (decides tables facts ifid dir) n (rules_of group)) (last_where (matches tables facts ifid dir) n (rules_of group)) p here) [
        | inl first ↦ first_within (decides tables facts ifid dir) n (rules_of group) p first
        | inr last ↦ last_within (matches tables facts ifid dir) n (rules_of group) p last
      ]

  verdict_within : (n : ℕ) (groups : List Group) (p : ℕ) → verdict tables facts ifid dir n groups ≡ Some p → p < n + length (all_rules groups)
  verdict_within n [] p is = absurd cc
  verdict_within n (group ∷ groups) p is =
      let sum = length-append (rules_of group) (all_rules groups) in
      elim (some_of_either (if applies tables facts ifid dir group then group_answer tables facts ifid dir n (rules_of group) else None)
      (verdict tables facts ifid dir (n + length (rules_of group)) groups) p is) [
        | inl here ↦ let within = answer_within n group p (applies tables facts ifid dir group) here in omega arith
        | inr later ↦ let within = verdict_within (n + length (rules_of group)) groups p later in omega arith
      ]

module _ (config : Configuration) (facts : Facts) (ifid : IfId) (dir : Dir) (place : ℕ) where
  pub rule_within : Some place ≡ verdict_of config facts ifid dir → place < length (all_rules config.model.groups)
  rule_within is = let within = verdict_within config.tables facts ifid dir 0 config.model.groups place (sym is) in omega arith

  pub map_within : Some place ≡ map_place_of config facts ifid dir → place < length config.model.maps
  map_within is = let within = first_within (map_applies config.tables facts ifid dir) 0 config.model.maps place (sym is) in omega arith
