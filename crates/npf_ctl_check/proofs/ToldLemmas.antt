-- What is told of expectations, one after the other.
use Rattle.std.proofs.Common.{◌≡◌, ◌⊎◌, ℕ, ◌+◌, ◌≤◌, Bool, true, false, not, All, Option, Some, None, List, [], ◌∷◌, ◌++◌, refl, sym, subst, ap, ◌∙◌, inl, inr, arith}
use Rattle.std.specs.Option.{option_map}
use Rattle.std.proofs.lemmas.{Bool.{false≢true}, List.append-nil}
use Rattle.std.proofs.lemmas.List.Elements.{All-nil, All-pop, All-push}
use Rattle.npf_model.specs.{declared.{iface.Iface.Iface, rule.Rule.Rule}, Configuration.{Configuration, verdict_of}}
use Rattle.npf_judge.specs.Says.{HasTreated, place_passes}
use Rattle.npf_ctl_check.specs.declared.{expectation.{Amount.{Amount, TheVariants.{Each, One}}, Expectation.Expectation}, first.Decided.Decided}
use Rattle.npf_ctl_check.specs.{CheckText.{AreUnmetTold, FailsAmount, TellsUnmet}, First.IsFoundFirst, Met.{AreSoTreated, EachTreated, MeetsExpectation, wants_pass}}
use Rattle.npf_ctl_check.specs.Told.{against_text, counts_line, unmet_text}

either : (a b : Bool) → (a ≡ b) ⊎ (a ≡ not b)
either true true = inl refl
either true false = inr refl
either false true = inr refl
either false false = inl refl

not_both : (a b : Bool) → a ≡ b → a ≡ not b → ⊥
not_both a true same other = false≢true (sym other ∙ same)
not_both a false same other = false≢true (sym same ∙ other)

-- no expectation counts as more than one
pub counts_one : (told : Option (List ℕ)) → counts_line told ≤ 1
counts_one None = omega arith
counts_one (Some line) = omega arith

-- where none is treated otherwise, each is treated so
each_treated : (config : Configuration) (class : Rule) (passed : Bool) → ¬ HasTreated config class (not passed) → EachTreated config class passed
each_treated config class passed none = λ facts ifid dir of_class.
    elim (either (place_passes config.model (verdict_of config facts ifid dir)) passed) [
      | inl same ↦ same
      | inr other ↦ absurd (none (record { facts = facts; ifid = ifid; dir = dir; of_class = of_class; treated = other }))
    ]

module _ (file : List ℕ) (ifaces : List Iface) (config : Configuration) where
  -- ---- one expectation
  module _ (expectation : Expectation) (found : Option Decided) (told : Option (List ℕ)) where
    pub tells_each : expectation.amount ≡ Each → IsFoundFirst config expectation.class (not (wants_pass expectation.wanted)) found →
        told ≡ option_map (against_text file ifaces config.model expectation.line) found → TellsUnmet file ifaces config expectation told
    tells_each amount first is = subst (TellsUnmet file ifaces config expectation) (sym is) (by found first) where
      by : (found : Option Decided) → IsFoundFirst config expectation.class (not (wants_pass expectation.wanted)) found →
          TellsUnmet file ifaces config expectation (option_map (against_text file ifaces config.model expectation.line) found)
      by None none =
          subst (AreSoTreated config expectation.class (wants_pass expectation.wanted)) (sym amount)
          (each_treated config expectation.class (wants_pass expectation.wanted) none)
      by (Some decided) treating =
          subst (λ (a : Amount). FailsAmount file ifaces config expectation.class (wants_pass expectation.wanted) expectation.line a
          (against_text file ifaces config.model expectation.line decided)) (sym amount)
          (record { rule = decided.rule; packet = decided.packet; first = treating; told = refl })

  -- what is told to fail isn't met
  amount_fails : (class : Rule) (passed : Bool) (line : ℕ) (amount : Amount) (text : List ℕ) → FailsAmount file ifaces config class passed line amount text →
      ¬ AreSoTreated config class passed amount
  amount_fails class passed line Each text against = λ each.
      not_both (place_passes config.model (verdict_of config against.packet.facts against.packet.ifid against.packet.dir)) passed
      (each against.packet.facts against.packet.ifid against.packet.dir against.first.decides.of_class)
      (ap (place_passes config.model) against.first.decides.decided ∙ against.first.treats)
  amount_fails class passed line One text without = without.none

  -- ---- all
  pub told_nothing : (text : List ℕ) → text ≡ [] → AreUnmetTold file ifaces config [] text 0
  told_nothing text is = subst (λ (t : List ℕ). AreUnmetTold file ifaces config [] t 0) (sym is) AreUnmetTold.nothing

  pub told_more : (front : List Expectation) (expectation : Expectation) (text new : List ℕ) (failed count : ℕ) (told : Option (List ℕ)) →
      AreUnmetTold file ifaces config front text failed → TellsUnmet file ifaces config expectation told → new ≡ text ++ unmet_text told → count ≡ failed + counts_line told →
      AreUnmetTold file ifaces config (front ++ expectation ∷ []) new count
  told_more front expectation text new failed count None before tells put counted =
      subst (λ (t : List ℕ). AreUnmetTold file ifaces config (front ++ expectation ∷ []) t count) (sym (put ∙ append-nil text))
      (subst (AreUnmetTold file ifaces config (front ++ expectation ∷ []) text) (let same : failed ≡ count = omega (arith, counted) in same)
      (AreUnmetTold.met front expectation text failed before tells))
  told_more front expectation text new failed count (Some line) before tells put counted =
      subst (λ (t : List ℕ). AreUnmetTold file ifaces config (front ++ expectation ∷ []) t count) (sym put)
      (subst (AreUnmetTold file ifaces config (front ++ expectation ∷ []) (text ++ line)) (sym counted)
      (AreUnmetTold.unmet front expectation text line failed before tells))

  -- none fails exactly where each one is met
  pub all_met : (all : List Expectation) (text : List ℕ) (failed : ℕ) → AreUnmetTold file ifaces config all text failed → failed ≡ 0 → All (MeetsExpectation config) all
  all_met _ _ _ AreUnmetTold.nothing none = All-nil (MeetsExpectation config)
  all_met _ _ _ (AreUnmetTold.met front expectation text failed before met) none = All-push (MeetsExpectation config) front expectation (all_met front text failed before none) met
  all_met _ _ _ (AreUnmetTold.unmet front expectation text line failed before fails) none = absurd (omega (arith, none))

  pub none_fails : (all : List Expectation) (text : List ℕ) (failed : ℕ) → AreUnmetTold file ifaces config all text failed → All (MeetsExpectation config) all → failed ≡ 0
  none_fails _ _ _ AreUnmetTold.nothing met = refl
  none_fails _ _ _ (AreUnmetTold.met front expectation text failed before _) met =
      none_fails front text failed before (All-pop (MeetsExpectation config) (front ++ expectation ∷ []) front (Some expectation) refl met).0
  none_fails _ _ _ (AreUnmetTold.unmet front expectation text line failed before fails) met =
      absurd (amount_fails expectation.class (wants_pass expectation.wanted) expectation.line expectation.amount line fails
      (All-pop (MeetsExpectation config) (front ++ expectation ∷ []) front (Some expectation) refl met).1)
