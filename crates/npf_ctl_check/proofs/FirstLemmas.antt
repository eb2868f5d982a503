-- The first decider that treats a packet of a class in one way.
use Rattle.std.proofs.Common.{◌≡◌, ℕ, ◌<◌, Bool, Option, Some, None, length, refl, sym, subst, ap, ◌∙◌, inl, inr}
use Rattle.std.proofs.lemmas.Bool.{cases_lt}
use Rattle.std.proofs.lemmas.List.{get_or_past}
use Rattle.npf_types.specs.declared.{direction.Dir.Dir, facts.Facts.Facts, interface.IfId.IfId}
use Rattle.npf_model.specs.{declared.rule.Rule.Rule, Configuration.{Configuration, verdict_of}}
use Rattle.npf_products.specs.declared.packet.CellPacket.{CellPacket}
use Rattle.npf_judge.specs.{declared.deciders.Deciders.Deciders, Deciders.{IsClassAnswer, IsDecidedBy, IsWitnessFor}, Says.{HasTreated, place_passes}}
use Rattle.npf_ctl_check.specs.{declared.first.Decided.Decided, CheckText.StandsInFront, First.{IsFoundFirst, ShowsNone, ShowsRule}}

module _ (config : Configuration) (class : Rule) (answer : Deciders) (is : IsClassAnswer config class answer) (passed : Bool) where
  -- nothing is shown for the rule at a place
  abbrev HidesRule : ℕ → Type 0
  HidesRule place = ShowsRule config.model answer.rules.items passed place None

  -- and so it treats no packet so
  abbrev NeverBy : Option ℕ → Type 0
  NeverBy rule = place_passes config.model rule ≡ passed → (facts : Facts) (ifid : IfId) (dir : Dir) → ¬ IsDecidedBy config class rule facts ifid dir

  hidden : (place : ℕ) → HidesRule place → NeverBy (Some place)
  hidden place hides so = subst (IsWitnessFor config class (Some place)) (hides so) (is.rules place)

  -- so it is with those before a place
  earlier_hidden : (place : ℕ) → ((p : ℕ) → p < place → HidesRule p) → (earlier : Option ℕ) → StandsInFront earlier (Some place) → NeverBy earlier
  earlier_hidden place below (Some p) before = hidden p (below p before)
  earlier_hidden place below None before = absurd before

  pub rule_first : (place : ℕ) (packet : CellPacket) → ((p : ℕ) → p < place → HidesRule p) → ShowsRule config.model answer.rules.items passed place (Some packet) →
      IsFoundFirst config class passed (Some (record { rule = Some place; packet = packet }))
  rule_first place packet below shows = record {
    treats = shows.0;
    decides = subst (IsWitnessFor config class (Some place)) shows.1 (is.rules place);
    first = earlier_hidden place below;
  }

  module _ (below : (p : ℕ) → p < length answer.rules.items → HidesRule p) where
    -- with all rules, and behind the last nothing is shown
    anywhere : (p : ℕ) → NeverBy (Some p)
    anywhere p = elim (cases_lt p (length answer.rules.items)) [
      | inl low ↦ hidden p (below p low)
      | inr past ↦ hidden p (λ so. get_or_past answer.rules.items p None past)
    ]

    before_none : (earlier : Option ℕ) → StandsInFront earlier None → NeverBy earlier
    before_none (Some p) before = anywhere p
    before_none None before = absurd before

    pub none_first : (found : Option Decided) → ShowsNone answer.none passed found → IsFoundFirst config class passed found
    none_first (Some decided) shows = record {
      treats = ap (place_passes config.model) shows.2 ∙ sym shows.0;
      decides = subst (λ (rule : Option ℕ). IsDecidedBy config class rule decided.packet.facts decided.packet.ifid decided.packet.dir) (sym shows.2)
          (subst (IsWitnessFor config class None) shows.1 is.none);
      first = λ earlier before. before_none earlier (subst (StandsInFront earlier) shows.2 before);
    }
    none_first None shows = λ one. never one (verdict_of config one.facts one.ifid one.dir) refl where
      never : (one : HasTreated config class passed) (rule : Option ℕ) → verdict_of config one.facts one.ifid one.dir ≡ rule → ⊥
      never one None decided =
          subst (IsWitnessFor config class None) (shows (sym one.treated ∙ ap (place_passes config.model) decided)) is.none one.facts one.ifid one.dir
          (record { of_class = one.of_class; decided = decided })
      never one (Some p) decided =
          anywhere p (sym (ap (place_passes config.model) decided) ∙ one.treated) one.facts one.ifid one.dir (record { of_class = one.of_class; decided = decided })
