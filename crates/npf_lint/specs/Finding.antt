-- What is found of a configuration's rules. All is said by what a configuration means: which packets a rule matches where it stands, and which rule
-- decides on a packet.
use Rattle.std.specs.Prelude.{◌≡◌, ◌==◌, ◌&&◌, ℕ, Bool, true, false, not, Option, Some, None, List, All, Contains, IfSome, length, slice_get, option_and_then}
use Rattle.std.specs.List.{filter, list_any}
use Rattle.std.specs.List.Sorted.{IsStrictlyIncreasing}
use Rattle.npf_types.specs.declared.direction.Dir.{Dir}
use Rattle.npf_types.specs.declared.facts.Facts.{Facts}
use Rattle.npf_types.specs.declared.interface.IfId.{IfId}
use Rattle.npf_model.specs.declared.model.Model.{Model}
use Rattle.npf_model.specs.Configuration.{Configuration, verdict_of}
use Rattle.npf_model.specs.Verdict.{all_rules, rule_at}
use Rattle.npf_precedence.specs.Precedence.{in_order}
use Rattle.npf_precedence.specs.PrecedenceLaw.{first_match, meets}
use Rattle.npf_products.specs.declared.packet.CellPacket.{CellPacket}
use Rattle.npf_reach.specs.Kinds.{IsPacket}
use Rattle.npf_treatment.specs.declared.rule.RuleEffect.{RuleEffect}
use Rattle.npf_treatment.specs.Treatment.{rule_effect}
use Rattle.npf_lint.specs.declared.found.Replacement.{Replacement}
use Rattle.npf_lint.specs.declared.found.RuleFinding.{RuleFinding}
use Rattle.npf_lint.specs.declared.found.RuleFinding.TheVariants.{Reached, Redundant, Impossible, Covered}

-- it is the place of one of these
abbrev pub IsOneRuleOf : List ℕ → Option ℕ → Type 0
IsOneRuleOf places None = ⊥
IsOneRuleOf places (Some place) = Contains places place

-- it is one of these, or none where that may be
abbrev pub IsAmong : List ℕ → Bool → Option ℕ → Type 0
IsAmong places none None = none ≡ true
IsAmong places none (Some place) = Contains places place

-- which packets a rule matches where it stands, which rule each packet has for its answer, and which one it would have without that rule
pub record RuleReading : Type 0 where
  pub matched : Facts → IfId → Dir → Bool
  pub answer : Facts → IfId → Dir → Option ℕ
  pub without : Facts → IfId → Dir → Option ℕ

-- ---- a rule that is no packet's answer
module _ (reading : RuleReading) where
  -- a packet that the rule matches has another one for its answer
  pub record IsTakenBy (other : ℕ) : Type 0 where
    pub facts : Facts
    pub ifid : IfId
    pub dir : Dir
    pub packet : IsPacket facts ifid
    pub matches : reading.matched facts ifid dir ≡ true
    pub answered : reading.answer facts ifid dir ≡ Some other

  -- each packet that it matches has one of these for its answer, and each of these is the answer of one
  pub record IsCoveredBy (others : List ℕ) : Type 0 where
    pub each : (facts : Facts) (ifid : IfId) (dir : Dir) → IsPacket facts ifid → reading.matched facts ifid dir ≡ true → IsOneRuleOf others (reading.answer facts ifid dir)
    pub needed : All IsTakenBy others
    pub ascending : IsStrictlyIncreasing others

  -- it matches none that there can be
  abbrev pub IsUnmatched : Type 0
  IsUnmatched = (facts : Facts) (ifid : IfId) (dir : Dir) → IsPacket facts ifid → reading.matched facts ifid dir ≡ false

  -- no packet that there can be has it for its answer
  abbrev pub IsUnanswered : ℕ → Type 0
  IsUnanswered place = (facts : Facts) (ifid : IfId) (dir : Dir) → IsPacket facts ifid → ¬ reading.answer facts ifid dir ≡ Some place

-- ---- a rule that is the answer of some packet
-- the packet has the rule at this place for its answer
pub record HasForAnswer (reading : RuleReading) (place : ℕ) (packet : CellPacket) : Type 0 where
  pub possible : IsPacket packet.facts packet.ifid
  pub answered : reading.answer packet.facts packet.ifid packet.dir ≡ Some place

-- and without the rule it would have this one
pub record IsLeftTo (reading : RuleReading) (place : ℕ) (other : Option ℕ) : Type 0 where
  pub packet : CellPacket
  pub has : HasForAnswer reading place packet
  pub left : reading.without packet.facts packet.ifid packet.dir ≡ other

module _ (reading : RuleReading) (effect : Option ℕ → RuleEffect) (place : ℕ) where
  -- without the rule the packet is treated otherwise
  pub record IsNeededFor (packet : CellPacket) : Type 0 where
    pub has : HasForAnswer reading place packet
    pub otherwise : ¬ effect (reading.without packet.facts packet.ifid packet.dir) ≡ effect (Some place)

  -- Without the rule each packet that has it for its answer has one of these, or none where that may be, and is treated alike; and each of these is needed
  -- for one of them.
  pub record IsReplacedBy (replacement : Replacement) : Type 0 where
    pub has : HasForAnswer reading place replacement.packet
    pub alike : (packet : CellPacket) → HasForAnswer reading place packet → effect (reading.without packet.facts packet.ifid packet.dir) ≡ effect (Some place)
    pub each : (packet : CellPacket) → HasForAnswer reading place packet
        → IsAmong replacement.others.items replacement.none (reading.without packet.facts packet.ifid packet.dir)
    pub needed : All (λ other. IsLeftTo reading place (Some other)) replacement.others.items
    pub none_needed : replacement.none ≡ true → IsLeftTo reading place None
    pub ascending : IsStrictlyIncreasing replacement.others.items

  -- ---- what is found of the rule
  abbrev pub IsFindingBy : RuleFinding → Type 0
  IsFindingBy (Reached packet) = IsNeededFor packet
  IsFindingBy (Redundant replacement) = IsReplacedBy replacement
  IsFindingBy Impossible = IsUnanswered reading place × IsUnmatched reading
  IsFindingBy (Covered others) = IsUnanswered reading place × IsCoveredBy reading others.items

-- ---- what that means for a configuration
-- the rule at this place matches the packet where it stands: its group applies, its ruleset's bounds fit, and it describes the packet
abbrev pub is_matched : Configuration → ℕ → Facts → IfId → Dir → Bool
is_matched config place facts ifid dir =
    list_any (λ ordered. ordered.place == place && meets config.tables facts ifid dir ordered) (in_order config.model.groups)

-- the rule that decides on a packet where the one at this place isn't asked
abbrev pub verdict_without : Configuration → ℕ → Facts → IfId → Dir → Option ℕ
verdict_without config place facts ifid dir =
    first_match config.tables facts ifid dir (filter (λ ordered. not (ordered.place == place)) (in_order config.model.groups))

-- what is done to a packet by the rule at a place, or where none decides, but for what a map writes
abbrev pub effect_at_place : Model → Option ℕ → RuleEffect
effect_at_place model place = rule_effect model (option_and_then (rule_at model) place)

abbrev pub reading_of : Configuration → ℕ → RuleReading
reading_of config place = record { matched = is_matched config place; answer = verdict_of config; without = verdict_without config place }

abbrev pub IsFinding : Configuration → ℕ → RuleFinding → Type 0
IsFinding config place = IsFindingBy (reading_of config place) (effect_at_place config.model) place

-- there is a finding of each rule of the configuration, at its place
pub record AreFindings (config : Configuration) (findings : List RuleFinding) : Type 0 where
  pub count : length findings ≡ length (all_rules config.model.groups)
  pub each : (place : ℕ) → IfSome (slice_get findings place) (IsFinding config place)
