-- What a configuration does to a class as a whole: passes all of its packets, blocks all, some of each, or the class has none.
use Rattle.std.specs.Prelude.{◌≡◌, ℕ, Bool, true, false, Option, Some, None}
use Rattle.npf_types.specs.declared.decision.Decision.{Decision}
use Rattle.npf_types.specs.declared.decision.Decision.TheVariants.{Pass as PassDecision, Block as BlockDecision}
use Rattle.npf_types.specs.declared.direction.Dir.{Dir}
use Rattle.npf_types.specs.declared.facts.Facts.{Facts}
use Rattle.npf_types.specs.declared.interface.IfId.{IfId}
use Rattle.npf_model.specs.declared.model.Model.{Model}
use Rattle.npf_model.specs.declared.rule.Rule.{Rule}
use Rattle.npf_model.specs.Configuration.{Configuration, verdict_of}
use Rattle.npf_model.specs.Verdict.{rule_at}
use Rattle.npf_judge.specs.declared.says.ClassSays.{ClassSays}
use Rattle.npf_judge.specs.declared.says.ClassSays.TheVariants.{Pass, Block, Both, Empty}
use Rattle.npf_judge.specs.Deciders.{IsClassPacket}

abbrev pub is_passing : Decision → Bool
is_passing PassDecision = true
is_passing (BlockDecision answer) = false

-- what no rule decides on is blocked
abbrev pub rule_passes : Option Rule → Bool
rule_passes None = false
rule_passes (Some rule) = is_passing rule.decision

-- the rule at a place passes what it decides on
abbrev pub place_passes : Model → Option ℕ → Bool
place_passes model None = false
place_passes model (Some place) = rule_passes (rule_at model place)

-- some packet of the class is treated so: passed where that is `true`, and else blocked
pub record HasTreated (config : Configuration) (class : Rule) (passed : Bool) : Type 0 where
  pub facts : Facts
  pub ifid : IfId
  pub dir : Dir
  pub of_class : IsClassPacket config.tables class facts ifid dir
  pub treated : place_passes config.model (verdict_of config facts ifid dir) ≡ passed

abbrev pub IsTreated : Configuration → Rule → Bool → Bool → Type 0
IsTreated config class passed true = HasTreated config class passed
IsTreated config class passed false = ¬ HasTreated config class passed

-- some packet passes, and some is blocked
pub record AreTreated (config : Configuration) (class : Rule) (some_pass some_block : Bool) : Type 0 where
  pub passed : IsTreated config class true some_pass
  pub blocked : IsTreated config class false some_block

abbrev pub ClassIs : Configuration → Rule → ClassSays → Type 0
ClassIs config class Pass = AreTreated config class true false
ClassIs config class Block = AreTreated config class false true
ClassIs config class Both = AreTreated config class true true
ClassIs config class Empty = AreTreated config class false false
