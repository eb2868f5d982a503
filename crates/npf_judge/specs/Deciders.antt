-- What an answer to a question about a class of packets is. All is said by what a configuration means: which packets a rule describes, and which
-- rule decides.
use Rattle.std.specs.Prelude.{◌≡◌, ℕ, true, Option, Some, None, length, slice_index_or}
use Rattle.npf_types.specs.declared.direction.Dir.{Dir}
use Rattle.npf_types.specs.declared.facts.Facts.{Facts}
use Rattle.npf_types.specs.declared.interface.IfId.{IfId}
use Rattle.npf_model.specs.declared.rule.Rule.{Rule}
use Rattle.npf_model.specs.Configuration.{Configuration, verdict_of}
use Rattle.npf_model.specs.Describes.{Tables, describes}
use Rattle.npf_model.specs.Verdict.{all_rules}
use Rattle.npf_products.specs.declared.packet.CellPacket.{CellPacket}
use Rattle.npf_reach.specs.Kinds.{IsPacket}
use Rattle.npf_judge.specs.declared.deciders.Deciders.{Deciders}

-- a packet that there can be, of the class: the class's rule describes it where it passes
pub record IsClassPacket (tables : Tables) (class : Rule) (facts : Facts) (ifid : IfId) (dir : Dir) : Type 0 where
  pub packet : IsPacket facts ifid
  pub described : describes class tables facts ifid dir ≡ true

-- one of them on which the rule at this place decides, or none does
pub record IsDecidedBy (config : Configuration) (class : Rule) (rule : Option ℕ) (facts : Facts) (ifid : IfId) (dir : Dir) : Type 0 where
  pub of_class : IsClassPacket config.tables class facts ifid dir
  pub decided : verdict_of config facts ifid dir ≡ rule

-- such a packet, or nothing where there is none
abbrev pub IsWitnessFor : Configuration → Rule → Option ℕ → Option CellPacket → Type 0
IsWitnessFor config class rule (Some packet) = IsDecidedBy config class rule packet.facts packet.ifid packet.dir
IsWitnessFor config class rule None = (facts : Facts) (ifid : IfId) (dir : Dir) → ¬ IsDecidedBy config class rule facts ifid dir

-- for each rule, in the order of inspection, and for none; behind the last rule nothing is found, and nothing is decided by what stands there
pub record IsClassAnswer (config : Configuration) (class : Rule) (answer : Deciders) : Type 0 where
  pub count : length answer.rules.items ≡ length (all_rules config.model.groups)
  pub rules : (place : ℕ) → IsWitnessFor config class (Some place) (slice_index_or answer.rules.items place None)
  pub none : IsWitnessFor config class None answer.none
