-- What is told of a class of packets.
use Rattle.std.specs.Prelude.{◌≡◌, ◌<◌, ◌+◌, ◌-◌, ◌^◌, ⊤, ℕ, Option, Some, None, List, [], ◌∷◌, ◌++◌, codes, length, min}
use Rattle.std.specs.Fmt.{decimal}
use Rattle.npf_model.specs.declared.iface.Iface.{Iface}
use Rattle.npf_model.specs.declared.model.Model.{Model}
use Rattle.npf_model.specs.declared.rule.Rule.{Rule}
use Rattle.npf_model.specs.Configuration.{Configuration}
use Rattle.npf_model.specs.Verdict.{all_rules, rule_at}
use Rattle.npf_products.specs.declared.packet.CellPacket.{CellPacket}
use Rattle.npf_ruleset.specs.declared.config.Config.{Config}
use Rattle.npf_witness.specs.WitnessText.{witness_text}
use Rattle.npf_judge.specs.declared.deciders.Deciders.{Deciders}
use Rattle.npf_judge.specs.declared.says.ClassSays.{ClassSays}
use Rattle.npf_judge.specs.declared.says.ClassSays.TheVariants.{Pass, Block, Both, Empty}
use Rattle.npf_judge.specs.Deciders.{IsClassAnswer}
use Rattle.npf_judge.specs.Says.{ClassIs}
use Rattle.npf_ctl_messages.specs.declared.fault.CommandFault.{CommandFault}
use Rattle.npf_ctl_messages.specs.declared.fault.CommandFault.TheVariants.{NoMemory, Steps}
use Rattle.npf_ctl_query.specs.Decision.{rule_word}

-- a place, which counts from 0, by its number from 1
unfoldable pub ordinal_text : ℕ → List ℕ
ordinal_text place = decimal (place + 1)

-- a packet where it passes, and the line's end
abbrev pub packet_tail : List Iface → CellPacket → List ℕ
packet_tail ifaces packet = witness_text ifaces packet.facts packet.ifid packet.dir ++ codes "\n"

-- the line of the rule at a place, whose number is counted from 1, with a packet that it decides on; none without one
abbrev pub decider_line : List Iface → Model → ℕ → Option CellPacket → List ℕ
decider_line ifaces model place None = []
decider_line ifaces model place (Some packet) =
    rule_word (rule_at model place) ++ ((codes " " ++ decimal (place + 1)) ++ (codes " " ++ packet_tail ifaces packet))

-- the lines of rules of which the first has this place
abbrev pub decider_lines : List Iface → Model → ℕ → List (Option CellPacket) → List ℕ
decider_lines ifaces model place [] = []
decider_lines ifaces model place (found ∷ others) = decider_line ifaces model place found ++ decider_lines ifaces model (place + 1) others

-- what no rule decides on is blocked
abbrev pub none_line : List Iface → Option CellPacket → List ℕ
none_line ifaces None = []
none_line ifaces (Some packet) = codes "block none " ++ packet_tail ifaces packet

-- what decides on a packet: none, or a rule that there is
abbrev pub IsDecider : Model → Option ℕ → Type 0
IsDecider model None = ⊤
IsDecider model (Some place) = place < length (all_rules model.groups)

-- the line of a packet and of what decides on it
abbrev pub packet_line : List Iface → Model → Option ℕ → CellPacket → List ℕ
packet_line ifaces model None packet = none_line ifaces (Some packet)
packet_line ifaces model (Some place) packet = decider_line ifaces model place (Some packet)

abbrev pub says_line : ClassSays → List ℕ
says_line Pass = codes "pass\n"
says_line Block = codes "block\n"
says_line Both = codes "both\n"
says_line Empty = codes "empty\n"

abbrev pub answer_text : List Iface → Model → Deciders → ClassSays → List ℕ
answer_text ifaces model answer says =
    decider_lines ifaces model 0 answer.rules.items ++ (none_line ifaces answer.none ++ says_line says)

-- there are as many places of rules as there are rules
abbrev pub HasRules : Config → Deciders → Type 0
HasRules config answer = length answer.rules.items ≡ length (all_rules config.model.groups)

-- the text of an answer, and what it says of every class that it answers
pub record IsToldAnswer (ifaces : List Iface) (config : Configuration) (answer : Deciders) (says : ClassSays) (text : List ℕ) : Type 0 where
  pub told : text ≡ answer_text ifaces config.model answer says
  pub holds : (class : Rule) → IsClassAnswer config class answer → ClassIs config class says

-- the text is that of an answer to the class, and what it says of the class as a whole holds
pub record IsClassText (ifaces : List Iface) (config : Configuration) (class : Rule) (says : ClassSays) (text : List ℕ) : Type 0 where
  pub answer : Deciders
  pub answers : IsClassAnswer config class answer
  pub told : text ≡ answer_text ifaces config.model answer says
  pub holds : ClassIs config class says

-- a search that may take so many steps, or 2 ^ 64 - 2 where that is less, wanted one more; want of memory says nothing
abbrev pub IsStopFault : ℕ → CommandFault → Type 0
IsStopFault most (Steps count allowed) = (count ≡ allowed + 1) × (allowed ≡ min most (2 ^ 64 - 2))
IsStopFault most NoMemory = ⊤
IsStopFault most _ = ⊥
