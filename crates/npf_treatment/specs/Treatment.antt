-- What a configuration does to a packet that no connection took (npf.conf(5), "Rules", "Procedures" and "Map"): what the rule that decides
-- does, and, where that passes the packet, what the map that applies writes into it. It has no number of a rule or a map, and no name of a
-- procedure.
use Rattle.std.specs.Prelude.{ℕ, Option, Some, None, slice_get, option_and_then}
use Rattle.std.specs.Option.{option_map}
use Rattle.npf_types.specs.declared.action.Action.{Action}
use Rattle.npf_types.specs.declared.decision.Decision.{Decision}
use Rattle.npf_types.specs.declared.decision.Decision.TheVariants.{Pass, Block}
use Rattle.npf_types.specs.declared.decision.Return.TheVariants.{Nothing}
use Rattle.npf_types.specs.declared.direction.Dir.{Dir}
use Rattle.npf_types.specs.declared.direction.Dir.TheVariants.{In, Out}
use Rattle.npf_types.specs.declared.facts.Facts.{Facts}
use Rattle.npf_types.specs.declared.interface.IfId.{IfId}
use Rattle.npf_types.specs.declared.prefix.Prefix.{Prefix}
use Rattle.npf_model.specs.declared.map.Algo.{Algo}
use Rattle.npf_model.specs.declared.map.Algo.TheVariants.{Dynamic, Netmap, Npt66}
use Rattle.npf_model.specs.declared.map.Map.{Map}
use Rattle.npf_model.specs.declared.model.Model.{Model}
use Rattle.npf_model.specs.declared.rule.Rule.{Rule}
use Rattle.npf_model.specs.declared.rule.StateOpt.{StateOpt}
use Rattle.npf_model.specs.Configuration.{Configuration, verdict_of, map_place_of}
use Rattle.npf_model.specs.Verdict.{rule_at}
use Rattle.npf_proc.specs.Action.{action_of}
use Rattle.npf_treatment.specs.declared.map.AddressEffect.{AddressEffect}
use Rattle.npf_treatment.specs.declared.map.AddressEffect.TheVariants.{One, Block as OfBlock, Neutral}
use Rattle.npf_treatment.specs.declared.map.MapEffect.{MapEffect}
use Rattle.npf_treatment.specs.declared.map.PortEffect.{PortEffect}
use Rattle.npf_treatment.specs.declared.map.PortEffect.TheVariants.{Kept, Drawn, Written}
use Rattle.npf_treatment.specs.declared.rule.RuleEffect.{RuleEffect}
use Rattle.npf_treatment.specs.declared.rule.RuleEffect.TheVariants.{Blocked, Passed}

-- a rule that blocks answers to the sender and logs; one that passes keeps the connection or not, and has a procedure
abbrev pub effect_by : Decision → StateOpt → Action → RuleEffect
effect_by (Block answer) state action = Blocked answer action.log
effect_by Pass state action = Passed state action

-- what no rule decides on is blocked without an answer
abbrev pub rule_effect : Model → Option Rule → RuleEffect
rule_effect model None = Blocked Nothing None
rule_effect model (Some rule) = effect_by rule.decision rule.state (action_of model rule)

-- the address that is written for one of the block `from`
abbrev pub address_effect : Algo → Prefix → Prefix → AddressEffect
address_effect Dynamic from to = One to.addr
address_effect Netmap from to = OfBlock to
address_effect Npt66 from to = Neutral from to

-- a dynamic map draws a port going out
abbrev pub port_by_algo : Algo → Option (ℕ × ℕ) → PortEffect
port_by_algo Dynamic ports = Drawn ports
port_by_algo Netmap ports = Kept
port_by_algo Npt66 ports = Kept

abbrev pub outward_port : Map → PortEffect
outward_port map = port_by_algo map.algo map.outside.ports

-- what comes in gets the first of the left side's ports, if it has ports
abbrev pub port_written : Option (ℕ × ℕ) → PortEffect
port_written None = Kept
port_written (Some ports) = Written ports.0

abbrev pub inward_port : Map → PortEffect
inward_port map = port_written map.inside.ports

-- the left side is the inside: what goes out gets its source from the right side, and what comes in its destination from the left
abbrev pub map_effect : Map → Dir → MapEffect
map_effect map Out = record { address = address_effect map.algo map.inside.net map.outside.net; port = outward_port map }
map_effect map In = record { address = address_effect map.algo map.outside.net map.inside.net; port = inward_port map }

-- what is done to a packet; a map translates only what passes
pub record Treatment : Type 0 where
  pub rule : RuleEffect
  pub map : Option MapEffect

abbrev pub treatment_by : RuleEffect → Option MapEffect → Treatment
treatment_by (Blocked answer log) map = record { rule = Blocked answer log; map = None }
treatment_by (Passed state action) map = record { rule = Passed state action; map = map }

-- the rule that decides on a packet, and the map that applies to it
abbrev pub deciding_rule : Configuration → Facts → IfId → Dir → Option Rule
deciding_rule config facts ifid dir = option_and_then (rule_at config.model) (verdict_of config facts ifid dir)

abbrev pub applying_map : Configuration → Facts → IfId → Dir → Option Map
applying_map config facts ifid dir = option_and_then (slice_get config.model.maps) (map_place_of config facts ifid dir)

-- the treatment of a packet by a configuration
abbrev pub treatment : Configuration → Facts → IfId → Dir → Treatment
treatment config facts ifid dir =
    treatment_by (rule_effect config.model (deciding_rule config facts ifid dir))
    (option_map (λ map. map_effect map dir) (applying_map config facts ifid dir))
