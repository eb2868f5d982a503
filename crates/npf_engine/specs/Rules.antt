-- What a configuration makes of a packet that no connection took: the rule that decides, what its procedure does, and the map that
-- translates (npf.conf(5)). All are values: what is asked of connections then depends on these alone.
use Rattle.std.specs.Prelude.{◌⊎◌, ℕ, Bool, true, false, Option, Some, None, slice_get, option_and_then}
use Rattle.std.specs.Option.{option_map}
use Rattle.npf_types.specs.declared.action.Action.{Action}
use Rattle.npf_types.specs.declared.change.Change.{Change}
use Rattle.npf_types.specs.declared.direction.Dir.{Dir}
use Rattle.npf_types.specs.declared.facts.Facts.{Facts}
use Rattle.npf_types.specs.declared.interface.IfId.{IfId}
use Rattle.npf_model.specs.declared.map.Algo.{Algo}
use Rattle.npf_model.specs.declared.map.Algo.TheVariants as Algos
use Rattle.npf_model.specs.declared.map.Map.{Map}
use Rattle.npf_model.specs.declared.model.Model.{Model}
use Rattle.npf_model.specs.declared.rule.Rule.{Rule}
use Rattle.npf_model.specs.declared.rule.StateOpt.{StateOpt}
use Rattle.npf_model.specs.declared.rule.StateOpt.TheVariants.{Not, OnInterface, Everywhere}
use Rattle.npf_model.specs.declared.settings.Settings.{Settings}
use Rattle.npf_model.specs.Configuration.{Configuration, verdict_of, map_place_of}
use Rattle.npf_model.specs.Settings.{drawn_ports}
use Rattle.npf_model.specs.Verdict.{rule_at}
use Rattle.npf_flow.specs.declared.flow.FlowSettings.{FlowSettings}
use Rattle.npf_nat.specs.declared.map_plan.MapPlan.{MapPlan}
use Rattle.npf_nat.specs.declared.map_plan.MapPlan.TheVariants.{Fixed, Draw}
use Rattle.npf_nat.specs.MapPlan.{plan}
use Rattle.npf_proc.specs.Action.{action_of}
use Rattle.npf_engine_opening.specs.declared.attempt.Attempt.{Attempt}
use Rattle.npf_engine.specs.declared.rules.Mapping.{Mapping}
use Rattle.npf_engine.specs.declared.rules.Mapping.TheVariants.{Unmapped, Static, Dynamic}
use Rattle.npf_engine.specs.declared.rules.Ruling.{Ruling}
use Rattle.npf_engine.specs.Arrival.{Arrival, any_interface, arg_of}

abbrev pub ruling : Model → ℕ → Rule → Ruling
ruling model place rule = record {
  place = place;
  decision = rule.decision;
  state = rule.state;
  settings = model.settings;
  action = action_of model rule;
}

-- the rule that decides on the packet, if one does
abbrev pub ruling_of : Configuration → Facts → IfId → Dir → Option Ruling
ruling_of config facts ifid dir =
    option_and_then (λ place. option_map (ruling config.model place) (rule_at config.model place)) (verdict_of config facts ifid dir)

-- A map by its algorithm, with what it makes of the packet. No static map draws a port.
abbrev pub mapping : Algo → MapPlan → Mapping
mapping Algos.Dynamic made = Dynamic made
mapping Algos.Netmap (Fixed there back) = Static there back
mapping Algos.Npt66 (Fixed there back) = Static there back
mapping algo (Draw addr min max first) = Dynamic (Draw addr min max first)

-- the map that applies, with its plan: one that applies has a plan
abbrev pub mapping_by : Algo → Option MapPlan → Mapping
mapping_by algo None = Unmapped
mapping_by algo (Some made) = mapping algo made

-- under these settings: their ports are drawn from where the map has none
abbrev pub mapping_under : Settings → Facts → Dir → Option Map → Mapping
mapping_under settings facts dir None = Unmapped
mapping_under settings facts dir (Some map) = mapping_by map.algo (plan (drawn_ports settings) map facts dir)

-- the map that translates the packet, if one does
abbrev pub mapping_of : Configuration → Facts → IfId → Dir → Mapping
mapping_of config facts ifid dir =
    mapping_under config.model.settings facts dir (option_and_then (slice_get config.model.maps) (map_place_of config facts ifid dir))

-- a change that names nothing
abbrev pub unchanged : Change
unchanged = record { src = None; dst = None; neutral = false }

-- how the packets of a connection that the packet would open are translated
abbrev pub plan_of : Mapping → MapPlan
plan_of Unmapped = Fixed unchanged unchanged
plan_of (Static there back) = Fixed there back
plan_of (Dynamic made) = made

-- the change of a packet that opens no connection
abbrev pub static_change : Mapping → Change
static_change Unmapped = unchanged
static_change (Static there back) = there
static_change (Dynamic made) = unchanged

-- the rule keeps the connections of what it passes
abbrev pub IsStateful : StateOpt → Type 0
IsStateful Not = ⊥
IsStateful OnInterface = Unit {0}
IsStateful Everywhere = Unit {0}

abbrev pub IsDynamic : Mapping → Type 0
IsDynamic Unmapped = ⊥
IsDynamic (Static there back) = ⊥
IsDynamic (Dynamic made) = Unit {0}

-- A packet that passes opens a connection: its rule keeps it, or its map is a dynamic one, whose answers must be translated back.
abbrev pub OpensOne : Ruling → Mapping → Type 0
OpensOne ruled mapped = IsStateful ruled.state ⊎ IsDynamic mapped

-- a key is bound to its interface or is every interface's
abbrev pub bound_interface : Bool → IfId → IfId
bound_interface true ifid = ifid
bound_interface false ifid = any_interface

-- the interface of the keys (npf.conf(5), "Parameters" and "Stateful"): that of every interface exactly where the rule is
-- `stateful-all`, or the configuration binds no key to its interface
abbrev pub key_interface : Settings → StateOpt → IfId → IfId
key_interface settings Not ifid = bound_interface settings.key_interface ifid
key_interface settings OnInterface ifid = bound_interface settings.key_interface ifid
key_interface settings Everywhere ifid = any_interface

-- what a configuration's settings say of the connections that open under it: whether they are strict about resets, and for how long
-- they may be idle
abbrev pub flow_settings : Settings → FlowSettings
flow_settings settings = record { strict = settings.strict_rst; timeouts = settings.timeouts }

-- what the packet would open
abbrev pub attempt_of : Arrival → Facts → Ruling → Mapping → Attempt
attempt_of arrival facts ruled mapped = record {
  packet = arrival.number;
  facts = facts;
  ifid = key_interface ruled.settings ruled.state arrival.ifid;
  arg = arg_of arrival.time facts;
  settings = flow_settings ruled.settings;
  action = ruled.action;
  plan = plan_of mapped;
}
