-- A flat configuration with the interfaces' numbers set anew.
use Rattle.std.specs.Prelude.{List}
use Rattle.std.specs.Option.{option_map}
use Rattle.npf_model.specs.declared.iface.Iface.{Iface}
use Rattle.npf_model.specs.Numbering.{numbered_on}
use Rattle.npf_ruleset.specs.declared.binding.Binding.{Binding}
use Rattle.npf_ruleset.specs.declared.flat.FlatGroup.{FlatGroup}
use Rattle.npf_ruleset.specs.declared.flat.FlatRule.{FlatRule}

module _ (ifaces : List Iface) where
  abbrev pub numbered_binding : Binding → Binding
  numbered_binding binding = record binding { within = option_map (numbered_on ifaces) binding.within; on = option_map (numbered_on ifaces) binding.on }

  abbrev pub numbered_flat_group : FlatGroup → FlatGroup
  numbered_flat_group flat = record flat { binding = numbered_binding flat.binding }

  abbrev pub numbered_flat_rule : FlatRule → FlatRule
  numbered_flat_rule flat = record flat { binding = numbered_binding flat.binding }
