-- 44: no address family is left for a rule, told at the rule. Its families are the one behind `family`, or both, less those of which
-- a list of addresses behind `from` or `to`, excluded or not, has no element; a list with a table, defined or not, takes none away.
use Rattle.std.specs.Prelude.{Bool, true, false, not, ◌&&◌, ◌||◌, Option, Some, None, List}
use Rattle.npf_types.specs.declared.span.Span.{Span}
use Rattle.npf_faults.specs.declared.fault.ConfFault.{ConfFault}
use Rattle.npf_faults.specs.declared.fault.Fault.TheVariants.{FamilyMix}
use Rattle.npf_model.specs.declared.rule.Rule.{Rule}
use Rattle.npf_model.specs.Describes.{list_allows}
use Rattle.npf_faults.specs.First.{fault_if}

-- families are told as rules tell them: IPv6 is `true`
abbrev pub asks_for : Option Bool → Bool → Bool
asks_for None family = true
asks_for (Some true) family = family
asks_for (Some false) family = not family

abbrev pub leaves_family : Rule → Bool → Bool
leaves_family rule family = asks_for rule.v6 family && list_allows family rule.from.addrs && list_allows family rule.to.addrs

-- of a rule at this place
abbrev pub family_faults : Span → Rule → List ConfFault
family_faults span rule = fault_if (not (leaves_family rule false || leaves_family rule true)) span FamilyMix
