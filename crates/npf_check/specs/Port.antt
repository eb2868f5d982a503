-- 45: a port stands in a rule whose protocols aren't TCP (6) and UDP (17) alone, told at the rule. A rule without protocols that has a
-- port means these two.
use Rattle.std.specs.Prelude.{ℕ, Bool, not, ◌==◌, ◌&&◌, ◌||◌, is_some, List}
use Rattle.std.specs.List.{list_any}
use Rattle.npf_types.specs.declared.span.Span.{Span}
use Rattle.npf_faults.specs.declared.fault.ConfFault.{ConfFault}
use Rattle.npf_faults.specs.declared.fault.Fault.TheVariants.{PortNeedsTcpUdp}
use Rattle.npf_model.specs.declared.rule.Rule.{Rule}
use Rattle.npf_faults.specs.First.{fault_if}

abbrev pub carries_ports : ℕ → Bool
carries_ports protocol = protocol == 6 || protocol == 17

abbrev pub names_ports : Rule → Bool
names_ports rule = is_some rule.from.ports || is_some rule.to.ports

abbrev pub lists_other : List ℕ → Bool
lists_other protocols = list_any (λ protocol. not (carries_ports protocol)) protocols

-- of a rule at this place
abbrev pub port_faults : Span → Rule → List ConfFault
port_faults span rule = fault_if (names_ports rule && lists_other rule.protos) span PortNeedsTcpUdp
