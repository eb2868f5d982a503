-- The report of a run (docs/npfctl.8, "The report"): a line for each packet, in order, and then the total.
use Rattle.std.specs.Prelude.{ℕ, ◌+◌, ◌-◌, Option, Some, None, List, [], ◌∷◌, ◌++◌, slice_get}
use Rattle.npf_types.specs.declared.interface.IfId.{IfId}
use Rattle.npf_types.specs.Name.{name_bytes}
use Rattle.npf_model.specs.declared.iface.Iface.{Iface}
use Rattle.npf_engine.specs.declared.outcome.Outcome.{Outcome}
use Rattle.npf_report.specs.LineText.{line_text}
use Rattle.npf_report.specs.TotalText.{total_text}
use Rattle.npf_traffic.specs.declared.packet.Packet.{Packet}

-- the name of an interface of the run, by its number from 1
abbrev pub interface_name : Option Iface → List ℕ
interface_name None = []
interface_name (Some iface) = name_bytes iface.name

abbrev pub name_of_interface : List Iface → IfId → List ℕ
name_of_interface ifaces id = interface_name (slice_get ifaces (id.0 - 1))

-- the lines of packets and their outcomes, numbered from n on
abbrev pub lines_from : List Iface → ℕ → List Packet → List Outcome → List ℕ
lines_from ifaces n (packet ∷ packets) (outcome ∷ outcomes) =
    line_text n (name_of_interface ifaces packet.ifid) packet.dir outcome ++ lines_from ifaces (n + 1) packets outcomes
lines_from ifaces n _ _ = []

-- the report of a run over these interfaces
unfoldable pub report_text : List Iface → List Packet → List Outcome → List ℕ
report_text ifaces packets outcomes = lines_from ifaces 1 packets outcomes ++ total_text outcomes
