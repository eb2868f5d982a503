-- The lines of expectations that aren't met, as they are put together.
use Rattle.std.specs.Prelude.{ℕ, Option, Some, None, List, [], ◌++◌, codes}
use Rattle.npf_model.specs.declared.iface.Iface.{Iface}
use Rattle.npf_model.specs.declared.model.Model.{Model}
use Rattle.npf_ctl_query.specs.QueryText.{packet_line}
use Rattle.npf_ctl_check.specs.declared.first.Decided.{Decided}
use Rattle.npf_ctl_check.specs.CheckText.{place_text}

-- the line of a decider that is against an expectation
abbrev pub against_text : List ℕ → List Iface → Model → ℕ → Decided → List ℕ
against_text file ifaces model line decided = place_text file line ++ packet_line ifaces model decided.rule decided.packet

-- the line that says that there is no packet, where none was found
abbrev pub without_text : List ℕ → ℕ → Option Decided → Option (List ℕ)
without_text file line None = Some (place_text file line ++ codes "no packet\n")
without_text file line (Some decided) = None

-- what is told of an expectation, and how many it counts as one that isn't met
abbrev pub unmet_text : Option (List ℕ) → List ℕ
unmet_text None = []
unmet_text (Some text) = text

abbrev pub counts_line : Option (List ℕ) → ℕ
counts_line None = 0
counts_line (Some text) = 1
