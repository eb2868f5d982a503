-- The whole explanation of a fault.
use Rattle.std.specs.Prelude.{◌≡◌, ℕ, Option, Some, List, ◌++◌}
use Rattle.npf_ctl_messages.specs.declared.fault.CommandFault.{CommandFault}
use Rattle.npf_ctl_messages.specs.declared.fault.CommandFault.TheVariants.{Configuration}
use Rattle.npf_ctl_messages.specs.Message.{message_line}
use Rattle.npf_model.specs.declared.iface.Iface.{Iface}
use Rattle.npf_ctl_why.specs.Excerpt.{excerpt_text}
use Rattle.npf_ctl_why.specs.Reason.{ExplainsFault}

-- the fault's line; and of a fault of a configuration, whose text was read, the line of the text and what is said of it
abbrev pub IsExplanation : List Iface → CommandFault → Option (List ℕ) → List ℕ → Type 0
IsExplanation ifaces (Configuration file fault) (Some text) out =
    (said : List ℕ) × (out ≡ message_line (Configuration file fault) ++ (excerpt_text text fault.span ++ said)) × ExplainsFault ifaces text fault said
IsExplanation ifaces told _ out = out ≡ message_line told
