-- What is said of a class: one of its packets, with what the configuration says of it, or that there is none.
use Rattle.std.specs.Prelude.{◌≡◌, ℕ, Bool, true, false, List, ◌++◌, codes}
use Rattle.npf_types.specs.declared.direction.Dir.{Dir}
use Rattle.npf_types.specs.declared.facts.Facts.{Facts}
use Rattle.npf_types.specs.declared.interface.IfId.{IfId}
use Rattle.npf_model.specs.declared.iface.Iface.{Iface}
use Rattle.npf_model.specs.declared.rule.Rule.{Rule}
use Rattle.npf_model.specs.Configuration.{Configuration}
use Rattle.npf_explain.specs.Explanation.{explanation}
use Rattle.npf_witness.specs.WitnessText.{witness_text}
use Rattle.npf_ctl_explain.specs.Class.{IsOfClass}
use Rattle.npf_ctl_explain.specs.Text.{explained_text}

-- a packet where it passes, and what the configuration says of it
abbrev pub packet_text : List Iface → Configuration → Facts → IfId → Dir → List ℕ
packet_text ifaces config facts ifid dir =
    witness_text ifaces facts ifid dir ++ (codes "\n" ++ explained_text config.model (explanation config facts ifid dir))

-- the text, which tells of one of the class's packets that pass there where one is found
abbrev pub IsExplainText : List Iface → Configuration → Rule → IfId → Dir → Bool → List ℕ → Type 0
IsExplainText ifaces config class ifid dir true text =
    (facts : Facts) × IsOfClass config class ifid dir facts × (text ≡ packet_text ifaces config facts ifid dir)
IsExplainText ifaces config class ifid dir false text =
    ((facts : Facts) → ¬ IsOfClass config class ifid dir facts) × (text ≡ codes "empty\n")
