-- What follows of the stages of the language, whatever the text.
use Rattle.std.specs.Prelude.{◌≡◌, ℕ, List}
use Rattle.npf_faults.specs.declared.fault.ConfFault.{ConfFault}
use Rattle.npf_syntax.specs.declared.stmt.Tree.{Tree}
use Rattle.npf_model.specs.declared.iface.Iface.{Iface}
use Rattle.npf_model.specs.declared.model.Model.{Model}
use Rattle.npf_config.specs.Text.{Means, RefusesText}

-- a text has one tree and means one model
abbrev pub OneMeaning : Type 0
OneMeaning = (ifaces : List Iface) (text : List ℕ) (tree other_tree : Tree) (model other_model : Model)
    → Means ifaces text tree model → Means ifaces text other_tree other_model → (tree ≡ other_tree) × (model ≡ other_model)

-- no text both means something and is refused
abbrev pub NeverBoth : Type 0
NeverBoth = (ifaces : List Iface) (text : List ℕ) (tree : Tree) (model : Model) (fault : ConfFault) → Means ifaces text tree model → ¬ RefusesText ifaces text fault
