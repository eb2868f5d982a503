-- What a configuration keeps holds in one way, as is asked of a fact that a structure keeps.
use Rattle.std.specs.Prelude.{Option, Some, None, List, [], ◌∷◌}
use Rattle.std.specs.Coded.{×_prop, Unit-prop, le_prop}
use Rattle.std.specs.List.{AllZip}
use denote.Struct.Props as logic
use Rattle.npf_model.specs.declared.ends.AddrItem.{AddrItem}
use Rattle.npf_model.specs.declared.ends.AddrItem.TheVariants.{Net, InTable}
use Rattle.npf_model.specs.declared.model.Model.{Model}
use Rattle.npf_model.specs.Verdict.{PlacedRule}
use Rattle.npf_bpf.specs.declared.insn.Insn.{Insn}
use Rattle.npf_bpfgen.specs.Condition.{HasItemNumber, HasItemNumbers}
use Rattle.npf_ruleset.specs.Flat.{IsCompiled}
use Rattle.npf_ruleset.specs.Refusal.{IsBuildable, IsWithinLimits}

item-prop : (item : AddrItem) → IsProp (HasItemNumber item)
item-prop (Net prefix) = Unit-prop
item-prop (InTable table) = le_prop

items-prop : (items : Option (List AddrItem)) → IsProp (HasItemNumbers items)
items-prop None = Unit-prop
items-prop (Some items) = hlevel (item-prop, logic.props)

compiled-prop : (rules : List PlacedRule) (programs : List (List Insn)) → IsProp (AllZip (λ (placed : PlacedRule). IsCompiled placed.rule) rules programs)
compiled-prop [] [] = Unit-prop
compiled-prop [] (program ∷ programs) = λ never. absurd never
compiled-prop (placed ∷ rules) [] = λ never. absurd never
compiled-prop (placed ∷ rules) (program ∷ programs) = ×_prop (hlevel logic.props) (compiled-prop rules programs)

pub IsBuildable-prop : (model : Model) → IsProp (IsBuildable model)
IsBuildable-prop model = hlevel (items-prop, logic.props)

pub IsWithinLimits-prop : (model : Model) (programs : List (List Insn)) → IsProp (IsWithinLimits model programs)
IsWithinLimits-prop model programs = hlevel (compiled-prop, logic.props)
