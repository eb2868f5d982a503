-- 44 and 45 for each rule, beside what it means. A model has the groups with names first, in the order of the text, and the default
-- group last; rules and maps stand in it in the order of the text. A map's filter counts as a rule.
use Rattle.std.specs.Prelude.{Option, Some, List, [], ◌∷◌, ◌++◌, zip}
use Rattle.std.specs.List.{flat_map}
use Rattle.npf_types.specs.declared.span.Span.{Span}
use Rattle.npf_faults.specs.declared.fault.ConfFault.{ConfFault}
use Rattle.npf_syntax.specs.declared.filter.Filter.{Filter}
use Rattle.npf_syntax.specs.declared.group.GroupHead.TheVariants as Head
use Rattle.npf_syntax.specs.declared.group.ItemTree.{ItemTree as WrittenItem}
use Rattle.npf_syntax.specs.declared.group.ItemTree.TheVariants as ItemIs
use Rattle.npf_syntax.specs.declared.stmt.Stmt.{Stmt}
use Rattle.npf_syntax.specs.declared.stmt.Tree.{Tree}
use Rattle.npf_model.specs.declared.group.Group.{Group}
use Rattle.npf_model.specs.declared.group.Item.{Item}
use Rattle.npf_model.specs.declared.group.Item.TheVariants.{One}
use Rattle.npf_model.specs.declared.map.Map.{Map}
use Rattle.npf_model.specs.declared.model.Model.{Model}
use Rattle.npf_model.specs.declared.rule.Rule.{Rule}
use Rattle.npf_check.specs.declared.written_rule.GroupKind.{GroupKind}
use Rattle.npf_check.specs.declared.written_rule.GroupKind.TheVariants.{Named, Default}
use Rattle.npf_check.specs.Family.{family_faults}
use Rattle.npf_check.specs.Port.{port_faults}

-- the faults of a rule that is written at this place, which begins at its first token
abbrev pub faults_of_rule : Span → Rule → List ConfFault
faults_of_rule span rule = family_faults span rule ++ port_faults span rule

abbrev pub faults_of_item : WrittenItem × Item → List ConfFault
faults_of_item (ItemIs.Rule written span, One rule) = faults_of_rule written.span rule
faults_of_item _ = []

abbrev pub faults_of_group : List WrittenItem × Group → List ConfFault
faults_of_group (items, group) = flat_map faults_of_item (zip items group.items)

-- the items of a group with a name, and those of a default group
abbrev pub items_in : GroupKind → Stmt → List (List WrittenItem)
items_in Named (Stmt.Group (Head.Named name dir layer on head) items span) = items ∷ []
items_in Default (Stmt.Group (Head.Default layer head) items span) = items ∷ []
items_in _ _ = []

-- the items of the text's groups, in the order of the model's groups
abbrev pub items_by_group : List Stmt → List (List WrittenItem)
items_by_group stmts = flat_map (items_in Named) stmts ++ flat_map (items_in Default) stmts

abbrev pub faults_of_filter : Option Filter → Option Rule → List ConfFault
faults_of_filter (Some filter) (Some rule) = faults_of_rule filter.span rule
faults_of_filter _ _ = []

abbrev pub faults_of_pass : Option Filter × Map → List ConfFault
faults_of_pass (pass, m) = faults_of_filter pass m.filter

-- the filters of the text's maps, in the order of the model's maps
abbrev pub pass_of_map : Stmt → List (Option Filter)
pass_of_map (Stmt.Map iface kind proto left arrow right pass span) = pass ∷ []
pass_of_map _ = []

abbrev pub faults_of_rules : Tree → Model → List ConfFault
faults_of_rules tree model =
    flat_map faults_of_group (zip (items_by_group tree.stmts) model.groups)
    ++ flat_map faults_of_pass (zip (flat_map pass_of_map tree.stmts) model.maps)
