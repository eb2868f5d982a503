-- 48: what npf.conf(5) has and this project doesn't build. Told at the statement: `set` of a parameter that isn't built or with a
-- value that isn't; `alg` of anything but "icmp"; and a map's `algo` of anything but `netmap` and `npt66`, or of a dynamic one. Told
-- at its own word: a group's `layer-2`; `pcap-filter` of a rule or a map; `user` and `group` of a rule; a map's `no-ports`; and a
-- procedure's `route` and "random-id". A map that is the place of dynamic maps is told at its interface.
use Rattle.std.specs.Prelude.{Bool, true, not, ◌||◌, is_some, ℕ, Option, Some, None, List, [], ◌++◌, codes}
use Rattle.std.specs.List.{flat_map}
use Rattle.std.specs.Str.{bytes_eq}
use Rattle.npf_faults.specs.declared.fault.ConfFault.{ConfFault}
use Rattle.npf_faults.specs.declared.fault.Fault.TheVariants.{Unbuilt}
use Rattle.npf_types.specs.declared.span.Span.{Span}
use Rattle.npf_syntax.specs.declared.filter.Filter.{Filter}
use Rattle.npf_syntax.specs.declared.filter.Where.{Where}
use Rattle.npf_syntax.specs.declared.group.GroupHead.{GroupHead}
use Rattle.npf_syntax.specs.declared.group.ItemTree.{ItemTree}
use Rattle.npf_syntax.specs.declared.group.ItemTree.TheVariants as ItemIs
use Rattle.npf_syntax.specs.declared.map.MapKind.{MapKind}
use Rattle.npf_syntax.specs.declared.procedure.Call.{Call}
use Rattle.npf_syntax.specs.declared.procedure.Opt.{Opt}
use Rattle.npf_syntax.specs.declared.rule.RuleTree.{RuleTree}
use Rattle.npf_syntax.specs.declared.stmt.Stmt.{Stmt}
use Rattle.npf_syntax.specs.declared.stmt.Tree.{Tree}
use Rattle.npf_syntax.specs.declared.value.IfaceTree.{IfaceTree}
use Rattle.npf_syntax.specs.declared.word.Word.{Word}
use Rattle.npf_faults.specs.First.{fault_at, fault_if}
use Rattle.npf_model.specs.Settings.{default_settings}
use Rattle.npf_check.specs.Parameter.{is_built_set, range_faults}

abbrev pub is_built_algo : Option Word → Bool
is_built_algo None = true
is_built_algo (Some word) = bytes_eq word.text (codes "netmap") || bytes_eq word.text (codes "npt66")

abbrev pub is_built_kind : MapKind → Bool
is_built_kind (MapKind.Dynamic algo no_ports span) = not (is_some algo)
is_built_kind (MapKind.Static algo no_ports span) = is_built_algo algo

-- what stands here, if anything does
abbrev pub unbuilt_at : Option Span → List ConfFault
unbuilt_at None = []
unbuilt_at (Some span) = fault_at span Unbuilt

abbrev pub no_ports_of : MapKind → Option Span
no_ports_of (MapKind.Dynamic algo no_ports span) = no_ports
no_ports_of (MapKind.Static algo no_ports span) = no_ports

abbrev pub layer_of : GroupHead → Option Span
layer_of (GroupHead.Named name dir layer on span) = layer
layer_of (GroupHead.Default layer span) = layer

abbrev pub iface_place : IfaceTree → Span
iface_place (IfaceTree.Word word span) = span
iface_place (IfaceTree.Str string span) = span
iface_place (IfaceTree.Var var span) = span

abbrev pub unbuilt_in_where : Where → List ConfFault
unbuilt_in_where (Where.PcapFilter span) = fault_at span Unbuilt
unbuilt_in_where _ = []

-- of a rule of the text, and of one that is added to a ruleset
abbrev pub unbuilt_in_rule : RuleTree → List ConfFault
unbuilt_in_rule rule = unbuilt_in_where rule.filter.ends ++ unbuilt_at rule.owner

abbrev pub unbuilt_item : ItemTree → List ConfFault
unbuilt_item (ItemIs.Rule rule span) = unbuilt_in_rule rule
unbuilt_item (ItemIs.Ruleset name dir on span) = []

abbrev pub unbuilt_in_pass : Option Filter → List ConfFault
unbuilt_in_pass None = []
unbuilt_in_pass (Some filter) = unbuilt_in_where filter.ends

abbrev pub unbuilt_option : Opt → List ConfFault
unbuilt_option (Opt.RandomId span) = fault_at span Unbuilt
unbuilt_option _ = []

abbrev pub unbuilt_call : Call → List ConfFault
unbuilt_call (Call.Log name span) = []
unbuilt_call (Call.Normalize options span) = flat_map unbuilt_option options
unbuilt_call (Call.Route span) = fault_at span Unbuilt

abbrev pub unbuilt : Stmt → List ConfFault
unbuilt (Stmt.Set name value span) = fault_if (not (is_built_set (Stmt.Set name value span))) span Unbuilt
unbuilt (Stmt.Alg name span) = fault_if (not (bytes_eq name.text (codes "icmp"))) span Unbuilt
unbuilt (Stmt.Map iface kind proto left arrow right pass span) = fault_if (not (is_built_kind kind)) span Unbuilt ++ unbuilt_at (no_ports_of kind) ++ unbuilt_in_pass pass
unbuilt (Stmt.MapRuleset iface span) = fault_at (iface_place iface) Unbuilt
unbuilt (Stmt.Group head items span) = unbuilt_at (layer_of head) ++ flat_map unbuilt_item items
unbuilt (Stmt.Procedure name calls span) = flat_map unbuilt_call calls
unbuilt _ = []

abbrev pub unbuilt_faults : Tree → List ConfFault
unbuilt_faults tree = flat_map unbuilt tree.stmts ++ range_faults default_settings tree.stmts
