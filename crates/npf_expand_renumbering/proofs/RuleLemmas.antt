-- Rules and maps without faults, numbered anew, are what they are with a longer list of interfaces.
use Rattle.std.{proofs.Common.{◌≡◌, ℕ, Option, Some, None, List, [], ◌++◌, refl, ap, ◌∙◌}, specs.Option.option_map}
use Rattle.npf_syntax.specs.declared.{filter.Filter.Filter, map.{ArrowTree.ArrowTree as WrittenArrow, MapKind.MapKind, SideTree.SideTree as WrittenSide}}
use Rattle.npf_syntax.specs.declared.{rule.RuleTree.RuleTree, value.{IfaceTree.IfaceTree as WrittenIface, One.One, Value.Value}}
use Rattle.npf_model.specs.declared.{iface.Iface.Iface, map.{Map.Map, Side.Side}, rule.{OnIf.OnIf, Rule.Rule}}
use Rattle.npf_model.specs.Numbering.{numbered_map, numbered_on, numbered_rule}
use Rattle.npf_types.specs.declared.prefix.Prefix.{Prefix}
use Rattle.npf_expand_values.specs.{Atom.{Binding, Env}, Declarations.Declared, Iface.{iface_faults, on_iface}, Protocol.{one_protocol, one_protocol_faults}}
use Rattle.npf_expand_values.specs.{declared.role.Role.TheVariants.AsAddress, Use.atoms_of, Variable.{binding_of, bound_faults, own_faults}}
use Rattle.npf_expand.specs.Elaborates.{filter_elements}
use Rattle.npf_expand.specs.Map.{algo_of, arrow_of_sign, first_block, first_port, map_faults, map_filter_faults, map_of_tree, side_faults, side_of, side_port, side_port_faults}
use Rattle.npf_expand.specs.Rule.{filter_count, filter_faults, filter_rule, on_faults, rule_faults, rule_of_tree}
use Rattle.npf_expand_renumbering.proofs.{CleanLemmas.{back, both, front}, HostLemmas.{bound_there, first_block_same}, IfaceLemmas.KeepsAddresses, ValueLemmas.{single_none, single_same}}
use Rattle.npf_expand_renumbering.proofs.{WholeLemmas.{IsWhole, on_same}, FilterLemmas.{IsSame, as_it_is, filter_same, no_count}}

abbrev side_with : Prefix → Option (ℕ × ℕ) → Side
side_with net ports = record { net = net; ports = ports }

module _ (ifaces longer : List Iface) (keeps : KeepsAddresses ifaces longer) (env : Env) where
  -- rules, which have interfaces
  module _ (whole : IsWhole env) where
    pub option_same : (on : Option WrittenIface) → on_faults ifaces env on ≡ []
        → option_map (on_iface longer env) on ≡ option_map (numbered_on longer) (option_map (on_iface ifaces env) on)
    option_same None none = refl
    option_same (Some iface) none = ap (λ (on : OnIf). Some on) (on_same ifaces longer env whole iface none)

    pub rule_same : (declared : Declared) (rule : RuleTree) → rule_faults ifaces env rule ≡ []
        → IsSame ifaces longer (λ list. rule_faults list env rule) (λ list. filter_count list env rule.filter)
        (λ list. rule_of_tree list env declared rule) (numbered_rule longer)
    rule_same declared rule none =
        let on = on_faults ifaces env rule.on in
        let rest = filter_faults ifaces env rule.filter in
        let filter = filter_same ifaces longer keeps env declared.tables rule.filter (back on rest none) in
        let whole_rule = rule_of_tree longer env declared rule in
        record {
          none = both (on_faults longer env rule.on) (filter_faults longer env rule.filter) (front on rest none) filter.none;
          counts = filter.counts;
          means = ap (λ (f : Rule). record whole_rule { v6 = f.v6; protos = f.protos; flags = f.flags; icmp = f.icmp; from = f.from; to = f.to }) filter.means
              ∙ ap (λ (found : Option OnIf). record (rule_of_tree ifaces env declared rule) { on = found }) (option_same rule.on (front on rest none));
        }

  -- maps
  port_same : (port : Option Value) → side_port_faults ifaces env port ≡ []
      → IsSame ifaces longer (λ list. side_port_faults list env port) no_count (λ list. side_port list env port) as_it_is
  port_same None none = record { none = refl; counts = refl; means = refl }
  port_same (Some value) none =
      let same : binding_of longer env value ≡ binding_of ifaces env value = search (single_same ifaces longer keeps env, none) in
      record {
        none = search (single_none ifaces longer keeps env, none);
        counts = refl;
        means = ap (λ (binding : Option Binding). first_port (atoms_of binding)) same;
      }

  side_same : (side : WrittenSide) → side_faults ifaces env side ≡ []
      → IsSame ifaces longer (λ list. side_faults list env side) no_count (λ list. side_of list env side) as_it_is
  side_same side none =
      let rest = side_port_faults ifaces env side.port in
      let alone = front _ rest none in
      let same : binding_of longer env side.value ≡ binding_of ifaces env side.value = search (single_same ifaces longer keeps env, alone) in
      let there = bound_there ifaces longer keeps side.value (binding_of ifaces env side.value)
      (back (own_faults ifaces env side.value) (bound_faults ifaces AsAddress side.value (binding_of ifaces env side.value)) alone) in
      let port = port_same side.port (back _ rest none) in
      record {
        none = both _ (side_port_faults longer env side.port) (search (single_none ifaces longer keeps env, alone)) port.none;
        counts = refl;
        means = ap (λ (binding : Option Binding). side_with (first_block longer (atoms_of binding)) (side_port longer env side.port)) same
            ∙ ap (λ (net : Prefix). side_with net (side_port longer env side.port)) (first_block_same ifaces longer keeps (atoms_of (binding_of ifaces env side.value)) there)
            ∙ ap (λ (ports : Option (ℕ × ℕ)). side_with (first_block ifaces (atoms_of (binding_of ifaces env side.value))) ports) port.means;
      }

  pass_same : (tables : List (List ℕ)) (declared : Declared) (pass : Option Filter) → map_filter_faults ifaces env pass ≡ []
      → IsSame ifaces longer (λ list. map_filter_faults list env pass) (λ list. filter_elements list declared env pass)
      (λ list. option_map (filter_rule list env tables) pass) (option_map (numbered_rule longer))
  pass_same tables declared None none = record { none = refl; counts = refl; means = refl }
  pass_same tables declared (Some filter) none =
      let same = filter_same ifaces longer keeps env tables filter none in
      record { none = same.none; counts = same.counts; means = ap (λ (rule : Rule). Some rule) same.means }

  module _ (whole : IsWhole env) (declared : Declared) (iface : WrittenIface) (kind : MapKind) (proto : Option One) (left : WrittenSide) (arrow : WrittenArrow)
      (right : WrittenSide) (pass : Option Filter) where
    abbrev map_with : OnIf → Side → Side → Option Rule → Map
    map_with on inside outside filter = record {
      on = on;
      algo = algo_of kind;
      arrow = arrow_of_sign arrow;
      proto = one_protocol env proto;
      inside = inside;
      outside = outside;
      filter = filter;
    }

    pub map_same : map_faults ifaces env iface proto left right pass ≡ []
        → IsSame ifaces longer (λ list. map_faults list env iface proto left right pass) (λ list. filter_elements list declared env pass)
        (λ list. map_of_tree list env declared.tables iface kind proto left arrow right pass) (numbered_map longer)
    map_same none =
        let on = iface_faults env iface in
        let protocol = one_protocol_faults env proto in
        let one = side_faults ifaces env left in
        let other = side_faults ifaces env right in
        let filter = map_filter_faults ifaces env pass in
        let to_right = front (on ++ protocol ++ one ++ other) filter none in
        let to_left = front (on ++ protocol ++ one) other to_right in
        let begins = front (on ++ protocol) one to_left in
        let inside = side_same left (back (on ++ protocol) one to_left) in
        let outside = side_same right (back (on ++ protocol ++ one) other to_right) in
        let rule = pass_same declared.tables declared pass (back (on ++ protocol ++ one ++ other) filter none) in
        let left_too = side_faults longer env left in
        let right_too = side_faults longer env right in
        record {
          none = both (on ++ protocol ++ left_too ++ right_too) (map_filter_faults longer env pass)
              (both (on ++ protocol ++ left_too) right_too (both (on ++ protocol) left_too begins inside.none) outside.none) rule.none;
          counts = rule.counts;
          means =
              ap (λ (o : OnIf). map_with o (side_of longer env left) (side_of longer env right) (option_map (filter_rule longer env declared.tables) pass))
              (on_same ifaces longer env whole iface (front on protocol begins))
              ∙ ap (λ (s : Side). map_with (numbered_on longer (on_iface ifaces env iface)) s (side_of longer env right)
              (option_map (filter_rule longer env declared.tables) pass)) inside.means
              ∙ ap (λ (s : Side). map_with (numbered_on longer (on_iface ifaces env iface)) (side_of ifaces env left) s
              (option_map (filter_rule longer env declared.tables) pass)) outside.means
              ∙ ap (map_with (numbered_on longer (on_iface ifaces env iface)) (side_of ifaces env left) (side_of ifaces env right)) rule.means;
        }
