use Rattle.std.proofs.Common.{◌++◌, ◌∷◌, [], append-nil, refl, sym, ap, ◌∙◌}
use Rattle.npf_expand_values.{specs.{Scope.{env_in, ifaces_in}, Source.declared_by}, proofs.FaultLemmas.some_or_none}
use Rattle.npf_expand.{specs.{Elaborates.filter_elements, Map.map_faults, Rule.passing_faults}, proofs.StepLemmas.few_gathered}
use Rattle.npf_model.specs.declared.map.Map.{Map}
use Rattle.npf_expand.proofs.elaborate.State.add_map.Goals as goal

pub map_of-requires : goal.map_of-requires
map_of-requires c =
    let ifaces = ifaces_in c.args.self.now.variables in
    let env = env_in c.args.self.now.variables in
    let line = c.args.line.now in
    let faults = map_faults ifaces env line.iface.now line.proto.now line.left.now line.right.now line.pass.now in
    let elements = filter_elements ifaces (declared_by c.args.declarations.now.source) env line.pass.now in
    few_gathered c.args.self.now.met c.meet_rule.new.self (faults ++ passing_faults c.args.self.now.met.elements elements c.args.span) elements
    (c.meet_rule.ensures faults elements c.map_fault.ensures c.in_ok-more.ensures) (sym c.is_some.ensures ∙ c.if-is_some.false)

pub returns-then-is_some : goal.returns-then-is_some
returns-then-is_some c =
    let ifaces = ifaces_in c.args.self.now.variables in
    let env = env_in c.args.self.now.variables in
    let line = c.args.line.now in
    let meets = c.meet_rule.ensures (map_faults ifaces env line.iface.now line.proto.now line.left.now line.right.now line.pass.now)
    (filter_elements ifaces (declared_by c.args.declarations.now.source) env line.pass.now) c.map_fault.ensures c.in_ok-more.ensures in
    record {
      run = refl;
      env = λ text. refl;
      met = record { first = meets.first; count = meets.count };
      adds = λ none. absurd (some_or_none c.meet_rule.new.self.first (sym c.is_some.ensures ∙ c.if-is_some.true) none);
    }

pub returns : goal.returns
returns c =
    let state = c.args.self.now in
    let ifaces = ifaces_in c.args.self.now.variables in
    let env = env_in state.variables in
    let line = c.args.line.now in
    let meets = c.meet_rule.ensures (map_faults ifaces env line.iface.now line.proto.now line.left.now line.right.now line.pass.now)
    (filter_elements ifaces (declared_by c.args.declarations.now.source) env line.pass.now) c.map_fault.ensures c.in_ok-more.ensures in
    record {
      run = refl;
      env = λ text. refl;
      met = record { first = meets.first; count = meets.count };
      adds = λ none. record {
        groups = sym (append-nil state.groups.items);
        defaults = sym (append-nil state.defaults.items);
        maps = c.in_ok-push.ensures.items ∙ ap (λ (m : Map). state.maps.items ++ m ∷ []) c.in_ok-map_of.ensures;
      };
    }
