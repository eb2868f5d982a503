use Rattle.std.proofs.Common.{List, ◌++◌, ◌∷◌, [], append-nil, refl, sym, ap, ◌∙◌}
use Rattle.npf_model.specs.declared.group.Group.{Group}
use Rattle.npf_expand_values.specs.{Source.declared_by, Scope.{env_in, ifaces_in}}
use Rattle.npf_expand.proofs.StepLemmas.{default_is, default_none, named_is, named_none}
use Rattle.npf_expand.proofs.elaborate.State.add_group.Goals as goal

pub returns-in_ok-push-in-Named : goal.returns-in_ok-push-in-Named
returns-in_ok-push-in-Named c =
    let state = c.args.self.now in
    let ifaces = ifaces_in c.args.self.now.variables in
    let declared = declared_by c.args.declarations.now.source in
    let env = env_in state.variables in
    λ span. record {
      run = refl;
      env = λ text. refl;
      met = c.in_ok-group.ensures.met;
      adds = λ none. record {
        groups = c.in_ok-push-in-Named.ensures.items ∙ ap (λ (g : Group). state.groups.items ++ g ∷ []) (c.in_ok-group.ensures.built none)
            ∙ ap (λ (gs : List Group). state.groups.items ++ gs) (named_is ifaces env declared c.args.head.now c.args.items.now span _ _ _ _ _ c.in-Named.is);
        defaults = sym (append-nil state.defaults.items) ∙ ap (λ (gs : List Group). state.defaults.items ++
            gs) (default_none ifaces env declared c.args.head.now c.args.items.now span _ _ _ _ _ c.in-Named.is);
        maps = sym (append-nil state.maps.items);
      };
    }

pub returns-in_ok-push-in-Default : goal.returns-in_ok-push-in-Default
returns-in_ok-push-in-Default c =
    let state = c.args.self.now in
    let ifaces = ifaces_in c.args.self.now.variables in
    let declared = declared_by c.args.declarations.now.source in
    let env = env_in state.variables in
    λ span. record {
      run = refl;
      env = λ text. refl;
      met = c.in_ok-group.ensures.met;
      adds = λ none. record {
        groups = sym (append-nil state.groups.items) ∙ ap (λ (gs : List Group). state.groups.items ++ gs) (named_none ifaces env declared c.args.head.now c.args.items.now span _ _ c.in-Default.is);
        defaults = c.in_ok-push-in-Default.ensures.items ∙ ap (λ (g : Group). state.defaults.items ++ g ∷ []) (c.in_ok-group.ensures.built none)
            ∙ ap (λ (gs : List Group). state.defaults.items ++ gs) (default_is ifaces env declared c.args.head.now c.args.items.now span _ _ c.in-Default.is);
        maps = sym (append-nil state.maps.items);
      };
    }
