use Rattle.std.proofs.{Common.{Some, List, ◌++◌, sym, subst, refl}, lemmas.List.Elements.Contains-append_left}
use Rattle.npf_types.specs.declared.key.Way.TheVariants.{Forward, Backward, Port}
use Rattle.npf_core.specs.{History.state_of, Machine.HoldsNone}
use Rattle.npf_flow.specs.Flows.{flow_law}
use Rattle.npf_saved_file.specs.Conns.{key_list}
use Rattle.npf_connsave.{specs.Loads.{AreFree, FlowEntry}, proofs.{KeysLemmas.{free_behind_forward, free_behind_port}, LoadingLemmas.bare_after}}
use Rattle.npf_connsave.proofs.loads.hold_keys.Goals as goal

pub hold_key-requires-2-clause-bare : goal.hold_key-requires-2-clause-bare
hold_key-requires-2-clause-bare g c κs within =
    let old = g.C.Connections.view c.args.pass.now in
    let id = c.args.id in
    subst (λ (h : List FlowEntry). HoldsNone (state_of flow_law h) id Port) (sym (c.if-not-hold_key.ensures.holds refl))
    (bare_after old.history old.number id Forward (Some c.args.saved.now.forward) Port (λ e. absurd cc) (c.requires.bare Port))

pub hold_key-requires-2-clause-free : goal.hold_key-requires-2-clause-free
hold_key-requires-2-clause-free g c κs within =
    let old = g.C.Connections.view c.args.pass.now in
    let saved = c.args.saved.now in
    subst (λ (h : List FlowEntry). AreFree (state_of flow_law h) (key_list saved.port)) (sym (c.if-not-hold_key.ensures.holds refl))
    (λ key there. free_behind_forward old.history old.number c.args.id saved c.requires.apart c.requires.free key (Contains-append_left (key_list saved.port) (key_list saved.backward) key there))

pub hold_key-requires-3-clause-bare : goal.hold_key-requires-3-clause-bare
hold_key-requires-3-clause-bare g c κs within =
    let old = g.C.Connections.view c.args.pass.now in
    let mid = g.C.Connections.view c.hold_key.new.pass in
    let id = c.args.id in
    let saved = c.args.saved.now in
    let one = subst (λ (h : List FlowEntry). HoldsNone (state_of flow_law h) id Backward) (sym (c.if-not-hold_key.ensures.holds refl))
    (bare_after old.history old.number id Forward (Some saved.forward) Backward (λ e. absurd cc) (c.requires.bare Backward)) in
    subst (λ (h : List FlowEntry). HoldsNone (state_of flow_law h) id Backward) (sym (c.if-not-hold_key-2.ensures.holds refl))
    (bare_after mid.history mid.number id Port saved.port Backward (λ e. absurd cc) one)

pub hold_key-requires-3-clause-free : goal.hold_key-requires-3-clause-free
hold_key-requires-3-clause-free g c κs within =
    let old = g.C.Connections.view c.args.pass.now in
    let mid = g.C.Connections.view c.hold_key.new.pass in
    let saved = c.args.saved.now in
    let one = subst (λ (h : List FlowEntry). AreFree (state_of flow_law h) (key_list saved.port ++ key_list saved.backward)) (sym (c.if-not-hold_key.ensures.holds refl))
    (free_behind_forward old.history old.number c.args.id saved c.requires.apart c.requires.free) in
    subst (λ (h : List FlowEntry). AreFree (state_of flow_law h) (key_list saved.backward)) (sym (c.if-not-hold_key-2.ensures.holds refl))
    (free_behind_port mid.history mid.number c.args.id saved c.requires.apart one)
