use Rattle.std.proofs.Common.{ℕ, List, refl, sym, subst, ◌∙◌}
use Rattle.npf_saved.specs.declared.saved.Saved.{Saved}
use Rattle.npf_saved_file.specs.Refusal.{MayLoad}
use Rattle.npf_connsave.proofs.StayLemmas.{all_loaded, begun_history, front_loaded}
use Rattle.npf_connsave.proofs.loads.load.Goals as goal

pub start_all-loaded-requires-clause-new : goal.start_all-loaded-requires-clause-new
start_all-loaded-requires-clause-new g c κs within =
    begun_history (g.C.Connections.view c.args.pass.now) (g.C.Connections.view c.enter.new.pass) c.requires.sole c.enter.ensures.view c.enter.ensures.inside.legal c.enter.ensures.adds
    ∙ c.requires.new

pub returns-then-loaded-clause-loads : goal.returns-then-loaded-clause-loads
returns-then-loaded-clause-loads g c =
    let old = g.C.Connections.view c.args.pass.now in
    let all = c.deref.result.now in
    let read = subst (λ (slots : ℕ). MayLoad c.args.text.now c.args.names.now slots c.in_ok-saved.saved.items) (sym (c.slots.ensures c.args.pass.now c.requires.out.own)) c.in_ok-saved.ensures.ok in
    let may = subst (λ (conns : List Saved). MayLoad c.args.text.now c.args.names.now old.slots conns) (sym c.deref.ensures.value) read in
    all_loaded old (g.C.Connections.view c.enter.new.pass) (g.C.Connections.view c.start_all-loaded.new.pass) (g.C.Connections.view c.leave.new.pass)
    c.requires.sole c.enter.ensures.view c.start_all-loaded.ensures.same c.leave.ensures.view c.args.names.now c.args.text.now all may c.leave.ensures.out.legal c.leave.ensures.adds
    (c.if-loaded.ensures.all refl)

pub returns-clause-refused : goal.returns-clause-refused
returns-clause-refused g c =
    let old = g.C.Connections.view c.args.pass.now in
    let all = c.deref.result.now in
    let read = subst (λ (slots : ℕ). MayLoad c.args.text.now c.args.names.now slots c.in_ok-saved.saved.items) (sym (c.slots.ensures c.args.pass.now c.requires.out.own)) c.in_ok-saved.ensures.ok in
    let may = subst (λ (conns : List Saved). MayLoad c.args.text.now c.args.names.now old.slots conns) (sym c.deref.ensures.value) read in
    front_loaded old (g.C.Connections.view c.enter.new.pass) (g.C.Connections.view c.start_all-loaded.new.pass) (g.C.Connections.view c.leave.new.pass)
    c.requires.sole c.enter.ensures.view c.start_all-loaded.ensures.same c.leave.ensures.view c.args.names.now c.args.text.now all may c.leave.ensures.out.legal c.leave.ensures.adds
    (c.if-loaded.ensures.refused refl)
