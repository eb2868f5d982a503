use Rattle.std.proofs.{Common.{◌≤◌, ℕ, List, length, take, refl, sym, subst, arith}, lemmas.List.take_all}
use Rattle.npf_core.specs.History.{Legal, state_of}
use Rattle.npf_flow.specs.Flows.{flow_law}
use Rattle.npf_saved.specs.declared.saved.Saved.{Saved}
use Rattle.npf_connsave.proofs.KeysLemmas.{sole_self, sole_trans}
use Rattle.npf_connsave.proofs.StartLemmas.{IsLoading, all_saved, front_left, next_apart, next_done, next_free, next_opener, next_room, nothing_yet, one_started}
use Rattle.npf_connsave.proofs.loads.start_all.Goals as goal

pub loop-saved-init : goal.loop-saved-init
loop-saved-init g c =
    let old = g.C.Connections.view c.args.pass.now in
    record { inside = c.requires.inside; idle = c.requires.idle; same = sole_self old; loading = nothing_yet old c.requires.new }

pub start_one-requires-clause-room : goal.start_one-requires-clause-room
start_one-requires-clause-room g c κs within =
    let now = g.C.Connections.view c.loop-saved.pass in
    let all = c.args.all.now in
    let i = c.loop-saved.invariant in
    next_room all c.loop-saved.saved-index c.saved-item.result c.loop-saved-test.true c.saved-item.is c.requires.good (state_of flow_law now.history) now.slots i.loading.loaded
    (subst (λ (n : ℕ). length all ≤ n) (sym i.same.slots) c.requires.room)

pub start_one-requires-clause-free : goal.start_one-requires-clause-free
start_one-requires-clause-free g c κs within =
    next_free c.args.all.now c.loop-saved.saved-index c.saved-item.result c.loop-saved-test.true c.saved-item.is c.requires.good
    (state_of flow_law (g.C.Connections.view c.loop-saved.pass).history) c.loop-saved.invariant.loading.loaded

pub start_one-requires-clause-apart : goal.start_one-requires-clause-apart
start_one-requires-clause-apart g c κs within =
    next_apart c.args.all.now c.loop-saved.saved-index c.saved-item.result c.loop-saved-test.true c.saved-item.is c.requires.good

pub returns-then-not-start_one-clause-refused : goal.returns-then-not-start_one-clause-refused
returns-then-not-start_one-clause-refused g c = λ _.
    front_left c.args.all.now c.loop-saved.saved-index c.saved-item.result c.loop-saved-test.true c.saved-item.is c.requires.good
    (g.C.Connections.view c.args.pass.now) (g.C.Connections.view c.loop-saved.pass) (g.C.Connections.view c.start_one.new.pass)
    c.loop-saved.invariant.loading c.loop-saved.invariant.same (c.if-not-start_one.ensures.refused refl)

pub loop-saved-preserved : goal.loop-saved-preserved
loop-saved-preserved g c =
    let old = g.C.Connections.view c.args.pass.now in
    let now = g.C.Connections.view c.loop-saved.pass in
    let last = g.C.Connections.view c.start_one.new.pass in
    let all = c.args.all.now in
    let n = c.loop-saved.saved-index in
    let saved = c.saved-item.result in
    let i = c.loop-saved.invariant in
    let after = subst (λ (slots : ℕ). Legal flow_law slots last.history) c.start_one.ensures.same.slots c.start_one.ensures.inside.legal.legal in
    let opener = next_opener all n saved c.loop-saved-test.true c.saved-item.is c.requires.good in
    record {
      inside = c.start_one.ensures.inside;
      idle = c.start_one.ensures.idle;
      same = sole_trans old now last i.same c.start_one.ensures.same;
      loading = subst (λ (done : List Saved). IsLoading old last done) (sym (next_done all n saved c.loop-saved-test.true c.saved-item.is c.requires.good))
          (one_started old now last (take n all) saved i.loading i.inside.legal.legal after opener i.same (c.if-not-start_one.ensures.starts refl));
    }

pub returns-clause-all : goal.returns-clause-all
returns-clause-all g c = λ _.
    let old = g.C.Connections.view c.args.pass.now in
    let now = g.C.Connections.view c.loop-saved.pass in
    let all = c.args.all.now in
    let loading = subst (λ (done : List Saved). IsLoading old now done) (take_all c.loop-saved.saved-index all (omega arith)) c.loop-saved.invariant.loading in
    record {
      made = loading.made;
      conns = loading.conns;
      entries = loading.entries;
      saved = all_saved (state_of flow_law now.history) all loading.loaded c.requires.good;
    }
