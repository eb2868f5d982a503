use Rattle.std.proofs.Common.{◌<◌, ◌∙◌, length, refl, sym, ap}
use Rattle.npf_oneturn_store.specs.{declared.connection.Connection.Connection, Store.{IsLivePhase, phase_of}}
use Rattle.npf_oneturn_store.proofs.ConnectionLemmas.{claimed_inc, claimed_within, fit_put, given_inc, live_claimed, live_phase, live_stays, set_elsewhere, set_there, slot_read}
use Rattle.npf_oneturn_store.proofs.StandLemmas.{stand_put}
use Rattle.npf_oneturn_store.proofs.steps.step.Goals as goal

pub invariant_of-store-clause-fit : goal.invariant_of-store-clause-fit
invariant_of-store-clause-fit g c =
    let s = c.args.store.now in
    let xs = s.connections.items in
    let id = c.args.id in
    let live : IsLivePhase (phase_of s id) = c.is_live.ensures.0 search in
    let stepped = c.advance-reply.ensures.stepped in
    fit_put xs s.first id.slot c.advance-reply.new.connection s.fit (claimed_within xs id (live_claimed xs id live))
    (live_stays xs c.advance-reply.new.connection _ _ (ap (λ (y : Connection g.row.L-State.Denot). y.phase) stepped))

pub invariant_of-store-clause-stand : goal.invariant_of-store-clause-stand
invariant_of-store-clause-stand g c =
    let s = c.args.store.now in
    let xs = s.connections.items in
    let id = c.args.id in
    let live : IsLivePhase (phase_of s id) = c.is_live.ensures.0 search in
    let claimed = live_claimed xs id live in
    let within : id.slot < length xs = claimed_within xs id claimed in
    let stepped = c.advance-reply.ensures.stepped in
    let read = slot_read xs id.slot c.index_mut.result.now within c.index_mut.ensures.value in
    stand_put xs s.keys.holdings.items s.stand id c.advance-reply.new.connection claimed
    (ap (λ (y : Connection g.row.L-State.Denot). y.inc) stepped ∙ (ap (λ (y : Connection g.row.L-State.Denot). y.inc) (sym read) ∙ claimed_inc xs id claimed))
    (live_stays xs c.advance-reply.new.connection _ _ (ap (λ (y : Connection g.row.L-State.Denot). y.phase) stepped))

pub returns : goal.returns
returns g c =
    let s = c.args.store.now in
    let xs = s.connections.items in
    let id = c.args.id in
    let live : IsLivePhase (phase_of s id) = c.is_live.ensures.0 search in
    let claimed = live_claimed xs id live in
    let within : id.slot < length xs = claimed_within xs id claimed in
    let step = c.advance-reply.ensures in
    let read = slot_read xs id.slot c.index_mut.result.now within c.index_mut.ensures.value in
    let inc = ap (λ (y : Connection g.row.L-State.Denot). y.inc) (sym read) ∙ claimed_inc xs id claimed in
    record {
      flow = step.flow;
      live = live_phase xs id live ∙ (ap (λ (y : Connection g.row.L-State.Denot). y.phase) read ∙ step.live);
      answer = step.answer;
      stepped = record {
        sized = refl;
        put = set_there xs id.slot _ within ∙ given_inc xs c.advance-reply.new.connection _ _ _ step.stepped inc;
        others = λ r ne. set_elsewhere xs id.slot r _ ne;
        held = λ key. refl;
      };
    }
