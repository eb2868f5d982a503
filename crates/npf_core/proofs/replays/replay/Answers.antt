use Rattle.std.proofs.Common.{◌∙◌}
use Rattle.npf_core.{specs.PlainMachine.state_in, proofs.ReplayingLemmas.{stops_at, goes_on}}
use Rattle.npf_core.proofs.replays.replay.Goals as goal

pub returns-in_default-clause-fault : goal.returns-in_default-clause-fault
returns-in_default-clause-fault g c =
    let plays = rw c.loop-at.invariant.slots at c.in_ok-reply.ensures.plays in
    stops_at g.L.Law.meaning c.args.slots c.args.asked.now c.loop-at.at c.index-asked-at.result c.loop-at-test.true c.index-asked-at.is
    c.loop-at.history.items (state_in c.loop-at.machine) (state_in c.play.new.machine) c.in_ok-reply.field-0 c.loop-at.invariant.state
    c.loop-at.invariant.legal c.loop-at.invariant.asked plays c.in_default.is

pub loop-at-preserved : goal.loop-at-preserved
loop-at-preserved g c =
    let before = c.loop-at.invariant in
    let plays = rw before.slots at c.in_ok-reply.ensures.plays in
    let more = goes_on g.L.Law.meaning c.args.slots c.args.asked.now c.loop-at.at c.index-asked-at.result c.loop-at-test.true c.index-asked-at.is
    c.loop-at.history.items (state_in c.loop-at.machine) (state_in c.play.new.machine) c.in_ok-reply.field-0 before.state
    c.in-Some.reply before.legal before.asked plays c.in-Some.is in
    let pushed = c.in_ok-push.ensures.items in
    record {
      legal = rw pushed more.legal;
      asked = rw pushed more.asks;
      state = rw pushed more.state;
      slots = c.in_ok-reply.ensures.slots ∙ before.slots;
    }
