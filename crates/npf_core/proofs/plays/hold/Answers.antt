use Rattle.std.proofs.Common.{◌≡◌, Some, rules}
use Rattle.npf_core.{specs.PlainMachine.state_in, proofs.PlainMachineLemmas.{holds_none, taken_stays}}
use Rattle.npf_core.proofs.plays.hold.Goals as goal

pub returns-in-Some-clause-plays : goal.returns-in-Some-clause-plays
returns-in-Some-clause-plays g c =
    let a = c.args in
    let k = state_in a.machine.now in
    let held : k.holder a.key ≡ Some c.in-Some.holder = cc in
    record {
      allowed = record { built = search rules; none = holds_none k a.id a.way c.holds.result c.holds.ensures c.if-holds.false };
      replied = search rules;
      goes_on = taken_stays g.L.Law.meaning k a.seat a.id a.key a.way c.in-Some.holder held;
    }

pub returns-clause-plays : goal.returns-clause-plays
returns-clause-plays g c =
    let a = c.args in
    record {
      allowed = record { built = search rules; none = holds_none (state_in a.machine.now) a.id a.way c.holds.result c.holds.ensures c.if-holds.false };
      replied = search rules;
      goes_on = c.in_ok-give.ensures.state;
    }
