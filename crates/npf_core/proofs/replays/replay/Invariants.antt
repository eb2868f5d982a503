use Rattle.std.proofs.Common.{◌≡◌, take}
use Rattle.npf_core.specs.{History.{Legal, state_of}, PlainMachine.{state_in, slots_in}, Replays.asked_in}
use Rattle.npf_core.proofs.replays.replay.Given as goal

abbrev pub invariant-loop-at : goal.invariant-loop-at
invariant-loop-at g l =
    let m = g.L.Law.meaning in
    record {
      legal : Legal m l.fn.slots l.history.items;
      asked : asked_in l.history.items ≡ take l.at l.asked;
      state : state_in l.machine ≡ state_of m l.history.items;
      slots : slots_in l.machine ≡ l.fn.slots;
    }
