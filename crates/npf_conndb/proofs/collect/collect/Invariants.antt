use Rattle.std.proofs.Common.{◌≡◌, ◌⊎◌, ◌<◌, ◌-◌}
use Rattle.npf_cells.specs.Cells.{IsPassIn}
use Rattle.npf_conndb.specs.{Frees.{HasCollected, IsNotedVacant}, SlotVisit.HasVisited}
use Rattle.npf_conndb.proofs.collect.collect.Given as goal

abbrev pub invariant-loop-slot : goal.invariant-loop-slot
invariant-loop-slot g l =
    let slots = l.cells.table.shared.key.slots in
    record {
      own : IsPassIn l.cells l.pass;
      sized : l.slots ≡ slots;
      collected : HasCollected g.L.Law.meaning l.epoch (λ p. IsNotedVacant slots l.claimed p ⊎ ((p < slots) × (p < l.slot))) l.fn.pass.seat.me l.pass.seat.me;
      visited : HasVisited g.L.Law.meaning g.H.KeyHash.digest l.cells.table.shared.key (λ p. IsNotedVacant slots l.claimed p ⊎ ((p < slots) × (p < l.slot))) l.fn.pass.seat.me.0 l.pass.seat.me.0;
    }

abbrev pub decreases-loop-slot : goal.decreases-loop-slot
decreases-loop-slot g l = l.slots - l.slot
