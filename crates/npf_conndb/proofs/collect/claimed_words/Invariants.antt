use Rattle.std.proofs.Common.{◌≡◌, [], length}
use Rattle.npf_connections.specs.Adding.{Adds}
use Rattle.npf_cells.specs.Cells.{IsPassIn}
use Rattle.npf_cells_rule.specs.Passes.{cell_pass}
use Rattle.npf_conndb.specs.{Frees.{HasCollected, IsNotedVacant}, SlotVisit.HasVisited}
use Rattle.npf_conndb.proofs.collect.claimed_words.Given as goal

abbrev pub invariant-loop-word : goal.invariant-loop-word
invariant-loop-word g l =
    let slots = l.cells.table.shared.key.slots in
    record {
      own : IsPassIn l.cells l.pass;
      flags : length l.claimed ≡ 1024;
      collected : HasCollected g.L.Law.meaning l.epoch (IsNotedVacant slots l.claimed) l.fn.pass.seat.me l.pass.seat.me;
      visited : HasVisited g.L.Law.meaning g.H.KeyHash.digest l.cells.table.shared.key (IsNotedVacant slots l.claimed) l.fn.pass.seat.me.0 l.pass.seat.me.0;
      none : Adds (cell_pass l.fn.pass.seat.me.0) l.pass.seat.me.0.seats.history [];
    }
