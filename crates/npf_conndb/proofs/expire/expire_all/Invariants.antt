use Rattle.std.proofs.Common.{◌≡◌, ◌≤◌, ◌<◌, ◌-◌}
use Rattle.npf_cells.specs.Cells.{IsPassIn}
use Rattle.npf_cells_rule.specs.Passes.{cell_pass}
use Rattle.npf_conndb.specs.{Between.StaysBetween, Expiries.ExpiresIn}
use Rattle.npf_conndb.proofs.expire.expire_all.Given as goal

abbrev pub invariant-loop-slot : goal.invariant-loop-slot
invariant-loop-slot g l = record {
  own : IsPassIn l.cells l.pass;
  sized : l.slots ≡ l.cells.table.shared.key.slots;
  within : l.slot ≤ l.slots;
  few : l.count ≤ l.slot;
  stays : StaysBetween g.L.Law.meaning l.initial.pass.seat.me.0 l.pass.seat.me.0;
  expires : ExpiresIn g.L.Law.meaning l.initial.now (λ s. s < l.slot) l.count (cell_pass l.initial.pass.seat.me.0) (cell_pass l.pass.seat.me.0);
}

abbrev pub decreases-loop-slot : goal.decreases-loop-slot
decreases-loop-slot g l = l.slots - l.slot
