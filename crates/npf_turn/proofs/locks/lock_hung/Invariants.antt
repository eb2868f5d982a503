use Rattle.std.proofs.Common.{◌≡◌}
use Rattle.npf_cells.specs.Cells.{IsPassIn}
use Rattle.npf_turn.proofs.locks.lock_hung.Given as goal

-- the pass is as it was
abbrev pub invariant-loop : goal.invariant-loop
invariant-loop g l = record {
  next : (goal.iterator-loop g).can_next l.iterator';
  finite : (goal.iterator-loop g).is_finite l.iterator';
  own : IsPassIn l.cells l.pass;
  same : l.pass.seat.me ≡ l.initial.pass.seat.me;
}
