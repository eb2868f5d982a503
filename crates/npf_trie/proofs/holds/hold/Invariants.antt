use Rattle.npf_cells.specs.Cells.{IsPassIn}
use Rattle.npf_trie.specs.HoldKey.{StaysAnew, IsAtPlace}
use Rattle.npf_trie.proofs.holds.hold.Given as goal

-- nothing is held yet, whichever stays were begun, and the pass stands at this point of the key's path
abbrev pub invariant-loop : goal.invariant-loop
invariant-loop g l = record {
  next : (goal.iterator-loop g).can_next l.iterator';
  finite : (goal.iterator-loop g).is_finite l.iterator';
  own : IsPassIn l.cells l.pass;
  anew : StaysAnew l.initial.pass.seat.me l.pass.seat.me;
  at : IsAtPlace g.H.KeyHash.digest l.cells.table.shared.key l.pass.seat.me.0 l.key l.point;
}
