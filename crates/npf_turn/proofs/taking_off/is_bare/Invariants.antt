use Rattle.npf_cells.specs.Cells.{IsPassIn}
use Rattle.npf_turn.proofs.TakingOffLemmas.{BareBelow}
use Rattle.npf_turn.proofs.taking_off.is_bare.Given as goal

-- nothing stands in the places before this one
abbrev pub invariant-loop-digit : goal.invariant-loop-digit
invariant-loop-digit g l = record {
  own : IsPassIn l.cells l.pass;
  bare : BareBelow l.node l.digit l.initial.pass.seat.me l.pass.seat.me;
}
