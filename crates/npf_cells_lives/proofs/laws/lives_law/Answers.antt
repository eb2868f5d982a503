use Rattle.npf_cells_lives.proofs.{ConnLemmas.builds_in_one_slot, LockLemmas.lock_alone, TurnLemmas.turn_alone}
use Rattle.npf_cells_lives.proofs.laws.lives_law.Goals as goal

pub returns-clause-builders : goal.returns-clause-builders
returns-clause-builders g c = builds_in_one_slot g.L.Law.meaning

pub returns-clause-locks : goal.returns-clause-locks
returns-clause-locks g c = lock_alone

pub returns-clause-turns : goal.returns-clause-turns
returns-clause-turns g c = λ layout. turn_alone layout
