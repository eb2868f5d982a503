use Rattle.npf_tcp.proofs.SequenceLemmas.{order_by_distance}
use Rattle.npf_tcp.proofs.laws.sequence_numbers_go_round.Goals as goal

pub returns-clause-order : goal.returns-clause-order
returns-clause-order c = order_by_distance
