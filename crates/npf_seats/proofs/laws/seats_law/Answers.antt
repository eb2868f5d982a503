use Rattle.npf_seats.proofs.SeatLemmas.{owns_place_alone, answers_for_all}
use Rattle.npf_seats.proofs.laws.seats_law.Goals as goal

pub returns-clause-alone : goal.returns-clause-alone
returns-clause-alone g c = owns_place_alone

pub returns-clause-answers : goal.returns-clause-answers
returns-clause-answers g c = answers_for_all
