use Rattle.npf_core.proofs.HistoryLemmas.{Legal-prefix, goes_on_legally, state_of-append, acts_decide}
use Rattle.npf_core.proofs.laws.history_law.Goals as goal

pub returns-clause-prefix : goal.returns-clause-prefix
returns-clause-prefix g c = λ slots. Legal-prefix g.L.Law.meaning slots

pub returns-clause-appended : goal.returns-clause-appended
returns-clause-appended g c = λ slots. goes_on_legally g.L.Law.meaning slots

pub returns-clause-state : goal.returns-clause-state
returns-clause-state g c = state_of-append g.L.Law.meaning

pub returns-clause-decided : goal.returns-clause-decided
returns-clause-decided g c = λ slots. acts_decide g.L.Law.meaning slots
