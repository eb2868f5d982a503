use Rattle.npf_connections.proofs.RecordLemmas.{listed_add_nothing, ends_with_own, sole_is_alone, epochs_end}
use Rattle.npf_connections.proofs.laws.record_law.Goals as goal

pub returns-clause-listed : goal.returns-clause-listed
returns-clause-listed g c = listed_add_nothing

pub returns-clause-ends : goal.returns-clause-ends
returns-clause-ends g c = ends_with_own

pub returns-clause-alone : goal.returns-clause-alone
returns-clause-alone g c = sole_is_alone g.L.Law.meaning

pub returns-clause-epochs : goal.returns-clause-epochs
returns-clause-epochs g c = epochs_end g.L.Law.meaning
