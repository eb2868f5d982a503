use Rattle.npf_faults.proofs.FirstLemmas.{is_first_fault, no_first_fault}
use Rattle.npf_faults.proofs.laws.finds_the_first.Goals as goal

pub returns-clause-found : goal.returns-clause-found
returns-clause-found c = is_first_fault

pub returns-clause-none : goal.returns-clause-none
returns-clause-none c = no_first_fault
