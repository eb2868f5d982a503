use Rattle.npf_cells_returns.proofs.MarkLawLemmas.{marks_hold_none, marked_are_bare, marked_hold_back}
use Rattle.npf_cells_returns.proofs.laws.mark_law.Goals as goal

pub returns-clause-none : goal.returns-clause-none
returns-clause-none g c = marks_hold_none g.L.Law.meaning

pub returns-clause-bare : goal.returns-clause-bare
returns-clause-bare g c = marked_are_bare g.L.Law.meaning

pub returns-clause-back : goal.returns-clause-back
returns-clause-back g c = marked_hold_back g.L.Law.meaning
