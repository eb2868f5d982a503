use Rattle.npf_cells_words.proofs.{CodeLemmas.{codes_are_apart, codes_fit}, MarkLemmas.{marks_say_nodes, marks_lead_on}}
use Rattle.npf_cells_words.proofs.WordLemmas.{fields_are_apart, places_are_apart, locks_are_apart}
use Rattle.npf_cells_words.proofs.laws.words_law.Goals as goal

pub returns-clause-fields : goal.returns-clause-fields
returns-clause-fields c = fields_are_apart

pub returns-clause-places : goal.returns-clause-places
returns-clause-places c = places_are_apart

pub returns-clause-locks : goal.returns-clause-locks
returns-clause-locks c = locks_are_apart

pub returns-clause-codes : goal.returns-clause-codes
returns-clause-codes c = codes_are_apart

pub returns-clause-fit : goal.returns-clause-fit
returns-clause-fit c = codes_fit

pub returns-clause-marks : goal.returns-clause-marks
returns-clause-marks c = marks_say_nodes

pub returns-clause-lead : goal.returns-clause-lead
returns-clause-lead c = marks_lead_on
