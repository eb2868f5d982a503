use Rattle.npf_cells_rule.proofs.NoteLawLemmas.{notes_name_keys, bare_notes_zero}
use Rattle.npf_cells_rule.proofs.laws.note_law.Goals as goal

pub returns-clause-names : goal.returns-clause-names
returns-clause-names g c = notes_name_keys g.L.Law.meaning

pub returns-clause-bare : goal.returns-clause-bare
returns-clause-bare g c = bare_notes_zero g.L.Law.meaning
