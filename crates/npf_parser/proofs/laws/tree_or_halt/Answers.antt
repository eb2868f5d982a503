use Rattle.npf_parser.{specs.Stmt.file, proofs.{LineLemmas.file_advances, ParseLemmas.{one_or_other, not_both}}}
use Rattle.npf_parser.proofs.laws.tree_or_halt.Goals as goal

pub returns : goal.returns
returns c = λ tokens. (one_or_other file file_advances tokens, λ both. not_both file file_advances tokens both.1.0 both.0 both.1.1)
