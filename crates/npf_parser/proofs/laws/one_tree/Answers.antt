use Rattle.npf_parser.{specs.Stmt.file, proofs.{LineLemmas.file_advances, ParseLemmas.one_thing}}
use Rattle.npf_parser.proofs.laws.one_tree.Goals as goal

pub returns : goal.returns
returns c = one_thing file file_advances
