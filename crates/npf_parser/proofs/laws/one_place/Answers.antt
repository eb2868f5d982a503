use Rattle.npf_parser.{specs.Stmt.file, proofs.{LineLemmas.file_advances, ParseLemmas.one_place}}
use Rattle.npf_parser.proofs.laws.one_place.Goals as goal

pub returns : goal.returns
returns c = one_place file file_advances
