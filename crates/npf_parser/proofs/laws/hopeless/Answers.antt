use Rattle.npf_parser.{specs.Stmt.file, proofs.{FineLemmas.{file_fine, file_ends}, LineLemmas.file_advances, ParseLemmas.stops_there}}
use Rattle.npf_parser.proofs.laws.hopeless.Goals as goal

pub returns : goal.returns
returns c = stops_there file file_advances file_fine file_ends
