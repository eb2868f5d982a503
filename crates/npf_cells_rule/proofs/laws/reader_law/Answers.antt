use Rattle.npf_cells_rule.proofs.ReaderLemmas.{stand_apart}
use Rattle.npf_cells_rule.proofs.laws.reader_law.Goals as goal

pub returns : goal.returns
returns c = stand_apart
