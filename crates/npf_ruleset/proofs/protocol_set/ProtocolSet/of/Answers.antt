use Rattle.npf_ruleset.proofs.RowLemmas.{all_bits}
use Rattle.npf_ruleset.proofs.protocol_set.ProtocolSet.of.Goals as goal

pub returns-then-is_empty : goal.returns-then-is_empty
returns-then-is_empty c = λ proto fits. all_bits proto
