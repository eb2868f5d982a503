use Rattle.npf_rewrite.proofs.LengthLemmas.{normalised_lengths_lem, sent_lengths_lem, translated_lengths_lem}
use Rattle.npf_rewrite.proofs.laws.sent_keeps_lengths.Goals as goal

pub returns-clause-translated : goal.returns-clause-translated
returns-clause-translated c = translated_lengths_lem

pub returns-clause-normalised : goal.returns-clause-normalised
returns-clause-normalised c = normalised_lengths_lem

pub returns-clause-sent : goal.returns-clause-sent
returns-clause-sent c = sent_lengths_lem
