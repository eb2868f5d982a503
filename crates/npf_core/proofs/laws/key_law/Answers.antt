use Rattle.npf_core.proofs.KeyLemmas.{keeps_keys, shares_no_key, was_given, stays_holder}
use Rattle.npf_core.proofs.laws.key_law.Goals as goal

pub returns-clause-kept : goal.returns-clause-kept
returns-clause-kept g c = λ slots. keeps_keys g.L.Law.meaning slots

pub returns-clause-alone : goal.returns-clause-alone
returns-clause-alone g c = λ slots. shares_no_key g.L.Law.meaning slots

pub returns-clause-given : goal.returns-clause-given
returns-clause-given g c = λ slots. was_given g.L.Law.meaning slots

pub returns-clause-stays : goal.returns-clause-stays
returns-clause-stays g c = λ slots. stays_holder g.L.Law.meaning slots
