use Rattle.npf_trie_tests.proofs.FoundLemmas.{knows_found}
use Rattle.npf_trie_tests.proofs.reader.tell_last_reader.Goals as goal

pub step_found-stepped-requires-clause-known : goal.step_found-stepped-requires-clause-known
step_found-stepped-requires-clause-known g c = knows_found _ _ _ c.in-Some.found _ _ c.in-Some.ensures.looks
