use Rattle.npf_trie_tests.proofs.FoundLemmas.{knows_found}
use Rattle.npf_trie_tests.proofs.turning.step_by.Goals as goal

pub step_found-requires-clause-known : goal.step_found-requires-clause-known
step_found-requires-clause-known g c = knows_found _ _ _ c.in_ok-found.found _ _ c.in_ok-found.ensures.looks
