use Rattle.npf_trie_tests.proofs.growing.wait_for.Given as goal

-- it goes on for as long as it waits
abbrev pub invariant-loop : goal.invariant-loop
invariant-loop g l = record {
  next : (goal.iterator-loop g).can_next l.iterator';
  finite : (goal.iterator-loop g).is_finite l.iterator';
}
