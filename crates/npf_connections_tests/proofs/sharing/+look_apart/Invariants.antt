use Rattle.npf_connections_tests.proofs.sharing.+look_apart.Given as goal

abbrev pub decreases-look_apart : goal.decreases-look_apart
decreases-look_apart g l = l.count
