use Rattle.std.proofs.Common.{length}
use Rattle.npf_trie.proofs.branch.+build_branch.Given as goal

abbrev pub decreases-build_branch : goal.decreases-build_branch
decreases-build_branch g l = length l.nodes.now
