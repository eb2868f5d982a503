use Rattle.std.proofs.Common.{ap, ◌∙◌}
use Rattle.npf_types.specs.declared.key.Way.TheVariants.{Forward}
use Rattle.npf_cells_leaves.specs.declared.trie.TrieSide.{TrieSide}
use Rattle.npf_cells_rule.specs.Views.{DeadHand}
use Rattle.npf_trie_bench.proofs.filling.hold_next.Goals as goal

pub hold-requires-clause-can : goal.hold-requires-clause-can
hold-requires-clause-can g c = record {
  may = c.in-Some.ensures.begun.may Forward;
  exists = c.in-Some.ensures.begun.exists;
  stored = c.in-Some.ensures.begun.stored;
  nodes = c.in-Some.ensures.keeps.nodes ∙ c.requires.nodes;
  unfreed = ap (λ (hand : DeadHand). hand.unfreed) c.in-Some.ensures.keeps.dead ∙ c.requires.unfreed;
  locks = ap (λ (side : TrieSide). side.locks) c.in-Some.ensures.keeps.trie ∙ c.requires.locks;
  turnless = c.in-Some.ensures.keeps.turn ∙ c.requires.turn;
}
