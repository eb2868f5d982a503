use Rattle.std.proofs.Common.{ap, ◌∙◌}
use Rattle.npf_types.specs.declared.key.Way.TheVariants.{Forward}
use Rattle.npf_cells_rule.specs.Views.{DeadHand}
use Rattle.npf_cells_leaves.specs.declared.trie.TrieSide.{TrieSide}
use Rattle.npf_trie_tests.proofs.holders.open.Goals as goal

pub hold-held-requires-clause-can : goal.hold-held-requires-clause-can
hold-held-requires-clause-can g c = record {
  may = c.in_ok-id.ensures.begun.may Forward;
  exists = c.in_ok-id.ensures.begun.exists;
  stored = c.in_ok-id.ensures.begun.stored;
  nodes = c.in_ok-id.ensures.keeps.nodes ∙ c.requires.hands.nodes;
  unfreed = ap (λ (hand : DeadHand). hand.unfreed) c.in_ok-id.ensures.keeps.dead ∙ c.requires.hands.unfreed;
  locks = ap (λ (side : TrieSide). side.locks) c.in_ok-id.ensures.keeps.trie ∙ c.requires.hands.locks;
  turnless = c.in_ok-id.ensures.keeps.turn ∙ c.requires.hands.turn;
}
