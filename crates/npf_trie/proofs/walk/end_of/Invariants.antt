use Rattle.std.proofs.Common.{◌≡◌, ◌+◌, ◌<◌}
use Rattle.npf_cells_holds.specs.LookKinds.{StandsOnPath, level_at}
use Rattle.npf_cells_rule.specs.{Views.with_trie, Passes.IsProtected}
use Rattle.npf_cells.specs.Cells.{IsPassIn}
use Rattle.npf_cells_words.specs.Places.{IsInTrie}
use Rattle.npf_trie.proofs.walk.end_of.Given as goal

-- the pass loaded a node at each level before this one, and stands at this level of the key's path
abbrev pub invariant-loop-level : goal.invariant-loop-level
invariant-loop-level g l = record {
  own : IsPassIn l.cells l.pass;
  protected : IsProtected l.pass.seat.me.0.epochs.pin;
  hashed : l.hash ≡ g.H.KeyHash.digest l.key;
  within : l.level < 95;
  there : IsInTrie l.cells.table.shared.key l.place;
  stands : StandsOnPath g.H.KeyHash.digest l.pass.seat.me.0.trie l.key l.place;
  level_is : level_at l.pass.seat.me.0.trie l.place ≡ l.level;
  walked : l.pass.seat.me ≡ with_trie l.initial.pass.seat.me (record l.initial.pass.seat.me.0.trie {
    stands = l.pass.seat.me.0.trie.stands;
    seen = l.pass.seat.me.0.trie.seen;
    meets = l.pass.seat.me.0.trie.meets;
    places = l.initial.pass.seat.me.0.trie.places + l.level;
  });
}
