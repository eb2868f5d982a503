-- What a look changes in a pass's own view, and what it tells.
use Rattle.std.specs.Prelude.{◌≡◌, ℕ, ◌+◌, ◌≤◌, Option, Some, [], ◌∷◌, ◌++◌, length}
use Rattle.atomic_table.specs.Table.{Me}
use Rattle.npf_types.specs.declared.key.Key.{Key}
use Rattle.npf_core.specs.declared.act.Act.TheVariants.{Look}
use Rattle.npf_core.specs.declared.found.Found.{Found}
use Rattle.npf_core.specs.declared.reply.Reply.TheVariants.{ToLook}
use Rattle.npf_core.specs.Meaning.{Meaning}
use Rattle.npf_connections.specs.Adding.{AddsOwn}
use Rattle.npf_connections.specs.Answered.{found_ids}
use Rattle.npf_connections.specs.Entries.{entry_of}
use Rattle.npf_connections.specs.Pass.{IsPass}
use Rattle.npf_paths.specs.declared.cell.Cell.{Cell}
use Rattle.npf_cells_rule.specs.declared.view.CellView.{CellView}
use Rattle.npf_cells_leaves.specs.declared.trie.LoadedLeaf.{LoadedLeaf}
use Rattle.npf_cells_leaves.specs.declared.trie.TrieSide.{TrieSide}
use Rattle.npf_cells_holds.specs.LookKinds.{TellsHolder, holder_by}
use Rattle.npf_cells_rule.specs.Views.{with_trie}
use Rattle.npf_cells_rule.specs.Passes.{cell_pass}

-- a count rose by no more than this
pub record RoseBy (most old now : ℕ) : Type 0 where
  pub grew : old ≤ now
  pub within : now ≤ old + most

-- the pass after a look: it has seen more of the history, knows other words of the trie, and was answered this
abbrev pub having_looked : {S A R : Type 0} → CellView S A R → CellView S A R → Option Found → CellView S A R
having_looked old now found = record old {
  seats = record old.seats { history = now.seats.history };
  trie = record now.trie { locks = old.trie.locks; answered = found_ids found ++ old.trie.answered; published = old.trie.published };
}

-- the pass got no lock: it has those that it had, and knows still what it found under them, which it forgets whenever it frees one
pub record GetsNoLock (old now : TrieSide) : Type 0 where
  pub locks : now.locks ≡ old.locks
  pub emptied : now.emptied ≡ old.emptied
  pub met_mark : now.met_mark ≡ old.met_mark

-- the look for the key, for this packet, is the pass's one new entry and ends its history, with what was found as reply
pub record LooksUpKey {S A R F : Type 0} (m : Meaning S A R) (n : ℕ) (key : Key) (found : Option Found) (old now : Me F (CellView S A R)) : Type 0 where
  pub adds : AddsOwn (cell_pass old.0) now.0.seats.history (entry_of (cell_pass old.0) (Look n key) (ToLook found) ∷ [])
  pub legal : IsPass m (cell_pass now.0)
  pub is : now ≡ (having_looked old.0 now.0 found, old.1)

-- the pass walked to the end of the key's path, where it found this cell: the load of it is the look, and it loaded no words of keys
pub record ComesToEnd {S A R F : Type 0} (m : Meaning S A R) (n : ℕ) (key : Key) (cell : Cell) (old now : Me F (CellView S A R)) : Type 0 where
  pub found : Option Found
  pub looks : LooksUpKey m n key found old now
  pub tells : TellsHolder cell key found old.0.trie.leaf now.0.trie.leaf
  pub places : RoseBy 95 old.0.trie.places now.0.trie.places
  pub words : now.0.trie.words ≡ old.0.trie.words

-- the pass loaded at most so many words of keys, and nothing else that changes its view
pub record ComparesWords {S A R F : Type 0} (most : ℕ) (old now : Me F (CellView S A R)) : Type 0 where
  pub is : now ≡ with_trie old (record old.0.trie { words = now.0.trie.words })
  pub words : RoseBy most old.0.trie.words now.0.trie.words

-- what was found is what the leaf says of the key's holder
abbrev pub NamesHolder : Option LoadedLeaf → Key → Option Found → Type 0
NamesHolder known key found = (leaf : LoadedLeaf) → known ≡ Some leaf → length leaf.key.0 ≡ 5 → found ≡ holder_by leaf key
