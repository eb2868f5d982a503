-- A leaf whose key has the words of the key that was looked for, and the look's reply.
use Rattle.std.proofs.Common.{◌≡◌, ℕ, ◌<◌, ◌∷◌, [], cond, Option, Some, None, length, slice_index, refl, sym, ap, ◌∙◌, subst, arith}
use Rattle.std.proofs.lemmas.Grind.{same_number_lists}
use Rattle.atomic_table.specs.Table.{Me}
use Rattle.npf_types.specs.declared.key.{Key.Key, Way.Way}
use Rattle.npf_core.specs.{declared.{act.Act.TheVariants.Look, found.Found.Found, reply.Reply.TheVariants.ToLook}, Meaning.Meaning}
use Rattle.npf_core.proofs.EqualityLemmas.{is_key-Decides}
use Rattle.npf_connections.specs.{Adding.AddsOwn, Entries.entry_of, Pass.IsPass}
use Rattle.npf_paths.specs.declared.cell.Cell.TheVariants.{Leaf}
use Rattle.npf_cells_rule.specs.{declared.view.CellView.CellView, Views.with_trie, Passes.cell_pass}
use Rattle.npf_cells_leaves.specs.declared.trie.LoadedLeaf.{LoadedLeaf}
use Rattle.npf_cells_holds.specs.LookKinds.{holder_by}
use Rattle.npf_trie.specs.LookUp.{having_looked, LooksUpKey, ComesToEnd, ComparesWords, NamesHolder}

-- the connection of a leaf
abbrev pub found_in : LoadedLeaf → Option Found
found_in leaf = Some (record { id = record { slot = leaf.slot; inc = leaf.inc }; way = leaf.way })

-- where all five words agree, the leaf's connection holds the key
pub same_words : (leaf : LoadedLeaf) (key : Key) → length leaf.key.0 ≡ 5 → length key.0 ≡ 5 → ((k : ℕ) → k < 5 → slice_index leaf.key.0 k ≡ slice_index key.0 k) → found_in leaf ≡ holder_by leaf key
same_words leaf key five five' same =
    let words : leaf.key.0 ≡ key.0 = same_number_lists leaf.key.0 key.0 (five ∙ sym five') (λ k inside. same k (omega (arith, five, inside))) in
    let keys : leaf.key ≡ key = ap (λ ws. let made : Key = record { 0 = ws } in made) words in
    ap (λ b. cond b (found_in leaf) None) (sym ((is_key-Decides leaf.key key).1 keys))

module _ {S A R F : Type 0} where
  -- loads of key words leave the look as it is
  look_stays : (m : Meaning S A R) (n : ℕ) (key : Key) (found : Option Found) (old now next : Me F (CellView S A R)) →
      LooksUpKey m n key found old now → ComparesWords 5 now next → LooksUpKey m n key found old next
  look_stays m n key found old now next so compares =
      let words : ℕ = next.0.trie.words in
      let read = compares.is ∙ ap (λ (y : Me F (CellView S A R)). with_trie y (record y.0.trie { words = words })) so.is in
      record {
        adds = subst (λ (y : Me F (CellView S A R)). AddsOwn (cell_pass old.0) y.0.seats.history (entry_of (cell_pass old.0) (Look n key) (ToLook found) ∷ [])) (sym compares.is) so.adds;
        legal = subst (λ (y : Me F (CellView S A R)). IsPass m (cell_pass y.0)) (sym compares.is) so.legal;
        is = subst (λ (y : Me F (CellView S A R)). y ≡ (having_looked old.0 y.0 found, old.1)) (sym read) refl;
      }

  -- the walk's reply is what was found by the leaf's words
  pub leaf_answers : (m : Meaning S A R) (n slot : ℕ) (way : Way) (key : Key) (found : Option Found) (old now next : Me F (CellView S A R)) → ComesToEnd m n key (Leaf slot way) old now →
      ComparesWords 5 now next → NamesHolder now.0.trie.leaf key found → LooksUpKey m n key found old next
  leaf_answers m n slot way key found old now next came compares names =
      look_stays m n key found old now next (subst (λ f. LooksUpKey m n key f old now) (came.tells.3 ∙ sym (names came.tells.0 came.tells.1 came.tells.2.five)) came.looks) compares
