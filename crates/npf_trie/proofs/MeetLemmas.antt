-- What the five words of a leaf's key say of who holds it.
use Rattle.std.proofs.Common.{◌≡◌, ℕ, Bool, true, false, not, Some, List, ◌∷◌, [], length, slice_index, refl, sym, ap, ◌∙◌, arith}
use Rattle.std.proofs.lemmas.Grind.{common_steps, same_number_lists}
use Rattle.atomic_table.specs.Table.{Me}
use Rattle.npf_types.specs.declared.key.{Key.Key, Way.Way}
use Rattle.npf_core.{specs.{declared.found.Found.Found, Machine.is_key}, proofs.EqualityLemmas.is_key-Decides}
use Rattle.npf_cells_rule.specs.{declared.view.CellView.CellView, Views.with_trie}
use Rattle.npf_cells_leaves.specs.declared.trie.LoadedLeaf.{LoadedLeaf}
use Rattle.npf_cells_holds.specs.{HoldKinds.leaf_holder, LookKinds.{ShowsKey, reading, IsLeafOf}}
use Rattle.npf_cells_takes.specs.PrivateKinds.{ShowsLeafInc}

-- the key of five words
abbrev pub key_of : ℕ → ℕ → ℕ → ℕ → ℕ → Key
key_of w0 w1 w2 w3 w4 = record { 0 = w0 ∷ w1 ∷ w2 ∷ w3 ∷ w4 ∷ [] }

-- a key's five words are the key
five_words : (key : Key) (w0 w1 w2 w3 w4 : ℕ) → length key.0 ≡ 5 → w0 ≡ slice_index key.0 0 → w1 ≡ slice_index key.0 1 →
    w2 ≡ slice_index key.0 2 → w3 ≡ slice_index key.0 3 → w4 ≡ slice_index key.0 4 → key_of w0 w1 w2 w3 w4 ≡ key
five_words key w0 w1 w2 w3 w4 five e0 e1 e2 e3 e4 = ap (λ ws. let made : Key = record { 0 = ws } in made) (same_lists key.0 five e0 e1 e2 e3 e4)
  where
    same_lists : (ws : List ℕ) → length ws ≡ 5 → w0 ≡ slice_index ws 0 → w1 ≡ slice_index ws 1 → w2 ≡ slice_index ws 2 →
        w3 ≡ slice_index ws 3 → w4 ≡ slice_index ws 4 → w0 ∷ w1 ∷ w2 ∷ w3 ∷ w4 ∷ [] ≡ ws
    same_lists ws n a b c d e = same_number_lists (w0 ∷ w1 ∷ w2 ∷ w3 ∷ w4 ∷ []) ws (sym n) (λ k inside. grind (arith, common_steps))

-- two keys whose test says that they differ, or that they are the same
pub keys_differ : (a b : Key) (ne : Bool) → ne ≡ true → ne ≡ not (is_key a b) → a ≡ b → ⊥
keys_differ a b ne is said same = let e = (is_key-Decides a b).1 same in let x : true ≡ not true = sym is ∙ (said ∙ ap not e) in absurd cc

pub keys_agree : (a b : Key) (ne : Bool) → ne ≡ false → ne ≡ not (is_key a b) → a ≡ b
keys_agree a b ne is said = (is_key-Decides a b).0 (turned (is_key a b) (sym said ∙ is))
  where
    turned : (t : Bool) → not t ≡ false → t ≡ true
    turned true e = refl
    turned false e = absurd cc

module _ {S A R F : Type 0} where
  leaf_stays : (old now : Me F (CellView S A R)) → now ≡ with_trie old (reading old.0.trie) → now.0.trie.leaf ≡ old.0.trie.leaf
  leaf_stays old now read = ap (λ (y : Me F (CellView S A R)). y.0.trie.leaf) read

  -- five loads of words show the leaf's key, and that it is still the one that the pass loaded last
  pub record ReadsLeaf (slot : ℕ) (way : Way) (leaf : LoadedLeaf) (key : Key) (now : Me F (CellView S A R)) : Type 0 where
    pub key_is : key ≡ leaf.key
    pub known : now.0.trie.leaf ≡ Some leaf
    pub there : leaf.slot ≡ slot
    pub so : leaf.way ≡ way

  pub five_read : (m0 m1 m2 m3 m4 m5 : Me F (CellView S A R)) (slot : ℕ) (way : Way) (w0 w1 w2 w3 w4 : ℕ) (leaf : LoadedLeaf) →
      m1 ≡ with_trie m0 (reading m0.0.trie) → m2 ≡ with_trie m1 (reading m1.0.trie) → m3 ≡ with_trie m2 (reading m2.0.trie) →
      m4 ≡ with_trie m3 (reading m3.0.trie) → m5 ≡ with_trie m4 (reading m4.0.trie) →
      ShowsKey m0.0.trie slot way 0 w0 → ShowsKey m1.0.trie slot way 1 w1 → ShowsKey m2.0.trie slot way 2 w2 → ShowsKey m3.0.trie slot way 3 w3 → ShowsKey m4.0.trie slot way 4 w4 →
      IsLeafOf m0.0.trie slot way → m0.0.trie.leaf ≡ Some leaf → length leaf.key.0 ≡ 5 → ReadsLeaf slot way leaf (key_of w0 w1 w2 w3 w4) m5
  five_read m0 m1 m2 m3 m4 m5 slot way w0 w1 w2 w3 w4 leaf r1 r2 r3 r4 r5 s0 s1 s2 s3 s4 of known five =
      let is : of.0 ≡ leaf = let e : Some of.0 ≡ Some leaf = sym of.1 ∙ known in cc in
      let there : leaf.slot ≡ slot = sym (ap (λ (x : LoadedLeaf). x.slot) is) ∙ of.2 in
      let so : leaf.way ≡ way = sym (ap (λ (x : LoadedLeaf). x.way) is) ∙ of.3 in
      let k1 = leaf_stays m0 m1 r1 ∙ known in
      let k2 = leaf_stays m1 m2 r2 ∙ k1 in
      let k3 = leaf_stays m2 m3 r3 ∙ k2 in
      let k4 = leaf_stays m3 m4 r4 ∙ k3 in
      record {
        key_is = five_words leaf.key w0 w1 w2 w3 w4 five (s0 leaf known there so) (s1 leaf k1 there so) (s2 leaf k2 there so) (s3 leaf k3 there so) (s4 leaf k4 there so);
        known = leaf_stays m4 m5 r5 ∙ k4;
        there = there;
        so = so;
      }

  -- its incarnation then names who holds the key
  pub holder_read : (slot inc : ℕ) (way : Way) (leaf : LoadedLeaf) (key : Key) (now : Me F (CellView S A R)) → ReadsLeaf slot way leaf key now → ShowsLeafInc now.0.trie slot inc →
      (let found : Found = record { id = record { slot = slot; inc = inc }; way = way } in found) ≡ leaf_holder leaf
  holder_read slot inc way leaf key now read shows = let inc_is = shows leaf read.known read.there in λ i. record { id = record { slot = sym read.there i; inc = inc_is i }; way = sym read.so i }
