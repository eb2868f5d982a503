-- The trie where the leaf of a key's new holder fills the place at which the key's path ends.
use Rattle.std.{proofs.Common.{◌≡◌, ◌≢◌, ℕ, false, None, List, sym, ap, ◌∙◌, subst, ⊎_elim}, specs.List.Contains}
use mathlib.Core.Option.{some}
use lib.ListN.{get_elem?}
use Rattle.npf_types.specs.declared.key.{Key.Key, Way.Way}
use Rattle.npf_core.specs.{declared.conn_id.ConnId.ConnId, Machine.{Machine, is_key}}
use Rattle.npf_paths.specs.{declared.{cell.Cell.TheVariants.{Empty, Leaf, Node}, place.Place.Place}, FillingLaw.FillsPlace}
use Rattle.npf_paths.{specs.Paths.{AreDigits, IsOnPath, IsEnd, EndsAt}, proofs.FillingLemmas.{same_or_apart, filled_back, filled_places, filled_ends}}
use Rattle.npf_paths.proofs.{LevelLemmas.filled_levels, PathLemmas.one_end}
use Rattle.npf_cells_words.specs.declared.layout.Layout.{Layout}
use Rattle.npf_cells_leaves.specs.{declared.trie.TrieSide.TrieSide, Parents.Parents}
use Rattle.npf_cells_leaves.specs.Trie.{digits_of, TrieWords, trie_words, holder_at, IsRightLeaf, IsRightNode, FitsTrie, IsHung, Trie}
use Rattle.npf_cells_leaves.proofs.GivenLemmas.{key_cases, GivesKey, other_holds, right_still, right_now, said_same, said_now, key_now}
use Rattle.npf_cells_leaves.proofs.TrieLemmas.{are_digits, CountsSame, counted_still}

-- the leaf fills an empty place of the key's path
pub record FillsFor (digest : Key → ℕ) (t t' : TrieWords) (slot : ℕ) (key : Key) (way : Way) (p : Place) (level : ℕ) : Type 0 where
  pub on_path : IsOnPath (digits_of digest key) t.cell level p
  pub empty : t.cell p ≡ Empty
  pub filled : t'.cell p ≡ Leaf slot way
  pub others : (q : Place) → q ≢ p → t'.cell q ≡ t.cell q
  pub parents : (node : ℕ) → t'.parent node ≡ t.parent node

pub fills_place : (digest : Key → ℕ) (t t' : TrieWords) (slot : ℕ) (key : Key) (way : Way) (p : Place) (level : ℕ) → FillsFor digest t t' slot key way p level → FillsPlace t.cell t'.cell p
fills_place digest t t' slot key way p level fills = record { was_end = subst IsEnd (sym fills.empty) tt; ends_now = subst IsEnd (sym fills.filled) tt; others = fills.others }

module _ {S V : Type 0} (side_of : V → TrieSide) (digest : Key → ℕ) (layout : Layout) (published : List ℕ) (k k' : Machine S)
    (words words' : List ℕ) (views views' : List V) (conn : ConnId) (key : Key) (way : Way) (p : Place) (level : ℕ) where
  abbrev t : TrieWords
  t = trie_words layout words

  abbrev t' : TrieWords
  t' = trie_words layout words'

  module _ (kept : Trie side_of digest layout published k words views) (gives : GivesKey layout.slots k k' t t' conn key way) (fills : FillsFor digest t t' conn.slot key way p level) where
    abbrev changed : FillsPlace t.cell t'.cell p
    changed = fills_place digest t t' conn.slot key way p level fills

    before : (digits : ℕ → ℕ) (l : ℕ) (q : Place) → IsOnPath digits t'.cell l q → IsOnPath digits t.cell l q
    before digits l q on = filled_places (filled_back changed) on

    ends : (other : Key) (l : ℕ) (q : Place) → EndsAt (digits_of digest other) t'.cell l q → k'.holder other ≡ holder_at t' (t'.cell q) other
    ends other l q end = ⊎_elim
        (λ (e : q ≡ p).
        let free : k.holder other ≡ None = kept.ends other l q was ∙ ap (λ c. holder_at t c other) (ap t.cell e ∙ fills.empty) in
        said_now digest layout.slots k k' t t' conn key way gives other free ∙ ap (λ c. holder_at t' c other) (sym (ap t'.cell e ∙ fills.filled)))
        (λ (ne : q ≢ p).
        other_holds digest layout.slots k k' t t' conn key way gives other (apart ne)
        ∙ (kept.ends other l q was ∙ (ap (λ c. holder_at t c other) (sym (fills.others q ne)) ∙ sym (said_same digest layout.slots k k' t t' conn key way gives (t'.cell q) other))))
        (same_or_apart q p)
      where
        was : EndsAt (digits_of digest other) t.cell l q
        was = filled_ends (filled_back changed) end

        -- the key's own path ends there
        apart : q ≢ p → is_key key other ≡ false
        apart ne = ⊎_elim
            (λ (same : key ≡ other). absurd (ne (one_end (subst (λ x. EndsAt (digits_of digest x) t.cell l q) (sym same) was) (record { on_path = fills.on_path; is_end = changed.was_end })).1))
            (λ differ. differ)
            (key_cases key other)

    leaves : (digits : ℕ → ℕ) (l : ℕ) (q : Place) (slot : ℕ) (w : Way) → AreDigits digits → IsOnPath digits t'.cell l q → t'.cell q ≡ Leaf slot w → IsRightLeaf layout.slots k'.holder t' slot w
    leaves digits l q slot w are on is = ⊎_elim
        (λ (e : q ≡ p).
        let leaf : Leaf conn.slot way ≡ Leaf slot w = sym fills.filled ∙ (ap t'.cell (sym e) ∙ is) in
        let slots : conn.slot ≡ slot = cc in
        let ways : way ≡ w = cc in
        subst (λ (y : ℕ × Way). IsRightLeaf layout.slots k'.holder t' y.0 y.1) (λ i. (slots i, ways i)) (right_now digest layout.slots k k' t t' conn key way gives))
        (λ (ne : q ≢ p). right_still digest layout.slots k k' t t' conn key way gives slot w (kept.leaves digits l q slot w are (before digits l q on) (sym (fills.others q ne) ∙ is)))
        (same_or_apart q p)

    nodes : (digits : ℕ → ℕ) (l : ℕ) (q : Place) (node : ℕ) → AreDigits digits → IsOnPath digits t'.cell l q → t'.cell q ≡ Node node → IsRightNode layout.nodes published l node
    nodes digits l q node are on is = ⊎_elim
        (λ (e : q ≡ p). let clash : Leaf conn.slot way ≡ Node node = sym fills.filled ∙ (ap t'.cell (sym e) ∙ is) in absurd cc)
        (λ (ne : q ≢ p). kept.nodes digits l q node are (before digits l q on) (sym (fills.others q ne) ∙ is))
        (same_or_apart q p)

    homes : (digits : ℕ → ℕ) (l : ℕ) (q : Place) (slot : ℕ) (w : Way) → AreDigits digits → IsOnPath digits t'.cell l q →
        t'.cell q ≡ Leaf slot w → IsOnPath (digits_of digest (t'.key slot w)) t'.cell l q
    homes digits l q slot w are on is = ⊎_elim
        (λ (e : q ≡ p).
        let leaf : Leaf conn.slot way ≡ Leaf slot w = sym fills.filled ∙ (ap t'.cell (sym e) ∙ is) in
        let slots : conn.slot ≡ slot = cc in
        let ways : way ≡ w = cc in
        let keys : t'.key slot w ≡ key = (λ i. t'.key (sym slots i) (sym ways i)) ∙ key_now digest layout.slots k k' t t' conn key way gives in
        let levels : level ≡ l = kept.levels (digits_of digest key) digits level l p (are_digits digest key) are fills.on_path (subst (λ x. IsOnPath digits t.cell l x) e (before digits l q on)) in
        subst (λ (y : Key × ℕ × Place). IsOnPath (digits_of digest y.0) t'.cell y.1 y.2) (λ i. (sym keys i, levels i, sym e i)) (filled_places changed fills.on_path))
        (λ (ne : q ≢ p).
        let home = kept.homes digits l q slot w are (before digits l q on) (sym (fills.others q ne) ∙ is) in
        subst (λ x. IsOnPath (digits_of digest x) t'.cell l q) (sym (gives.keys slot w)) (filled_places changed home))
        (same_or_apart q p)

    parents : Parents t'.cell t'.parent
    parents digits l q node are on is = ⊎_elim
        (λ (e : q ≡ p). let clash : Leaf conn.slot way ≡ Node node = sym fills.filled ∙ (ap t'.cell (sym e) ∙ is) in absurd cc)
        (λ (ne : q ≢ p). fills.parents node ∙ kept.parents digits l q node are (before digits l q on) (sym (fills.others q ne) ∙ is))
        (same_or_apart q p)

    hang : (node : ℕ) → Contains published node → IsHung t'.cell node
    hang node c =
        let h = kept.hang node c in
        let ne : h.place ≢ p = (λ e. let clash : Empty ≡ Node node = sym fills.empty ∙ (ap t.cell (sym e) ∙ h.there) in cc) in
        record { digits = h.digits; are = h.are; level = h.level; place = h.place; on_path = filled_places changed h.on_path; there = fills.others h.place ne ∙ h.there }

    pub trie_filled : CountsSame side_of views views' → ((j : ℕ) (v : V) → get_elem? views' j ≡ some v → FitsTrie digest layout.slots k' t' (side_of v)) →
        Trie side_of digest layout published k' words' views'
    trie_filled sums each = record {
      ends = ends;
      leaves = leaves;
      nodes = nodes;
      homes = homes;
      levels = filled_levels changed kept.levels;
      parents = parents;
      hang = hang;
      counted = counted_still side_of published views views' kept.counted sums;
      each = each;
    }
