-- A free key is given to a connection whose words of the key and of the incarnation are stored: what every leaf says stays, and the
-- connection's leaf is right from then on.
use Rattle.std.specs.List.{Contains}
use Rattle.std.proofs.Common.{◌≡◌, ◌≢◌, ◌⊎◌, ℕ, ◌<◌, Bool, true, false, cond, Option, Some, None, List, set, refl, sym, ap, ◌∙◌, subst, ⊎_elim, inl, inr}
use mathlib.Core.Option.{some}
use lib.ListN.{get_elem?}
use Rattle.atomic_table.proofs.Lists.{at_set}
use Rattle.npf_types.specs.declared.key.{Key.Key, Way.Way}
use Rattle.npf_core.specs.{declared.{conn_id.ConnId.ConnId, found.Found.Found, stage.Stage.TheVariants.Dead}, Machine.{Machine, stage_of, IsClaimed, is_key}}
use Rattle.npf_core.{specs.NextState.holder_or, proofs.EqualityLemmas.is_key-Decides}
use Rattle.npf_paths.specs.{declared.{cell.Cell.{Cell, TheVariants.{Empty, Leaf, Node, Mark}}, place.Place.Place}, Paths.{AreDigits, IsOnPath}, Places.lock_of}
use Rattle.npf_cells_words.specs.declared.layout.Layout.{Layout}
use Rattle.npf_cells_leaves.specs.declared.trie.{LoadedLeaf.LoadedLeaf, SeenCell.SeenCell, TrieSide.TrieSide}
use Rattle.npf_cells_leaves.specs.Trie.{digits_of, TrieWords, leaf_found, holder_at, IsRightLeaf, StaysLeaf, FitsTrie}
use Rattle.npf_cells_leaves.proofs.TrieLemmas.{KnowsNoMore, are_digits}

-- two keys are one, or their test says that they aren't
pub key_cases : (a b : Key) → (a ≡ b) ⊎ (is_key a b ≡ false)
key_cases a b = by_test (is_key a b) refl
  where
    by_test : (x : Bool) → is_key a b ≡ x → (a ≡ b) ⊎ (is_key a b ≡ false)
    by_test true e = inl ((is_key-Decides a b).0 e)
    by_test false e = inr e

pub keys_apart : (a b : Key) → is_key a b ≡ false → ¬ (a ≡ b)
keys_apart a b e same = let one = (is_key-Decides a b).1 same in absurd cc

-- what holding a free key makes of the machine, where the words of the slot are the key and the incarnation
pub record GivesKey {S : Type 0} (slots : ℕ) (k k' : Machine S) (t t' : TrieWords) (conn : ConnId) (key : Key) (way : Way) : Type 0 where
  pub exists : conn.slot < slots
  pub free : k.holder key ≡ None
  pub holder : (other : Key) → k'.holder other ≡ cond (is_key key other) (holder_or (k.holder other) (record { id = conn; way = way })) (k.holder other)
  pub claimed : (id : ConnId) → IsClaimed (stage_of k id) → IsClaimed (stage_of k' id)
  pub dead : (id : ConnId) → stage_of k id ≡ Dead → stage_of k' id ≡ Dead
  pub keys : (slot : ℕ) (w : Way) → t'.key slot w ≡ t.key slot w
  pub incs : (slot : ℕ) → t'.inc slot ≡ t.inc slot
  pub key_is : t.key conn.slot way ≡ key
  pub inc_is : t.inc conn.slot ≡ conn.inc

module _ {S : Type 0} (digest : Key → ℕ) (slots : ℕ) (k k' : Machine S) (t t' : TrieWords) (conn : ConnId) (key : Key) (way : Way) (gives : GivesKey slots k k' t t' conn key way) where
  abbrev taker : Found
  taker = record { id = conn; way = way }

  one_way : (b : Bool) (x : Option Found) → cond b x x ≡ x
  one_way true x = refl
  one_way false x = refl

  -- a key with a holder keeps it, and one that is another keeps what it has
  pub still_holds : (other : Key) (x : Found) → k.holder other ≡ Some x → k'.holder other ≡ Some x
  still_holds other x e = gives.holder other ∙ (ap (λ h. cond (is_key key other) (holder_or h taker) h) e ∙ one_way (is_key key other) (Some x))

  pub other_holds : (other : Key) → is_key key other ≡ false → k'.holder other ≡ k.holder other
  other_holds other e = gives.holder other ∙ ap (λ b. cond b (holder_or (k.holder other) taker) (k.holder other)) e

  -- a key without one has one then, where it is this
  freed_holds : (other : Key) → k.holder other ≡ None → k'.holder other ≡ cond (is_key key other) (Some taker) None
  freed_holds other e = gives.holder other ∙ ap (λ h. cond (is_key key other) (holder_or h taker) h) e

  pub key_now : t'.key conn.slot way ≡ key
  key_now = gives.keys conn.slot way ∙ gives.key_is

  found_now : leaf_found t' conn.slot way ≡ taker
  found_now = ap (λ inc. record { id = record { slot = conn.slot; inc = inc }; way = way }) (gives.incs conn.slot ∙ gives.inc_is)

  found_same : (slot : ℕ) (w : Way) → leaf_found t' slot w ≡ leaf_found t slot w
  found_same slot w = ap (λ inc. record { id = record { slot = slot; inc = inc }; way = w }) (gives.incs slot)

  -- a right leaf stays right, and the connection's is
  pub right_still : (slot : ℕ) (w : Way) → IsRightLeaf slots k.holder t slot w → IsRightLeaf slots k'.holder t' slot w
  right_still slot w right = record {
    exists = right.exists;
    held = ap k'.holder (gives.keys slot w) ∙ (still_holds (t.key slot w) (leaf_found t slot w) right.held ∙ ap Some (sym (found_same slot w)));
  }

  pub right_now : IsRightLeaf slots k'.holder t' conn.slot way
  right_now = record {
    exists = gives.exists;
    held = ap k'.holder key_now ∙ (freed_holds key gives.free ∙ (ap (λ b. cond b (Some taker) None) ((is_key-Decides key key).1 refl) ∙ ap Some (sym found_now)));
  }

  -- what the end of a path says of a key
  pub said_same : (c : Cell) (other : Key) → holder_at t' c other ≡ holder_at t c other
  said_same Empty other = refl
  said_same (Leaf slot w) other = λ i. cond (is_key (gives.keys slot w i) other) (Some (found_same slot w i)) None
  said_same (Node node) other = refl
  said_same Mark other = refl

  pub said_now : (other : Key) → k.holder other ≡ None → k'.holder other ≡ holder_at t' (Leaf conn.slot way) other
  said_now other e = freed_holds other e ∙ (λ i. cond (is_key (sym key_now i) other) (Some (sym found_now i)) None)

  leaf_still : (leaf : LoadedLeaf) → StaysLeaf slots k t leaf → StaysLeaf slots k' t' leaf
  leaf_still leaf stays = record {
    right = ⊎_elim (λ right. inl (right_still leaf.slot leaf.way right)) (λ dead. inr (gives.dead (record { slot = leaf.slot; inc = leaf.inc }) dead)) stays.right;
    key = gives.keys leaf.slot leaf.way ∙ stays.key;
    inc = gives.incs leaf.slot ∙ stays.inc;
  }

  -- a seat fits still that knows no more, and saw nothing of the place under the place's lock
  pub fits_still : (p : Place) →
      ((digits : ℕ → ℕ) (level : ℕ) (q : Place) → AreDigits digits → IsOnPath digits t.cell level q → IsOnPath digits t'.cell level q) →
      ((digits : ℕ → ℕ) (level : ℕ) (q : Place) → AreDigits digits → IsOnPath digits t.cell level q → q ≢ p → t'.cell q ≡ t.cell q) →
      (side side' : TrieSide) → KnowsNoMore side side' → ((x : SeenCell) → side'.seen ≡ Some x → Contains side.locks (lock_of x.place) → x.place ≢ p) →
      FitsTrie digest slots k t side → FitsTrie digest slots k' t' side'
  fits_still p old elsewhere side side' less apart fits = record {
    stands = λ point e. old (digits_of digest point.key) point.level point.place (are_digits digest point.key) (fits.stands point (less.stands point e));
    leaf = λ leaf e. leaf_still leaf (fits.leaf leaf (less.leaf leaf e));
    seen = λ x e.
        let was = fits.seen x (less.seen x e) in
        record {
          on_path = old (digits_of digest x.key) x.level x.place (are_digits digest x.key) was.on_path;
          locked = λ c real.
              let had = subst (λ locks. Contains locks (lock_of x.place)) less.locks c in
              elsewhere (digits_of digest x.key) x.level x.place (are_digits digest x.key) was.on_path (apart x e had) ∙ was.locked had real;
        };
    claimed = λ id c. gives.claimed id (fits.claimed id (less.answered id c));
  }

module _ {S V : Type 0} (side_of : V → TrieSide) (layout : Layout) where
  pub others-fit : (digest : Key → ℕ) (k : Machine S) (t : TrieWords) (views : List V) (i : ℕ) (w : V) → FitsTrie digest layout.slots k t (side_of w) →
      ((j : ℕ) (v : V) → j ≢ i → get_elem? views j ≡ some v → FitsTrie digest layout.slots k t (side_of v)) →
      (j : ℕ) (v : V) → get_elem? (set views i w) j ≡ some v → FitsTrie digest layout.slots k t (side_of v)
  others-fit digest k t views i w mine theirs j u e = ⊎_elim
      (λ (x : (j ≡ i) × (w ≡ u)). subst (λ (y : V). FitsTrie digest layout.slots k t (side_of y)) x.1 mine)
      (λ (x : (j ≢ i) × (get_elem? views j ≡ some u)). theirs j u x.0 x.1)
      (at_set views i j w u e)
