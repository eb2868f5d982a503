-- The trie where an emptied node is taken off, in which nobody is.
use Rattle.std.specs.List.{Contains}
use Rattle.std.proofs.Common.{◌≡◌, ◌≢◌, ℕ, ◌+◌, Bool, true, false, cond, eqb, Some, None, List, [], ◌∷◌, length, refl, sym, ap, ◌∙◌, subst, ⊎_elim, inl, inr, arith}
use Rattle.std.proofs.lemmas.Bool.{cases_eq}
use mathlib.Core.Option.{some}
use lib.ListN.{get_elem?}
use Rattle.npf_types.specs.declared.key.{Key.Key, Way.Way}
use Rattle.npf_core.specs.Machine.{Machine, is_key}
use Rattle.npf_paths.specs.{declared.{cell.Cell.{Cell, TheVariants.{Empty, Leaf, Node, Mark}}, place.Place.Place}, Paths.{AreDigits, IsOnPath, EndsAt}}
use Rattle.npf_paths.specs.Places.{lock_of}
use Rattle.npf_paths_pruning.specs.PruningLaw.{HangsThereAlone, IsPrunedPlace, IsPlaceLeft, IsEndLeft, PathsAfterPruning, IsEndLeft.{end_left, end_pruned}}
use Rattle.npf_paths_pruning.{specs.PruningLaw.IsPlaceLeft.{place_left, place_pruned}, proofs.PruningLemmas.{pruning_told, pruned_levels}}
use Rattle.npf_cells_words.{specs.{declared.layout.Layout.Layout, Places.IsPlaceIn}, proofs.CodeLemmas.codes_are_apart}
use Rattle.npf_seats.{specs.Sums.{others_than, occurs}, proofs.ListLemmas.{one_where, occurs-cons, left_same, left_others, occurs_or, stands_once}}
use Rattle.npf_cells_leaves.specs.{declared.trie.{LoadedLeaf.LoadedLeaf, TrieSide.TrieSide}, Parents.Parents}
use Rattle.npf_cells_leaves.specs.Trie.{digits_of, TrieWords, trie_words, leaf_found, holder_at, IsRightLeaf, IsRightNode, StaysLeaf, FitsTrie, IsHung, all_grown, all_regained, Trie}
use Rattle.npf_cells_leaves.{specs.TakingOff.{TakesNodeOff, StaysOutside, TakingOffKeepsTrie}, proofs.{ParentLemmas.stands_in_trie, TrieLemmas.are_digits}}

-- whoever is among the others is among all, and is another
pub other_listed : (node : ℕ) (published : List ℕ) (x : ℕ) → Contains (others_than node published) x → Contains published x × (x ≢ node)
other_listed node published x c = ⊎_elim
    (λ (same : x ≡ node).
    let none = left_same node published in
    let one = stands_once x (others_than node published) c in
    let here = ap (λ n. occurs n (others_than node published)) same in
    absurd (omega (arith, none, one, here)))
    (λ (ne : x ≢ node). ⊎_elim
    (λ (none : occurs x published ≡ 0).
    let left = left_others node x published ne in
    let one = stands_once x (others_than node published) c in
    absurd (omega (arith, none, left, one)))
    (λ listed. (listed, ne))
    (occurs_or x published))
    (cases_eq x node)

pub still_listed : (node : ℕ) (published : List ℕ) (x : ℕ) → Contains published x → x ≢ node → Contains (others_than node published) x
still_listed node published x c ne = ⊎_elim
    (λ (none : occurs x (others_than node published) ≡ 0).
    let left = left_others node x published ne in
    let one = stands_once x published c in
    absurd (omega (arith, none, left, one)))
    (λ listed. listed)
    (occurs_or x (others_than node published))

-- there is one less, where it was listed once
others_count : (node : ℕ) (xs : List ℕ) → length (others_than node xs) + occurs node xs ≡ length xs
others_count node [] = refl
others_count node (x ∷ xs) = by_test (others_count node xs) (eqb x node) refl
  where
    by_test : length (others_than node xs) + occurs node xs ≡ length xs → (b : Bool) → eqb x node ≡ b →
        length (cond (cond b false true) (x ∷ others_than node xs) (others_than node xs)) + occurs node (x ∷ xs) ≡ length (x ∷ xs)
    by_test rest true e = let more = occurs-cons node x xs in let one : one_where (eqb x node) ≡ 1 = ap one_where e in omega (arith, rest, more, one)
    by_test rest false e = let more = occurs-cons node x xs in let none : one_where (eqb x node) ≡ 0 = ap one_where e in omega (arith, rest, more, none)

module _ {S V : Type 0} (side_of : V → TrieSide) (digest : Key → ℕ) (layout : Layout) (published : List ℕ) (k : Machine S) (words words' : List ℕ) (views : List V) (p : Place) (node : ℕ) where
  abbrev t : TrieWords
  t = trie_words layout words

  abbrev t' : TrieWords
  t' = trie_words layout words'

  module _ (kept : Trie side_of digest layout published k words views) (off : TakesNodeOff t t' p node) where
    told : PathsAfterPruning t.cell t'.cell p node
    told = pruning_told t.cell t'.cell p node off.prunes

    -- the node hung there alone
    alone : HangsThereAlone t.cell p node
    alone digits level q are on is = codes_are_apart layout q p (stands_in_trie layout words q node is) (stands_in_trie layout words p node off.prunes.hung)
        (sym (kept.parents digits level q node are on is) ∙ off.names)

    -- nothing stood in its places
    bare : (digits : ℕ → ℕ) (level : ℕ) (q : Place) → AreDigits digits → IsPrunedPlace digits t'.cell p node level q → t.cell q ≡ Empty
    bare digits level q are within =
        let below = within.below in
        ap t.cell within.is ∙ off.prunes.emptied (digits level) (are.node level (omega (arith, below)))

    -- a place that isn't bare is met still
    met_still : (digits : ℕ → ℕ) (level : ℕ) (q : Place) → AreDigits digits → IsOnPath digits t.cell level q → t.cell q ≢ Empty → IsOnPath digits t'.cell level q
    met_still digits level q are on full = by_place (told.old_places digits level q are on)
      where
        by_place : IsPlaceLeft digits t'.cell p node level q → IsOnPath digits t'.cell level q
        by_place (place_left on') = on'
        by_place (place_pruned within) = absurd (full (bare digits level q are within))

    -- what stands in a place then stood there before, and in another place
    full_apart : (q : Place) (c : Cell) → c ≢ Empty → t'.cell q ≡ c → q ≢ p
    full_apart q c full is e = full (sym is ∙ (ap t'.cell e ∙ off.emptied))

    before : (q : Place) (c : Cell) → c ≢ Empty → t'.cell q ≡ c → t.cell q ≡ c
    before q c full is = sym (off.prunes.others q (full_apart q c full is)) ∙ is

    said_same : (c : Cell) (key : Key) → holder_at t' c key ≡ holder_at t c key
    said_same Empty key = refl
    said_same (Leaf slot w) key = λ i. cond (is_key (off.keys slot w i) key) (Some (record { id = record { slot = slot; inc = off.incs slot i }; way = w })) None
    said_same (Node n) key = refl
    said_same Mark key = refl

    found_same : (slot : ℕ) (w : Way) → leaf_found t' slot w ≡ leaf_found t slot w
    found_same slot w = ap (λ inc. record { id = record { slot = slot; inc = inc }; way = w }) (off.incs slot)

    right_still : (slot : ℕ) (w : Way) → IsRightLeaf layout.slots k.holder t slot w → IsRightLeaf layout.slots k.holder t' slot w
    right_still slot w right = record { exists = right.exists; held = ap k.holder (off.keys slot w) ∙ (right.held ∙ ap Some (sym (found_same slot w))) }

    pub ends : (key : Key) (l : ℕ) (q : Place) → EndsAt (digits_of digest key) t'.cell l q → k.holder key ≡ holder_at t' (t'.cell q) key
    ends key l q end = by_end (told.ends (digits_of digest key) l q (are_digits digest key) end)
      where
        by_end : IsEndLeft (digits_of digest key) t.cell t'.cell p node l q → k.holder key ≡ holder_at t' (t'.cell q) key
        by_end (end_left was ne same) = kept.ends key l q was ∙ (ap (λ c. holder_at t c key) (sym same) ∙ sym (said_same (t'.cell q) key))
        by_end (end_pruned e was empty) = kept.ends key _ _ was ∙ (ap (λ c. holder_at t c key) empty ∙ ap (λ c. holder_at t' c key) (sym (ap t'.cell e ∙ off.emptied)))

    pub leaves : (digits : ℕ → ℕ) (l : ℕ) (q : Place) (slot : ℕ) (w : Way) → AreDigits digits → IsOnPath digits t'.cell l q → t'.cell q ≡ Leaf slot w → IsRightLeaf layout.slots k.holder t' slot w
    leaves digits l q slot w are on is = right_still slot w (kept.leaves digits l q slot w are (told.places digits l q on) (before q (Leaf slot w) (λ e. cc) is))

    pub nodes : (digits : ℕ → ℕ) (l : ℕ) (q : Place) (n : ℕ) → AreDigits digits → IsOnPath digits t'.cell l q → t'.cell q ≡ Node n → IsRightNode layout.nodes (others_than node published) l n
    nodes digits l q n are on is =
        let was = before q (Node n) (λ e. cc) is in
        let old = told.places digits l q on in
        let right = kept.nodes digits l q n are old was in
        let ne : n ≢ node = (λ e. full_apart q (Node n) (λ x. cc) is (alone digits l q are old (was ∙ ap (λ x. Node x) e))) in
        record { exists = right.exists; published_once = still_listed node published n right.published_once ne; within = right.within }

    pub homes : (digits : ℕ → ℕ) (l : ℕ) (q : Place) (slot : ℕ) (w : Way) → AreDigits digits → IsOnPath digits t'.cell l q →
        t'.cell q ≡ Leaf slot w → IsOnPath (digits_of digest (t'.key slot w)) t'.cell l q
    homes digits l q slot w are on is =
        let was = before q (Leaf slot w) (λ e. cc) is in
        let home = kept.homes digits l q slot w are (told.places digits l q on) was in
        let full : t.cell q ≢ Empty = (λ e. let no : Leaf slot w ≡ Empty = sym was ∙ e in cc) in
        subst (λ x. IsOnPath (digits_of digest x) t'.cell l q) (sym (off.keys slot w)) (met_still (digits_of digest (t.key slot w)) l q (are_digits digest (t.key slot w)) home full)

    pub parents : Parents t'.cell t'.parent
    parents digits l q n are on is = off.parents n ∙ kept.parents digits l q n are (told.places digits l q on) (before q (Node n) (λ e. cc) is)

    pub hang : (n : ℕ) → Contains (others_than node published) n → IsHung t'.cell n
    hang n c =
        let listed = other_listed node published n c in
        let h = kept.hang n listed.0 in
        let ne : h.place ≢ p = (λ e. listed.1 (let both : Node n ≡ Node node = sym h.there ∙ (ap t.cell e ∙ off.prunes.hung) in cc)) in
        let full : t.cell h.place ≢ Empty = (λ e. let no : Node n ≡ Empty = sym h.there ∙ e in cc) in
        record { digits = h.digits; are = h.are; level = h.level; place = h.place; on_path = met_still h.digits h.level h.place h.are h.on_path full; there = off.prunes.others h.place ne ∙ h.there }

    -- a place in which a seat may be is met still, unless it is one of the node's
    stays_on : (digits : ℕ → ℕ) (level : ℕ) (q : Place) → AreDigits digits → IsOnPath digits t.cell level q → ¬ (IsPlaceIn node q) → IsOnPath digits t'.cell level q
    stays_on digits level q are on out = by_place (told.old_places digits level q are on)
      where
        by_place : IsPlaceLeft digits t'.cell p node level q → IsOnPath digits t'.cell level q
        by_place (place_left on') = on'
        by_place (place_pruned within) = absurd (out (subst (IsPlaceIn node) (sym within.is) refl))

    leaf_still : (leaf : LoadedLeaf) → StaysLeaf layout.slots k t leaf → StaysLeaf layout.slots k t' leaf
    leaf_still leaf stays = record {
      right = ⊎_elim (λ right. inl (right_still leaf.slot leaf.way right)) (λ dead. inr dead) stays.right;
      key = off.keys leaf.slot leaf.way ∙ stays.key;
      inc = off.incs leaf.slot ∙ stays.inc;
    }

    -- a seat that isn't in the node fits still
    fits_outside : (side side' : TrieSide) → StaysOutside p node side side' → FitsTrie digest layout.slots k t side → FitsTrie digest layout.slots k t' side'
    fits_outside side side' out fits = record {
      stands = λ point e. (let was = out.stands point e in stays_on (digits_of digest point.key) point.level point.place (are_digits digest point.key) (fits.stands point was.0) was.1);
      leaf = λ leaf e. leaf_still leaf (fits.leaf leaf (out.leaf leaf e));
      seen = λ x e.
          let old = out.seen x e in
          let was = fits.seen x old.0 in
          record {
            on_path = stays_on (digits_of digest x.key) x.level x.place (are_digits digest x.key) was.on_path old.1;
            locked = λ c real. (let had = subst (λ locks. Contains locks (lock_of x.place)) out.locks c in off.prunes.others x.place (out.apart x e had) ∙ was.locked had real);
          };
      claimed = λ id c. fits.claimed id (out.answered id c);
    }

    -- the part, where each seat was so, and some seat counts the node
    pub trie_taken_off : (views' : List V) → occurs node published ≡ 1 → all_grown side_of views' ≡ all_grown side_of views → all_regained side_of views' ≡ all_regained side_of views + 1 →
        ((j : ℕ) (v' : V) → get_elem? views' j ≡ some v' → (v : V) × (get_elem? views j ≡ some v) × StaysOutside p node (side_of v) (side_of v')) →
        Trie side_of digest layout (others_than node published) k words' views'
    trie_taken_off views' once grown back out = record {
      ends = ends;
      leaves = leaves;
      nodes = nodes;
      homes = homes;
      levels = pruned_levels t.cell t'.cell p node off.prunes kept.levels;
      parents = parents;
      hang = hang;
      counted = (let was = kept.counted in let fewer = others_count node published in omega (arith, was, fewer, once, grown, back));
      each = λ j v' e. (let was = out j v' e in fits_outside (side_of was.0) (side_of v') was.2 (kept.each j was.0 was.1));
    }

pub taking_off_keeps_trie : {S : Type 0} (digest : Key → ℕ) (layout : Layout) → TakingOffKeepsTrie S digest layout
taking_off_keeps_trie digest layout published k words words' sides sides' p node kept off counts out =
    trie_taken_off (λ x. x) digest layout published k words words' sides p node kept off sides' counts.once counts.grown counts.regained
    (λ j side' e. (let was = out j side' e in (was.side, was.there, was.stays)))
