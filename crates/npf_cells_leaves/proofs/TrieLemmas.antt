-- The part on the trie stays through steps that leave what its paths meet.
use Rattle.std.specs.List.{Contains}
use Rattle.std.proofs.Common.{◌≡◌, ◌≢◌, ◌⊎◌, ℕ, ◌+◌, ◌≤◌, Bool, true, false, cond, eqb, Some, None, List, [], ◌∷◌, ◌++◌, set, length, slice_index, refl, sym, ap, ◌∙◌, subst, ⊎_elim, inl, inr, arith}
use Rattle.std.proofs.lemmas.List.Sums.{sum_by_push}
use mathlib.Core.Option.{some}
use lib.ListN.{get_elem?}
use Rattle.atomic_table.proofs.Lists.{at_set, at_snoc}
use Rattle.npf_types.specs.declared.key.{Key.Key, Way.Way}
use Rattle.npf_core.specs.declared.{conn_id.ConnId.ConnId, slot.Slot.Slot, stage.Stage.TheVariants.{Vacant, Dead}}
use Rattle.npf_core.specs.Machine.{Machine, stage_at, stage_of, IsClaimed, is_key}
use Rattle.npf_paths.specs.{declared.{cell.Cell.{Cell, TheVariants.{Empty, Leaf, Node, Mark}}, place.Place.Place}, PathLaw.AgreesOnPath}
use Rattle.npf_paths.{specs.{Paths.{AreDigits, IsOnPath, IsEnd}, Places.lock_of}, proofs.PathLemmas.{same_places, same_places_back}}
use Rattle.npf_cells_words.specs.declared.layout.{Layout.Layout, Pool.TheVariants.{Slots, Nodes}}
use Rattle.npf_cells_words.specs.{Layout.{root_at, inc_field, parent_field, key_field, field_at}, MarkWords.shown_of, Places.{IsInTrie, is_in_trie, place_at}}
use Rattle.npf_cells_words.{proofs.WordLemmas.{in_trie, is_there, field_behind, place_behind}, specs.declared.mark.{Emptied.Emptied, MetMark.MetMark}}
use Rattle.npf_seats.proofs.{PrefixLemmas.none_listed, SumLemmas.sum-set}
use Rattle.npf_cells_leaves.specs.declared.trie.{LoadedLeaf.LoadedLeaf, PathPlace.PathPlace, SeenCell.SeenCell, TrieSide.TrieSide}
use Rattle.npf_cells_leaves.specs.Trie.{unread_side, forgetting, cell_in, key_word, TrieWords, trie_words, digits_of, leaf_found, holder_at}
use Rattle.npf_cells_leaves.specs.Trie.{IsRightLeaf, StaysLeaf, FitsTrie, all_grown, all_regained, Trie}

pub are_digits : (digest : Key → ℕ) (key : Key) → AreDigits (digits_of digest key)
are_digits digest key = record { root = grind arith; node = λ level h. grind arith }

-- what a seat knows less of than before
pub record KnowsNoMore (side side' : TrieSide) : Type 0 where
  pub stands : (point : PathPlace) → side'.stands ≡ Some point → side.stands ≡ Some point
  pub leaf : (leaf : LoadedLeaf) → side'.leaf ≡ Some leaf → side.leaf ≡ Some leaf
  pub seen : (s : SeenCell) → side'.seen ≡ Some s → side.seen ≡ Some s
  pub locks : side'.locks ≡ side.locks
  pub answered : (id : ConnId) → Contains side'.answered id → Contains side.answered id
  pub marks : side'.marks ≡ side.marks
  pub emptied : (e : Emptied) → side'.emptied ≡ Some e → side.emptied ≡ Some e
  pub met_mark : (x : MetMark) → side'.met_mark ≡ Some x → side.met_mark ≡ Some x
  pub grown : side'.grown ≡ side.grown
  pub regained : side'.regained ≡ side.regained

pub knows_same : (side : TrieSide) → KnowsNoMore side side
knows_same side = record {
  stands = λ point e. e;
  leaf = λ leaf e. e;
  seen = λ s e. e;
  locks = refl;
  answered = λ id c. c;
  marks = refl;
  emptied = λ e is. is;
  met_mark = λ x is. is;
  grown = refl;
  regained = refl;
}

-- as who ends its stay
pub knows_less : (side : TrieSide) → KnowsNoMore side (forgetting side)
knows_less side = record {
  stands = λ point e. absurd cc;
  leaf = λ leaf e. absurd cc;
  seen = λ s e. absurd cc;
  locks = refl;
  answered = λ id c. absurd (none_listed id c);
  marks = refl;
  emptied = λ e is. absurd cc;
  met_mark = λ x is. absurd cc;
  grown = refl;
  regained = refl;
}

-- as many nodes as before were published, and got back
pub record CountsSame {V : Type 0} (side_of : V → TrieSide) (views views' : List V) : Type 0 where
  pub grown : all_grown side_of views' ≡ all_grown side_of views
  pub regained : all_regained side_of views' ≡ all_regained side_of views

pub counted_still : {V : Type 0} (side_of : V → TrieSide) (published : List ℕ) (views views' : List V) → length published + all_regained side_of views ≡ all_grown side_of views →
    CountsSame side_of views views' → length published + all_regained side_of views' ≡ all_grown side_of views'
counted_still side_of published views views' was same = let up = same.grown in let back = same.regained in omega (arith, was, up, back)

-- what the words, the holders and the claims of before and after have in common
pub record KeepsTrie {S : Type 0} (slots : ℕ) (k k' : Machine S) (t t' : TrieWords) : Type 0 where
  pub holder : (key : Key) → k'.holder key ≡ k.holder key
  pub claimed : (id : ConnId) → IsClaimed (stage_of k id) → IsClaimed (stage_of k' id)
  pub cells : (digits : ℕ → ℕ) → AreDigits digits → AgreesOnPath digits t.cell t'.cell
  pub parents : (digits : ℕ → ℕ) (level : ℕ) (p : Place) (node : ℕ) → AreDigits digits → IsOnPath digits t.cell level p → t.cell p ≡ Node node → t'.parent node ≡ t.parent node
  pub dead : (id : ConnId) → stage_of k id ≡ Dead → stage_of k' id ≡ Dead
  pub keys : (slot : ℕ) (way : Way) → IsRightLeaf slots k.holder t slot way ⊎ ((k.slot slot).stage ≡ Dead) → t'.key slot way ≡ t.key slot way
  pub incs : (slot : ℕ) (way : Way) → IsRightLeaf slots k.holder t slot way ⊎ ((k.slot slot).stage ≡ Dead) → t'.inc slot ≡ t.inc slot

-- the slot of a Dead connection is at that
dead_slot : {S : Type 0} (x : Slot S) (inc : ℕ) → stage_at x inc ≡ Dead → x.stage ≡ Dead
dead_slot x inc e = by_test (eqb x.inc inc) e
  where
    by_test : (b : Bool) → cond b x.stage Vacant ≡ Dead → x.stage ≡ Dead
    by_test true same = same
    by_test false same = absurd cc

-- the leaf is right, or its slot's connection is Dead
still_there : {S : Type 0} {slots : ℕ} {k : Machine S} {t : TrieWords} (leaf : LoadedLeaf) → StaysLeaf slots k t leaf →
    IsRightLeaf slots k.holder t leaf.slot leaf.way ⊎ ((k.slot leaf.slot).stage ≡ Dead)
still_there {k = k} leaf stays = ⊎_elim (λ right. inl right) (λ dead. inr (dead_slot (k.slot leaf.slot) leaf.inc dead)) stays.right

module _ {S : Type 0} (digest : Key → ℕ) (slots : ℕ) (k k' : Machine S) (t t' : TrieWords) (same : KeepsTrie slots k k' t t') where
  found_kept : (slot : ℕ) (way : Way) → IsRightLeaf slots k.holder t slot way → leaf_found t' slot way ≡ leaf_found t slot way
  found_kept slot way right = ap (λ inc. record { id = record { slot = slot; inc = inc }; way = way }) (same.incs slot way (inl right))

  right_kept : (slot : ℕ) (way : Way) → IsRightLeaf slots k.holder t slot way → IsRightLeaf slots k'.holder t' slot way
  right_kept slot way right = record {
    exists = right.exists;
    held = ap k'.holder (same.keys slot way (inl right)) ∙ (same.holder (t.key slot way) ∙ (right.held ∙ ap Some (sym (found_kept slot way right))));
  }

  leaf_kept : (leaf : LoadedLeaf) → StaysLeaf slots k t leaf → StaysLeaf slots k' t' leaf
  leaf_kept leaf stays = record {
    right = ⊎_elim (λ right. inl (right_kept leaf.slot leaf.way right)) (λ dead. inr (same.dead (record { slot = leaf.slot; inc = leaf.inc }) dead)) stays.right;
    key = same.keys leaf.slot leaf.way (still_there leaf stays) ∙ stays.key;
    inc = same.incs leaf.slot leaf.way (still_there leaf stays) ∙ stays.inc;
  }

  -- a seat fits that knows no more than one that fitted
  pub fits_kept : (side side' : TrieSide) → KnowsNoMore side side' → FitsTrie digest slots k t side → FitsTrie digest slots k' t' side'
  fits_kept side side' less fits = record {
    stands = λ point e. same_places_back (same.cells (digits_of digest point.key) (are_digits digest point.key)) (fits.stands point (less.stands point e));
    leaf = λ leaf e. leaf_kept leaf (fits.leaf leaf (less.leaf leaf e));
    seen = λ s e.
        let was = fits.seen s (less.seen s e) in
        let agree = same.cells (digits_of digest s.key) (are_digits digest s.key) in
        record {
          on_path = same_places_back agree was.on_path;
          locked = λ c real. agree s.level s.place was.on_path ∙ was.locked (subst (λ locks. Contains locks (lock_of s.place)) less.locks c) real;
        };
    claimed = λ id c. same.claimed id (fits.claimed id (less.answered id c));
  }

  -- what the end of a path says of a key's holder
  holder_kept : (cell : Cell) (key : Key) → ((slot : ℕ) (way : Way) → cell ≡ Leaf slot way → IsRightLeaf slots k.holder t slot way) → holder_at t' cell key ≡ holder_at t cell key
  holder_kept Empty key right = refl
  holder_kept (Leaf slot way) key right =
      let r = right slot way refl in
      λ i. cond (is_key (same.keys slot way (inl r) i) key) (Some (found_kept slot way r i)) None
  holder_kept (Node node) key right = refl
  holder_kept Mark key right = refl

-- what stands in such a place
pub cell_there : (layout : Layout) (words : List ℕ) (p : Place) → IsInTrie layout p → cell_in layout words p ≡ shown_of (slice_index words (place_at layout p))
cell_there layout words p h = ap (λ b. cond b (shown_of (slice_index words (place_at layout p))) Empty) (is_there layout p h)

-- what stands in a place goes by its word
pub cell_same : (layout : Layout) (words words' : List ℕ) (p : Place) →
    slice_index words' (place_at layout p) ≡ slice_index words (place_at layout p) → cell_in layout words' p ≡ cell_in layout words p
cell_same layout words words' p same = ap (λ word. cond (is_in_trie layout p) (shown_of word) Empty) same

-- and so it is the same where the place is none, or its word is
pub cell_kept : (layout : Layout) (words words' : List ℕ) (p : Place) → (IsInTrie layout p → slice_index words' (place_at layout p) ≡ slice_index words (place_at layout p)) →
    cell_in layout words' p ≡ cell_in layout words p
cell_kept layout words words' p same = by_place (is_in_trie layout p) refl
  where
    by_place : (b : Bool) → is_in_trie layout p ≡ b → cond b (shown_of (slice_index words' (place_at layout p))) Empty ≡ cond b (shown_of (slice_index words (place_at layout p))) Empty
    by_place true e = ap shown_of (same (in_trie layout p e))
    by_place false e = refl

module _ {S V : Type 0} (side_of : V → TrieSide) (digest : Key → ℕ) (layout : Layout) (published : List ℕ) (k k' : Machine S) (words words' : List ℕ) (views views' : List V) where
  abbrev t : TrieWords
  t = trie_words layout words

  abbrev t' : TrieWords
  t' = trie_words layout words'

  -- the part after such a step, where each seat fits
  pub trie_kept : Trie side_of digest layout published k words views → KeepsTrie layout.slots k k' t t' → CountsSame side_of views views' →
      ((j : ℕ) (v : V) → get_elem? views' j ≡ some v → FitsTrie digest layout.slots k' t' (side_of v)) → Trie side_of digest layout published k' words' views'
  trie_kept kept same sums each = record {
    ends = λ key level p end.
        let digits = digits_of digest key in
        let agree = same.cells digits (are_digits digest key) in
        let on = same_places agree end.on_path in
        let is = agree level p on in
        let ended : IsEnd (t.cell p) = rw is at end.is_end in
        let was = kept.ends key level p (record { on_path = on; is_end = ended }) in
        let right : (slot : ℕ) (way : Way) → t.cell p ≡ Leaf slot way → IsRightLeaf layout.slots k.holder t slot way = λ slot way e. kept.leaves digits level p slot way (are_digits digest key) on e in
        same.holder key ∙ (was ∙ (sym (holder_kept digest layout.slots k k' t t' same (t.cell p) key right) ∙ ap (λ c. holder_at t' c key) (sym is)));
    leaves = λ digits level p slot way are on e.
        let agree = same.cells digits are in
        let before = same_places agree on in
        right_kept digest layout.slots k k' t t' same slot way (kept.leaves digits level p slot way are before (sym (agree level p before) ∙ e));
    nodes = λ digits level p node are on e.
        let agree = same.cells digits are in
        let before = same_places agree on in
        kept.nodes digits level p node are before (sym (agree level p before) ∙ e);
    homes = λ digits level p slot way are on e.
        let agree = same.cells digits are in
        let before = same_places agree on in
        let was : t.cell p ≡ Leaf slot way = sym (agree level p before) ∙ e in
        let right = kept.leaves digits level p slot way are before was in
        let home = kept.homes digits level p slot way are before was in
        subst (λ key. IsOnPath (digits_of digest key) t'.cell level p) (sym (same.keys slot way (inl right)))
        (same_places_back (same.cells (digits_of digest (t.key slot way)) (are_digits digest (t.key slot way))) home);
    levels = λ digits digits' l l' q are are' on on'. kept.levels digits digits' l l' q are are' (same_places (same.cells digits are) on) (same_places (same.cells digits' are') on');
    parents = λ digits level p node are on e.
        let agree = same.cells digits are in
        let before = same_places agree on in
        let was : t.cell p ≡ Node node = sym (agree level p before) ∙ e in
        same.parents digits level p node are before was ∙ kept.parents digits level p node are before was;
    hang = λ node c.
        let h = kept.hang node c in
        let agree = same.cells h.digits h.are in
        record { digits = h.digits; are = h.are; level = h.level; place = h.place; on_path = same_places_back agree h.on_path; there = agree h.level h.place h.on_path ∙ h.there };
    counted = counted_still side_of published views views' kept.counted sums;
    each = each;
  }

pub fits_unread : {S : Type 0} (digest : Key → ℕ) (slots : ℕ) (k : Machine S) (t : TrieWords) → FitsTrie digest slots k t unread_side
fits_unread digest slots k t = record { stands = λ point e. absurd cc; leaf = λ leaf e. absurd cc; seen = λ s e. absurd cc; claimed = λ id c. absurd (none_listed id c) }

module _ {S V : Type 0} (side_of : V → TrieSide) (digest : Key → ℕ) (slots : ℕ) where
  -- each seat of a list fits
  abbrev pub AllFit : Machine S → TrieWords → List V → Type 0
  AllFit k t views = (j : ℕ) (v : V) → get_elem? views j ≡ some v → FitsTrie digest slots k t (side_of v)

  pub fits-set : (k : Machine S) (t : TrieWords) (views : List V) (i : ℕ) (w : V) → FitsTrie digest slots k t (side_of w) → AllFit k t views → AllFit k t (set views i w)
  fits-set k t views i w mine kept j u e = ⊎_elim
      (λ (x : (j ≡ i) × (w ≡ u)). subst (λ (y : V). FitsTrie digest slots k t (side_of y)) x.1 mine)
      (λ (x : (j ≢ i) × (get_elem? views j ≡ some u)). kept j u x.1)
      (at_set views i j w u e)

  pub fits-push : (k : Machine S) (t : TrieWords) (views : List V) (w : V) → FitsTrie digest slots k t (side_of w) → AllFit k t views → AllFit k t (views ++ w ∷ [])
  fits-push k t views w mine kept j u e = ⊎_elim
      (λ (there : get_elem? views j ≡ some u). kept j u there)
      (λ (x : w ≡ u). subst (λ (y : V). FitsTrie digest slots k t (side_of y)) x mine)
      (at_snoc views w u j e)

  pub fits_all : (k k' : Machine S) (t t' : TrieWords) (views : List V) → KeepsTrie slots k k' t t' → AllFit k t views → AllFit k' t' views
  fits_all k k' t t' views same kept j v e = fits_kept digest slots k k' t t' same (side_of v) (side_of v) (knows_same (side_of v)) (kept j v e)

-- how many nodes passes published and got back, where one pass changes and does neither, or a new one comes
module _ {V : Type 0} (side_of : V → TrieSide) where
  pub grown-set : (views : List V) (i : ℕ) (v w : V) → get_elem? views i ≡ some v → (side_of w).grown ≡ (side_of v).grown →
      (side_of w).regained ≡ (side_of v).regained → CountsSame side_of views (set views i w)
  grown-set views i v w at same also = record {
    grown = (let more = sum-set (λ (u : V). (side_of u).grown) views i v w at in omega (arith, more, same));
    regained = (let more = sum-set (λ (u : V). (side_of u).regained) views i v w at in omega (arith, more, also));
  }

  pub grown-push : (views : List V) (w : V) → (side_of w).grown ≡ 0 → (side_of w).regained ≡ 0 → CountsSame side_of views (views ++ w ∷ [])
  grown-push views w none also = record {
    grown = (let more = sum_by_push (λ (u : V). (side_of u).grown) views w in omega (arith, more, none));
    regained = (let more = sum_by_push (λ (u : V). (side_of u).regained) views w in omega (arith, more, also));
  }

  pub counts_on : (xs ys zs : List V) → CountsSame side_of xs ys → CountsSame side_of ys zs → CountsSame side_of xs zs
  counts_on xs ys zs first then = record { grown = then.grown ∙ first.grown; regained = then.regained ∙ first.regained }

-- such a step, which adds nothing to what one seat knows
pub trie_same : {S V : Type 0} (side_of : V → TrieSide) (digest : Key → ℕ) (layout : Layout) (published : List ℕ) (k k' : Machine S) (words words' : List ℕ) (views : List V) (i : ℕ) (v w : V) →
    Trie side_of digest layout published k words views → get_elem? views i ≡ some v → KnowsNoMore (side_of v) (side_of w) →
    KeepsTrie layout.slots k k' (trie_words layout words) (trie_words layout words') →
    Trie side_of digest layout published k' words' (set views i w)
trie_same side_of digest layout published k k' words words' views i v w kept at less same =
    trie_kept side_of digest layout published k k' words words' views (set views i w) kept same (grown-set side_of views i v w at less.grown less.regained)
    (fits-set side_of digest layout.slots k' (trie_words layout words') views i w
    (fits_kept digest layout.slots k k' (trie_words layout words) (trie_words layout words') same (side_of v) (side_of w) less (kept.each i v at))
    (fits_all side_of digest layout.slots k k' (trie_words layout words) (trie_words layout words') views same kept.each))

-- one seat knows more
pub trie_moved : {S V : Type 0} (side_of : V → TrieSide) (digest : Key → ℕ) (layout : Layout) (published : List ℕ) (k : Machine S) (words : List ℕ) (views : List V) (i : ℕ) (v w : V) →
    Trie side_of digest layout published k words views → get_elem? views i ≡ some v → (side_of w).grown ≡ (side_of v).grown → (side_of w).regained ≡ (side_of v).regained →
    FitsTrie digest layout.slots k (trie_words layout words) (side_of w) → Trie side_of digest layout published k words (set views i w)
trie_moved side_of digest layout published k words views i v w kept at same also fits = record {
  ends = kept.ends;
  leaves = kept.leaves;
  nodes = kept.nodes;
  homes = kept.homes;
  levels = kept.levels;
  parents = kept.parents;
  hang = kept.hang;
  counted = counted_still side_of published views (set views i w) kept.counted (grown-set side_of views i v w at same also);
  each = fits-set side_of digest layout.slots k (trie_words layout words) views i w fits kept.each;
}

-- words behind the pools' that are the same make the same trie
pub keeps_words : {S : Type 0} (layout : Layout) (k k' : Machine S) (words words' : List ℕ) → ((key : Key) → k'.holder key ≡ k.holder key) →
    ((id : ConnId) → IsClaimed (stage_of k id) → IsClaimed (stage_of k' id)) → ((id : ConnId) → stage_of k id ≡ Dead → stage_of k' id ≡ Dead) →
    ((j : ℕ) → root_at layout ≤ j → slice_index words' j ≡ slice_index words j) → KeepsTrie layout.slots k k' (trie_words layout words) (trie_words layout words')
keeps_words layout k k' words words' holder claimed dead same = record {
  holder = holder;
  claimed = claimed;
  dead = dead;
  cells = λ digits are level p on. cell_same layout words words' p (same (place_at layout p) (place_behind layout p));
  parents = λ digits level p node are on is. same (field_at layout Nodes node parent_field) (field_behind layout Nodes node parent_field);
  keys = λ slot way right. λ i. record {
    0 = key_same slot way 0 i ∷ key_same slot way 1 i ∷ key_same slot way 2 i ∷ key_same slot way 3 i ∷ key_same slot way 4 i ∷ [];
  };
  incs = λ slot way right. same (field_at layout Slots slot inc_field) (omega arith);
}
  where
    key_same : (slot : ℕ) (way : Way) (place : ℕ) → key_word layout words' slot way place ≡ key_word layout words slot way place
    key_same slot way place = same (field_at layout Slots slot (key_field way + place)) (omega arith)
