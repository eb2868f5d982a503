-- The trie where a place with a connection's leaf is emptied, whose key the connection gives up.
use Rattle.std.specs.List.{Contains}
use Rattle.std.proofs.Common.{◌≡◌, ◌≢◌, ◌⊎◌, ℕ, Bool, true, false, cond, Option, Some, None, List, refl, sym, ap, ◌∙◌, subst, ⊎_elim, inl, inr}
use mathlib.Core.Option.{some}
use lib.ListN.{get_elem?}
use Rattle.npf_types.specs.declared.key.{Key.Key, Way.Way}
use Rattle.npf_core.specs.{declared.{conn_id.ConnId.ConnId, found.Found.Found, stage.Stage.TheVariants.Dead}, Machine.{Machine, stage_of, IsClaimed, is_key}}
use Rattle.npf_core.{specs.NextState.{is_found, given_up}, proofs.EqualityLemmas.{is_key-Decides, is_found-Decides}}
use Rattle.npf_paths.specs.{declared.{cell.Cell.{Cell, TheVariants.{Empty, Leaf, Node, Mark}}, place.Place.Place}, FillingLaw.FillsPlace}
use Rattle.npf_paths.specs.{Paths.{AreDigits, IsOnPath, IsEnd, EndsAt}, Places.lock_of}
use Rattle.npf_paths.proofs.{FillingLemmas.{same_or_apart, filled_back, filled_places, filled_ends}, LevelLemmas.filled_levels, PathLemmas.one_end}
use Rattle.npf_cells_words.specs.declared.layout.Layout.{Layout}
use Rattle.npf_cells_leaves.specs.declared.trie.{LoadedLeaf.LoadedLeaf, SeenCell.SeenCell, TrieSide.TrieSide}
use Rattle.npf_cells_leaves.specs.Trie.{digits_of, TrieWords, trie_words, leaf_found, holder_at, IsRightLeaf, IsRightNode, StaysLeaf, FitsTrie, IsHung, Trie}
use Rattle.npf_cells_leaves.proofs.TrieLemmas.{CountsSame, counted_still, KnowsNoMore}

-- what giving a key up makes of the machine: its holder loses it, and no other
pub record TakesKey {S : Type 0} (k k' : Machine S) (t t' : TrieWords) (conn : ConnId) (way : Way) : Type 0 where
  pub holder : (other : Key) → k'.holder other ≡ given_up (k.holder other) (record { id = conn; way = way })
  pub claimed : (id : ConnId) → IsClaimed (stage_of k id) → IsClaimed (stage_of k' id)
  pub dead : (id : ConnId) → stage_of k id ≡ Dead → stage_of k' id ≡ Dead
  pub loser : stage_of k' conn ≡ Dead
  pub keys : (slot : ℕ) (w : Way) → t'.key slot w ≡ t.key slot w
  pub incs : (slot : ℕ) → t'.inc slot ≡ t.inc slot
  pub inc_is : t.inc conn.slot ≡ conn.inc

-- the leaf that stood in a place of a path is gone
pub record EmptiesPlace (t t' : TrieWords) (slot : ℕ) (way : Way) (p : Place) (level : ℕ) (digits : ℕ → ℕ) : Type 0 where
  pub are : AreDigits digits
  pub on_path : IsOnPath digits t.cell level p
  pub stood : t.cell p ≡ Leaf slot way
  pub emptied : t'.cell p ≡ Empty
  pub others : (q : Place) → q ≢ p → t'.cell q ≡ t.cell q
  pub parents : (node : ℕ) → t'.parent node ≡ t.parent node

pub empties_place : {t t' : TrieWords} {slot : ℕ} {way : Way} {p : Place} {level : ℕ} {digits : ℕ → ℕ} → EmptiesPlace t t' slot way p level digits → FillsPlace t.cell t'.cell p
empties_place empties = record { was_end = subst IsEnd (sym empties.stood) tt; ends_now = subst IsEnd (sym empties.emptied) tt; others = empties.others }

-- a holder that is another keeps the key, and this one loses it
kept_or_lost : (x : Option Found) (found : Found) → ((x ≡ Some found) × (given_up x found ≡ None)) ⊎ ((given_up x found ≡ x) × (x ≢ Some found))
kept_or_lost None found = inr (refl, λ e. absurd cc)
kept_or_lost (Some holder) found = by_test (is_found holder found) refl
  where
    by_test : (b : Bool) → is_found holder found ≡ b → ((Some holder ≡ Some found) × (cond b None (Some holder) ≡ None)) ⊎ ((cond b None (Some holder) ≡ Some holder) × (Some holder ≢ Some found))
    by_test true e = inl (ap (λ (f : Found). Some f) ((is_found-Decides holder found).0 e), refl)
    by_test false e = inr (refl, λ same. let one : holder ≡ found = cc in let yes = (is_found-Decides holder found).1 one in absurd cc)

-- what a cell says of a key's holder, where that is this connection
said_by : (t : TrieWords) (c : Cell) (key : Key) (found : Found) → holder_at t c key ≡ Some found → (c ≡ Leaf found.id.slot found.way) × (t.key found.id.slot found.way ≡ key)
said_by t Empty key found e = absurd cc
said_by t (Leaf slot w) key found e = by_test (is_key (t.key slot w) key) refl e
  where
    by_test : (b : Bool) → is_key (t.key slot w) key ≡ b → cond b (Some (leaf_found t slot w)) None ≡ Some found → (Leaf slot w ≡ Leaf found.id.slot found.way) × (t.key found.id.slot found.way ≡ key)
    by_test true is same =
        let one : leaf_found t slot w ≡ found = cc in
        let slots : slot ≡ found.id.slot = ap (λ (f : Found). f.id.slot) one in
        let ways : w ≡ found.way = ap (λ (f : Found). f.way) one in
        ((λ i. Leaf (slots i) (ways i)), (λ i. t.key (sym slots i) (sym ways i)) ∙ (is_key-Decides (t.key slot w) key).0 is)
    by_test false is same = absurd cc
said_by t (Node node) key found e = absurd cc
said_by t Mark key found e = absurd cc

module _ {S V : Type 0} (side_of : V → TrieSide) (digest : Key → ℕ) (layout : Layout) (published : List ℕ) (k k' : Machine S)
    (words words' : List ℕ) (views views' : List V) (conn : ConnId) (way : Way) (p : Place) (level : ℕ) (digits : ℕ → ℕ) where
  abbrev t : TrieWords
  t = trie_words layout words

  abbrev t' : TrieWords
  t' = trie_words layout words'

  abbrev gone : Found
  gone = record { id = conn; way = way }

  module _ (kept : Trie side_of digest layout published k words views) (takes : TakesKey k k' t t' conn way) (empties : EmptiesPlace t t' conn.slot way p level digits) where
    abbrev changed : FillsPlace t.cell t'.cell p
    changed = empties_place empties

    before : (ds : ℕ → ℕ) (l : ℕ) (q : Place) → IsOnPath ds t'.cell l q → IsOnPath ds t.cell l q
    before ds l q on = filled_places (filled_back changed) on

    -- the leaf's own key ends there, and nowhere else
    own_end : EndsAt (digits_of digest (t.key conn.slot way)) t.cell level p
    own_end = record { on_path = kept.homes digits level p conn.slot way empties.are empties.on_path empties.stood; is_end = changed.was_end }

    alone_there : (l : ℕ) (q : Place) → EndsAt (digits_of digest (t.key conn.slot way)) t.cell l q → q ≡ p
    alone_there l q end = (one_end end own_end).1

    found_gone : leaf_found t conn.slot way ≡ gone
    found_gone = ap (λ inc. record { id = record { slot = conn.slot; inc = inc }; way = way }) takes.inc_is

    found_same : (slot : ℕ) (w : Way) → leaf_found t' slot w ≡ leaf_found t slot w
    found_same slot w = ap (λ inc. record { id = record { slot = slot; inc = inc }; way = w }) (takes.incs slot)

    said_same : (c : Cell) (other : Key) → holder_at t' c other ≡ holder_at t c other
    said_same Empty other = refl
    said_same (Leaf slot w) other = λ i. cond (is_key (takes.keys slot w i) other) (Some (found_same slot w i)) None
    said_same (Node node) other = refl
    said_same Mark other = refl

    -- a key that ends in another place keeps its holder
    still_held : (other : Key) (l : ℕ) (q : Place) → q ≢ p → EndsAt (digits_of digest other) t.cell l q → k'.holder other ≡ k.holder other
    still_held other l q ne end = ⊎_elim
        (λ (lost : (k.holder other ≡ Some gone) × (given_up (k.holder other) gone ≡ None)).
        let said = said_by t (t.cell q) other gone (sym (kept.ends other l q end) ∙ lost.0) in
        absurd (ne (alone_there l q (subst (λ key. EndsAt (digits_of digest key) t.cell l q) (sym said.1) end))))
        (λ (same : (given_up (k.holder other) gone ≡ k.holder other) × (k.holder other ≢ Some gone)). takes.holder other ∙ same.0)
        (kept_or_lost (k.holder other) gone)

    -- and one that ended there has none
    none_held : (other : Key) (l : ℕ) → EndsAt (digits_of digest other) t.cell l p → k'.holder other ≡ None
    none_held other l end = takes.holder other ∙ (ap (λ x. given_up x gone) (kept.ends other l p end ∙ ap (λ c. holder_at t c other) empties.stood) ∙ by_key (is_key (t.key conn.slot way) other))
      where
        lost : given_up (Some (leaf_found t conn.slot way)) gone ≡ None
        lost = ap (λ b. cond b None (Some (leaf_found t conn.slot way))) ((is_found-Decides (leaf_found t conn.slot way) gone).1 found_gone)

        by_key : (b : Bool) → given_up (cond b (Some (leaf_found t conn.slot way)) None) gone ≡ None
        by_key true = lost
        by_key false = refl

    ends : (other : Key) (l : ℕ) (q : Place) → EndsAt (digits_of digest other) t'.cell l q → k'.holder other ≡ holder_at t' (t'.cell q) other
    ends other l q end = ⊎_elim
        (λ (e : q ≡ p). none_held other l (subst (λ x. EndsAt (digits_of digest other) t.cell l x) e was) ∙ sym (ap (λ c. holder_at t' c other) (ap t'.cell e ∙ empties.emptied)))
        (λ (ne : q ≢ p). still_held other l q ne was ∙ (kept.ends other l q was ∙ (ap (λ c. holder_at t c other) (sym (empties.others q ne)) ∙ sym (said_same (t'.cell q) other))))
        (same_or_apart q p)
      where
        was : EndsAt (digits_of digest other) t.cell l q
        was = filled_ends (filled_back changed) end

    -- no leaf stands where that one stood
    elsewhere : (q : Place) (slot : ℕ) (w : Way) → t'.cell q ≡ Leaf slot w → q ≢ p
    elsewhere q slot w is e = let no : Empty ≡ Leaf slot w = sym empties.emptied ∙ (ap t'.cell (sym e) ∙ is) in absurd cc

    leaves : (ds : ℕ → ℕ) (l : ℕ) (q : Place) (slot : ℕ) (w : Way) → AreDigits ds → IsOnPath ds t'.cell l q → t'.cell q ≡ Leaf slot w → IsRightLeaf layout.slots k'.holder t' slot w
    leaves ds l q slot w are on is =
        let ne = elsewhere q slot w is in
        let was : t.cell q ≡ Leaf slot w = sym (empties.others q ne) ∙ is in
        let right = kept.leaves ds l q slot w are (before ds l q on) was in
        let home = kept.homes ds l q slot w are (before ds l q on) was in
        record {
          exists = right.exists;
          held = ap k'.holder (takes.keys slot w)
              ∙ (still_held (t.key slot w) l q ne (record { on_path = home; is_end = subst IsEnd (sym was) tt }) ∙ (right.held ∙ ap (λ (f : Found). Some f) (sym (found_same slot w))));
        }

    no_node : (q : Place) (node : ℕ) → t'.cell q ≡ Node node → q ≢ p
    no_node q node is e = let no : Empty ≡ Node node = sym empties.emptied ∙ (ap t'.cell (sym e) ∙ is) in absurd cc

    nodes : (ds : ℕ → ℕ) (l : ℕ) (q : Place) (node : ℕ) → AreDigits ds → IsOnPath ds t'.cell l q → t'.cell q ≡ Node node → IsRightNode layout.nodes published l node
    nodes ds l q node are on is = kept.nodes ds l q node are (before ds l q on) (sym (empties.others q (no_node q node is)) ∙ is)

    homes : (ds : ℕ → ℕ) (l : ℕ) (q : Place) (slot : ℕ) (w : Way) → AreDigits ds → IsOnPath ds t'.cell l q → t'.cell q ≡ Leaf slot w → IsOnPath (digits_of digest (t'.key slot w)) t'.cell l q
    homes ds l q slot w are on is =
        let home = kept.homes ds l q slot w are (before ds l q on) (sym (empties.others q (elsewhere q slot w is)) ∙ is) in
        subst (λ x. IsOnPath (digits_of digest x) t'.cell l q) (sym (takes.keys slot w)) (filled_places changed home)

    hang : (node : ℕ) → Contains published node → IsHung t'.cell node
    hang node c =
        let h = kept.hang node c in
        let ne : h.place ≢ p = (λ e. let no : Leaf conn.slot way ≡ Node node = sym empties.stood ∙ (ap t.cell (sym e) ∙ h.there) in absurd cc) in
        record { digits = h.digits; are = h.are; level = h.level; place = h.place; on_path = filled_places changed h.on_path; there = empties.others h.place ne ∙ h.there }

    -- the part, where each seat fits
    pub trie_emptied : CountsSame side_of views views' → ((j : ℕ) (v : V) → get_elem? views' j ≡ some v → FitsTrie digest layout.slots k' t' (side_of v)) →
        Trie side_of digest layout published k' words' views'
    trie_emptied sums each = record {
      ends = ends;
      leaves = leaves;
      nodes = nodes;
      homes = homes;
      levels = filled_levels changed kept.levels;
      parents = λ ds l q node are on is. empties.parents node ∙ kept.parents ds l q node are (before ds l q on) (sym (empties.others q (no_node q node is)) ∙ is);
      hang = hang;
      counted = counted_still side_of published views views' kept.counted sums;
      each = each;
    }

    -- a leaf that a pass loaded stays: where it is this one, its connection is Dead
    leaf_emptied : (leaf : LoadedLeaf) → StaysLeaf layout.slots k t leaf → StaysLeaf layout.slots k' t' leaf
    leaf_emptied leaf stays = record {
      right = ⊎_elim still (λ dead. inr (takes.dead (record { slot = leaf.slot; inc = leaf.inc }) dead)) stays.right;
      key = takes.keys leaf.slot leaf.way ∙ stays.key;
      inc = takes.incs leaf.slot ∙ stays.inc;
    }
      where
        still : IsRightLeaf layout.slots k.holder t leaf.slot leaf.way → IsRightLeaf layout.slots k'.holder t' leaf.slot leaf.way ⊎ (stage_of k' (record { slot = leaf.slot; inc = leaf.inc }) ≡ Dead)
        still right = ⊎_elim
            (λ (lost : (k.holder (t.key leaf.slot leaf.way) ≡ Some gone) × (given_up (k.holder (t.key leaf.slot leaf.way)) gone ≡ None)).
            let both : Some (leaf_found t leaf.slot leaf.way) ≡ Some gone = sym right.held ∙ lost.0 in
            let one : leaf_found t leaf.slot leaf.way ≡ gone = cc in
            let same : record { slot = leaf.slot; inc = t.inc leaf.slot } ≡ conn = ap (λ (f : Found). f.id) one in
            inr (ap (λ n. stage_of k' (record { slot = leaf.slot; inc = n })) (sym stays.inc) ∙ (ap (λ (i : ConnId). stage_of k' i) same ∙ takes.loser)))
            (λ (kept' : (given_up (k.holder (t.key leaf.slot leaf.way)) gone ≡ k.holder (t.key leaf.slot leaf.way)) × (k.holder (t.key leaf.slot leaf.way) ≢ Some gone)). inl (record {
              exists = right.exists;
              held = ap k'.holder (takes.keys leaf.slot leaf.way)
                  ∙ (takes.holder (t.key leaf.slot leaf.way) ∙ (kept'.0 ∙ (right.held ∙ ap (λ (f : Found). Some f) (sym (found_same leaf.slot leaf.way)))));
            }))
            (kept_or_lost (k.holder (t.key leaf.slot leaf.way)) gone)

    -- a seat fits still that knows no more, and saw nothing of the place under the place's lock
    pub fits_emptied : (side side' : TrieSide) → KnowsNoMore side side' → ((x : SeenCell) → side'.seen ≡ Some x → Contains side.locks (lock_of x.place) → x.place ≢ p) →
        FitsTrie digest layout.slots k t side → FitsTrie digest layout.slots k' t' side'
    fits_emptied side side' less apart fits = record {
      stands = λ point e. filled_places changed (fits.stands point (less.stands point e));
      leaf = λ leaf e. leaf_emptied leaf (fits.leaf leaf (less.leaf leaf e));
      seen = λ x e.
          let was = fits.seen x (less.seen x e) in
          record {
            on_path = filled_places changed was.on_path;
            locked = λ c real. (let had = subst (λ locks. Contains locks (lock_of x.place)) less.locks c in empties.others x.place (apart x e had) ∙ was.locked had real);
          };
      claimed = λ id c. takes.claimed id (fits.claimed id (less.answered id c));
    }
