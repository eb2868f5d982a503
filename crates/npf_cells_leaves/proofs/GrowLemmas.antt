-- The trie where new nodes give way to the leaf of a key's new holder beside the leaf that stood in their place.
use Rattle.std.specs.List.{Contains}
use Rattle.std.proofs.Common.{◌≡◌, ◌≢◌, ℕ, ◌+◌, ◌-◌, ◌*◌, ◌/◌, ◌%◌, ◌^◌, ◌<◌, ◌≤◌, cond, suc, false, Some, None, List, [], ◌∷◌, ◌++◌, length}
use Rattle.std.proofs.{Common.{slice_index, refl, sym, ap, ◌∙◌, subst, ⊎_elim, arith, length-append}, Math.ListN.get_or-eq_default, lemmas.Bool.cases_lt}
use Rattle.std.proofs.lemmas.List.{Elements.{Contains-append_cases, Contains-append_left, Contains-append_right}, get_or_default}
use mathlib.Core.Option.{some}
use lib.ListN.{get_elem?}
use Rattle.npf_types.specs.declared.key.{Key.Key, Way.Way}
use Rattle.npf_core.specs.{declared.conn_id.ConnId.ConnId, Machine.{Machine, is_key}}
use Rattle.npf_paths.specs.{declared.{cell.Cell.{Cell, TheVariants.{Empty, Leaf, Node, Mark}}, place.Place.Place}, Digits.{half_byte_of, digit_of}}
use Rattle.npf_paths.specs.declared.place.Place.TheVariants as Places
use Rattle.npf_paths.specs.Growing.{IsPlaceOf, IsBranch, GrowsBranch, IsBranch.{parts, goes_on}}
use Rattle.npf_paths.specs.GrowingLaw.{IsPlaceNow, IsEndNow, IsNodeNow, PathsAfterGrowth, LeavesAreHome, IsEndNow.{end_stays, end_grew}}
use Rattle.npf_paths.specs.{GrowingLaw.{IsNodeNow.{node_stays, node_grew}, IsPlaceNow.{place_stays, place_is_there, place_grew}}, LevelLaw.AreApart}
use Rattle.npf_paths.{specs.Paths.{AreDigits, IsOnPath, IsEnd, EndsAt}, proofs.{BranchLemmas.branch_parts, GrowingLemmas.growth_told}}
use Rattle.npf_paths.proofs.{HomeLemmas.{mine_along, leaves_home}, LevelLemmas.grown_levels, PathLemmas.one_end}
use Rattle.npf_cells_words.specs.{declared.layout.Layout.Layout, Codes.place_code}
use Rattle.npf_cells_leaves.specs.{Parents.{Parents, NameParents}, declared.trie.{LoadedLeaf.LoadedLeaf, TrieSide.TrieSide}}
use Rattle.npf_cells_leaves.specs.Trie.{digits_of, TrieWords, trie_words, leaf_found, holder_at, IsRightLeaf, IsRightNode, StaysLeaf, FitsTrie, IsHung, all_grown, all_regained, Trie}
use Rattle.npf_cells_leaves.proofs.GivenLemmas.{key_cases, keys_apart, GivesKey, other_holds, key_now, right_still, right_now, said_same, said_now}
use Rattle.npf_cells_leaves.proofs.{ParentLemmas.{first_named, node_named}, StandLemmas.hung_at, TrieLemmas.are_digits}

-- a branch is seen by cells that say what stands in its places, unless that is a mark
pub branch_seen : {mine theirs : ℕ → ℕ} {cell cell' : Place → Cell} {leaf other : Cell} {level first : ℕ} {nodes : List ℕ} →
    IsBranch mine theirs cell leaf other level first nodes → AreDigits mine → AreDigits theirs → 1 ≤ level → leaf ≢ Mark → other ≢ Mark →
    ((node digit : ℕ) (c : Cell) → Contains nodes node → digit < 16 → c ≢ Mark → cell (Places.Node node digit) ≡ c → cell' (Places.Node node digit) ≡ c) →
    IsBranch mine theirs cell' leaf other level first nodes
branch_seen {mine} {theirs} {leaf = leaf} {other} (parts level node apart mine_is theirs_is empty) small small' deep full full' seen =
    let has : Contains (node ∷ []) node = (0, omega arith, refl) in
    parts level node apart (seen node (mine level) leaf has (small.node level deep) full mine_is) (seen node (theirs level) other has (small'.node level deep) full' theirs_is)
    (λ digit low a b. seen node digit Empty has low (λ e. cc) (empty digit low a b))
branch_seen {mine} {theirs} (goes_on level node next tail agree is empty below) small small' deep full full' seen =
    let has : Contains (node ∷ tail) node = (0, omega arith, refl) in
    goes_on level node next tail agree (seen node (mine level) (Node next) has (small.node level deep) (λ e. cc) is) (λ digit low a. seen node digit Empty has low (λ e. cc) (empty digit low a))
    (branch_seen below small small' (omega arith) full full' (λ n digit c within. seen n digit c (let short = within.1 in (suc within.0, omega (arith, short), within.2))))

-- no key has a digit past level 94
nothing_of : (n : ℕ) → 0 / n % 16 ≡ 0
nothing_of n = grind arith

digit_past : (hash : ℕ) (key : Key) (level : ℕ) → length key.0 ≡ 5 → 95 ≤ level → digit_of hash key level ≡ 0
digit_past hash key level five past =
    let half : digit_of hash key level ≡ half_byte_of key (level - 15) = grind (arith, past) in
    let none : slice_index key.0 ((level - 15) / 16) ≡ 0 = get_or-eq_default key.0 0 (omega (arith, five, past)) in
    half ∙ (ap (λ n. n / 2 ^ (4 * (15 - (level - 15) % 16)) % 16) none ∙ nothing_of (2 ^ (4 * (15 - (level - 15) % 16))))

module _ {S V : Type 0} (side_of : V → TrieSide) (digest : Key → ℕ) (layout : Layout) (published : List ℕ) (k k' : Machine S) (words words' : List ℕ)
    (views views' : List V) (conn : ConnId) (key : Key) (way : Way) (leaf : LoadedLeaf) (p : Place) (level first : ℕ) (nodes : List ℕ) where
  abbrev t : TrieWords
  t = trie_words layout words

  abbrev t' : TrieWords
  t' = trie_words layout words'

  abbrev mine : ℕ → ℕ
  mine = digits_of digest key

  abbrev theirs : ℕ → ℕ
  theirs = digits_of digest leaf.key

  abbrev Grows : Type 0
  Grows = GrowsBranch mine theirs t.cell t'.cell (Leaf conn.slot way) (Leaf leaf.slot leaf.way) level p first nodes

  module _ (kept : Trie side_of digest layout published k words views) (gives : GivesKey layout.slots k k' t t' conn key way) (stays : StaysLeaf layout.slots k t leaf)
      (right_leaf : IsRightLeaf layout.slots k.holder t leaf.slot leaf.way) (other_key : is_key leaf.key key ≡ false) (stood : t.cell p ≡ Leaf leaf.slot leaf.way)
      (grows : Grows) (apart : AreApart nodes) (exist : (node : ℕ) → Contains nodes node → node < layout.nodes) (five : length key.0 ≡ 5)
      (elsewhere : (node : ℕ) → t'.parent node ≡ t.parent node) (named : NameParents mine (λ node code. t'.parent node ≡ code) (level + 1) p nodes) where
    small : AreDigits mine
    small = are_digits digest key

    small' : AreDigits theirs
    small' = are_digits digest leaf.key

    told : PathsAfterGrowth mine theirs t.cell t'.cell (Leaf conn.slot way) (Leaf leaf.slot leaf.way) level p nodes
    told = growth_told mine theirs t.cell t'.cell (Leaf conn.slot way) (Leaf leaf.slot leaf.way) level p first nodes grows

    -- the two leaves are of two keys
    two : Leaf conn.slot way ≢ Leaf leaf.slot leaf.way
    two e =
        let slots : conn.slot ≡ leaf.slot = cc in
        let ways : way ≡ leaf.way = cc in
        keys_apart leaf.key key other_key (sym stays.key ∙ ((λ i. t.key (sym slots i) (sym ways i)) ∙ gives.key_is))

    home : LeavesAreHome mine theirs t'.cell (Leaf conn.slot way) (Leaf leaf.slot leaf.way) nodes
    home = leaves_home mine theirs t.cell t'.cell (Leaf conn.slot way) (Leaf leaf.slot leaf.way) level p first nodes grows small small' two (λ e. cc) (λ e. cc)

    -- the keys part no deeper than the last level
    deep : level + length nodes ≤ 94
    deep = ⊎_elim
        (λ (low : level + length nodes < 95). omega (arith, low))
        (λ (past : 95 ≤ level + length nodes).
        let theirs_five : length leaf.key.0 ≡ 5 = ap (λ (x : Key). length x.0) (sym stays.key) in
        let part = branch_parts grows.branch (level + length nodes) (omega arith) in
        absurd (part (digit_past (digest key) key (level + length nodes) five past ∙ sym (digit_past (digest leaf.key) leaf.key (level + length nodes) theirs_five past))))
        (cases_lt (level + length nodes) 95)

    -- a key whose path ended in the place
    held_there : (other : Key) → EndsAt (digits_of digest other) t.cell level p → k.holder other ≡ holder_at t (Leaf leaf.slot leaf.way) other
    held_there other end = kept.ends other level p end ∙ ap (λ c. holder_at t c other) stood

    theirs_apart : (other : Key) (l : ℕ) (q : Place) → EndsAt (digits_of digest other) t'.cell l q → t'.cell q ≢ Leaf leaf.slot leaf.way → is_key leaf.key other ≡ false
    theirs_apart other l q end ne = ⊎_elim
        (λ (same : leaf.key ≡ other). absurd (ne (told.theirs_found l q small' (subst (λ x. EndsAt (digits_of digest x) t'.cell l q) (sym same) end))))
        (λ differ. differ)
        (key_cases leaf.key other)

    mine_apart : (other : Key) (l : ℕ) (q : Place) → EndsAt (digits_of digest other) t'.cell l q → t'.cell q ≢ Leaf conn.slot way → is_key key other ≡ false
    mine_apart other l q end ne = ⊎_elim
        (λ (same : key ≡ other). absurd (ne (told.mine_found l q small (subst (λ x. EndsAt (digits_of digest x) t'.cell l q) (sym same) end))))
        (λ differ. differ)
        (key_cases key other)

    -- who isn't of the leaf that stood there holds nothing
    unheld : (other : Key) → EndsAt (digits_of digest other) t.cell level p → is_key leaf.key other ≡ false → k.holder other ≡ None
    unheld other end differ =
        held_there other end ∙ ((λ i. cond (is_key (stays.key i) other) (Some (leaf_found t leaf.slot leaf.way)) None) ∙ ap (λ b. cond b (Some (leaf_found t leaf.slot leaf.way)) None) differ)

    ends : (other : Key) (l : ℕ) (q : Place) → EndsAt (digits_of digest other) t'.cell l q → k'.holder other ≡ holder_at t' (t'.cell q) other
    ends other l q end = by_end (told.ends (digits_of digest other) l q (are_digits digest other) end)
      where
        keeps : is_key key other ≡ false → k'.holder other ≡ k.holder other
        keeps differ = other_holds digest layout.slots k k' t t' conn key way gives other differ

        by_end : IsEndNow (digits_of digest other) t.cell t'.cell (Leaf conn.slot way) (Leaf leaf.slot leaf.way) level p nodes l q → k'.holder other ≡ holder_at t' (t'.cell q) other
        by_end (end_stays was ne same) =
            keeps (⊎_elim
            (λ (mine_is : key ≡ other). absurd (ne (one_end (subst (λ x. EndsAt (digits_of digest x) t.cell l q) (sym mine_is) was) (record { on_path = grows.mine_there; is_end = grows.was_end })).1))
            (λ differ. differ)
            (key_cases key other))
            ∙ (kept.ends other l q was ∙ (ap (λ c. holder_at t c other) (sym same) ∙ sym (said_same digest layout.slots k k' t t' conn key way gives (t'.cell q) other)))
        by_end (end_grew was grown foot) = ⊎_elim
            (λ (e : t'.cell q ≡ Empty).
            keeps (mine_apart other l q end (λ is. let clash : Empty ≡ Leaf conn.slot way = sym e ∙ is in cc))
            ∙ (unheld other was (theirs_apart other l q end (λ is. let clash : Empty ≡ Leaf leaf.slot leaf.way = sym e ∙ is in cc)) ∙ ap (λ c. holder_at t' c other) (sym e)))
            (λ leafy. ⊎_elim
            (λ (e : t'.cell q ≡ Leaf conn.slot way).
            said_now digest layout.slots k k' t t' conn key way gives other (unheld other was (theirs_apart other l q end (λ is. two (sym e ∙ is)))) ∙ ap (λ c. holder_at t' c other) (sym e))
            (λ (e : t'.cell q ≡ Leaf leaf.slot leaf.way).
            keeps (mine_apart other l q end (λ is. two (sym is ∙ e)))
            ∙ (held_there other was ∙ (sym (said_same digest layout.slots k k' t t' conn key way gives (Leaf leaf.slot leaf.way) other) ∙ ap (λ c. holder_at t' c other) (sym e))))
            leafy)
            foot

    -- a leaf that is met was met before, or is one of the two
    leaf_end : (digits : ℕ → ℕ) (l : ℕ) (q : Place) (slot : ℕ) (w : Way) → AreDigits digits → IsOnPath digits t'.cell l q →
        t'.cell q ≡ Leaf slot w → IsEndNow digits t.cell t'.cell (Leaf conn.slot way) (Leaf leaf.slot leaf.way) level p nodes l q
    leaf_end digits l q slot w are on is = told.ends digits l q are (record { on_path = on; is_end = subst IsEnd (sym is) tt })

    leaves : (digits : ℕ → ℕ) (l : ℕ) (q : Place) (slot : ℕ) (w : Way) → AreDigits digits → IsOnPath digits t'.cell l q → t'.cell q ≡ Leaf slot w → IsRightLeaf layout.slots k'.holder t' slot w
    leaves digits l q slot w are on is = by_end (leaf_end digits l q slot w are on is)
      where
        same_leaf : (slot' : ℕ) (w' : Way) → t'.cell q ≡ Leaf slot' w' → IsRightLeaf layout.slots k'.holder t' slot' w' → IsRightLeaf layout.slots k'.holder t' slot w
        same_leaf slot' w' e right =
            let leaf_is : Leaf slot' w' ≡ Leaf slot w = sym e ∙ is in
            let slots : slot' ≡ slot = cc in
            let ways : w' ≡ w = cc in
            subst (λ (y : ℕ × Way). IsRightLeaf layout.slots k'.holder t' y.0 y.1) (λ i. (slots i, ways i)) right

        by_end : IsEndNow digits t.cell t'.cell (Leaf conn.slot way) (Leaf leaf.slot leaf.way) level p nodes l q → IsRightLeaf layout.slots k'.holder t' slot w
        by_end (end_stays was ne same) = right_still digest layout.slots k k' t t' conn key way gives slot w (kept.leaves digits l q slot w are was.on_path (sym same ∙ is))
        by_end (end_grew was grown foot) = ⊎_elim
            (λ (e : t'.cell q ≡ Empty). let clash : Empty ≡ Leaf slot w = sym e ∙ is in absurd cc)
            (λ leafy. ⊎_elim
            (λ (e : t'.cell q ≡ Leaf conn.slot way). same_leaf conn.slot way e (right_now digest layout.slots k k' t t' conn key way gives))
            (λ (e : t'.cell q ≡ Leaf leaf.slot leaf.way). same_leaf leaf.slot leaf.way e (right_still digest layout.slots k k' t t' conn key way gives leaf.slot leaf.way right_leaf))
            leafy)
            foot

    homes : (digits : ℕ → ℕ) (l : ℕ) (q : Place) (slot : ℕ) (w : Way) → AreDigits digits → IsOnPath digits t'.cell l q →
        t'.cell q ≡ Leaf slot w → IsOnPath (digits_of digest (t'.key slot w)) t'.cell l q
    homes digits l q slot w are on is = by_end (leaf_end digits l q slot w are on is)
      where
        of_key : (slot' : ℕ) (w' : Way) (x : Key) → t'.cell q ≡ Leaf slot' w' → t'.key slot' w' ≡ x →
            IsOnPath (digits_of digest x) t'.cell l q → IsOnPath (digits_of digest (t'.key slot w)) t'.cell l q
        of_key slot' w' x e key_is on' =
            let leaf_is : Leaf slot' w' ≡ Leaf slot w = sym e ∙ is in
            let slots : slot' ≡ slot = cc in
            let ways : w' ≡ w = cc in
            subst (λ y. IsOnPath (digits_of digest y) t'.cell l q) (sym key_is ∙ (λ i. t'.key (slots i) (ways i))) on'

        by_end : IsEndNow digits t.cell t'.cell (Leaf conn.slot way) (Leaf leaf.slot leaf.way) level p nodes l q → IsOnPath (digits_of digest (t'.key slot w)) t'.cell l q
        by_end (end_stays was ne same) =
            let before = kept.homes digits l q slot w are was.on_path (sym same ∙ is) in
            subst (λ x. IsOnPath (digits_of digest x) t'.cell l q) (sym (gives.keys slot w)) (told.old_places (digits_of digest (t.key slot w)) l q (are_digits digest (t.key slot w)) before)
        by_end (end_grew was grown foot) = ⊎_elim
            (λ (e : t'.cell q ≡ Empty). let clash : Empty ≡ Leaf slot w = sym e ∙ is in absurd cc)
            (λ leafy. ⊎_elim
            (λ (e : t'.cell q ≡ Leaf conn.slot way). of_key conn.slot way key e (key_now digest layout.slots k k' t t' conn key way gives) (home.mine_home digits l q are on grown.within e))
            (λ (e : t'.cell q ≡ Leaf leaf.slot leaf.way). of_key leaf.slot leaf.way leaf.key e (gives.keys leaf.slot leaf.way ∙ stays.key) (home.theirs_home digits l q are on grown.within e))
            leafy)
            foot

    nodes_right : (digits : ℕ → ℕ) (l : ℕ) (q : Place) (node : ℕ) → AreDigits digits → IsOnPath digits t'.cell l q → t'.cell q ≡ Node node → IsRightNode layout.nodes (nodes ++ published) l node
    nodes_right digits l q node are on is = by_node (told.nodes_met digits l q node are on is)
      where
        by_node : IsNodeNow digits t.cell level p nodes l q node → IsRightNode layout.nodes (nodes ++ published) l node
        by_node (node_stays was ne same) =
            let right = kept.nodes digits l q node are was same in
            record { exists = right.exists; published_once = Contains-append_right nodes published node right.published_once; within = right.within }
        by_node (node_grew grown) =
            let low = grown.last in
            let most = deep in
            record { exists = exist node grown.within; published_once = Contains-append_left nodes published node grown.within; within = omega (arith, low, most) }

    -- old nodes hang where they hung, and new ones where they say
    parents : Parents t'.cell t'.parent
    parents digits l q node are on is = by_place (told.places digits l q are on)
      where
        by_place : IsPlaceNow digits t.cell t'.cell level p nodes l q → t'.parent node ≡ place_code q
        by_place (place_stays was ne same) = elsewhere node ∙ kept.parents digits l q node are was (sym same ∙ is)
        by_place (place_is_there was there e) =
            let hangs : Node first ≡ Node node = sym grows.hangs ∙ (ap t'.cell (sym e) ∙ is) in
            let same : first ≡ node = cc in
            subst (λ (y : ℕ × Place). t'.parent y.0 ≡ place_code y.1) (λ i. (same i, sym e i)) (first_named (λ n code. t'.parent n ≡ code) grows.leaf_ends grows.other_ends grows.branch p named)
        by_place (place_grew grown) =
            let below = grown.below in
            let place_is = grown.is in
            let within : Contains nodes (slice_index nodes (l - (level + 1))) = subst (IsPlaceOf nodes) place_is grown.within in
            let so = node_named (λ n code. t'.parent n ≡ code) grows.leaf_ends grows.other_ends grows.branch p named (slice_index nodes (l - (level + 1)))
            (digits l) node within (are.node l (omega (arith, below))) (ap t'.cell (sym place_is) ∙ is) in
            so ∙ ap place_code (sym place_is)

    -- the key's path goes down through each new node, so it stands in the place before that one
    hang_new : (node : ℕ) → Contains nodes node → IsHung t'.cell node
    hang_new node c =
        let short = c.1 in
        let down = mine_along mine theirs t.cell t'.cell (Leaf conn.slot way) (Leaf leaf.slot leaf.way) level p first nodes grows small (level + 1 + c.0) (omega arith) (omega (arith, short)) in
        let index : level + 1 + c.0 - (level + 1) ≡ c.0 = omega arith in
        let which : slice_index nodes (level + 1 + c.0 - (level + 1)) ≡ node = ap (slice_index nodes) index ∙ (sym (get_or_default nodes c.0 node 0 short) ∙ c.2) in
        hung_at mine small t'.cell (level + 1 + c.0) (Places.Node (slice_index nodes (level + 1 + c.0 - (level + 1))) (mine (level + 1 + c.0))) node
        (mine (level + 1 + c.0)) down (ap (λ n. Places.Node n (mine (level + 1 + c.0))) which)

    hang_old : (node : ℕ) → Contains published node → IsHung t'.cell node
    hang_old node c =
        let h = kept.hang node c in
        let ne : h.place ≢ p = (λ e. let clash : Leaf leaf.slot leaf.way ≡ Node node = sym stood ∙ (ap t.cell (sym e) ∙ h.there) in cc) in
        record {
          digits = h.digits;
          are = h.are;
          level = h.level;
          place = h.place;
          on_path = told.old_places h.digits h.level h.place h.are h.on_path;
          there = grows.others h.place ne (grows.fresh h.digits h.level h.place h.are h.on_path) ∙ h.there;
        }

    hang : (node : ℕ) → Contains (nodes ++ published) node → IsHung t'.cell node
    hang node c = ⊎_elim (λ new. hang_new node new) (λ old. hang_old node old) (Contains-append_cases nodes published node c)

    pub trie_grown : all_grown side_of views' ≡ length nodes + all_grown side_of views → all_regained side_of views' ≡ all_regained side_of views →
        ((j : ℕ) (v : V) → get_elem? views' j ≡ some v → FitsTrie digest layout.slots k' t' (side_of v)) →
        Trie side_of digest layout (nodes ++ published) k' words' views'
    trie_grown sums back each = record {
      ends = ends;
      leaves = leaves;
      nodes = nodes_right;
      homes = homes;
      levels = grown_levels mine theirs t.cell t'.cell (Leaf conn.slot way) (Leaf leaf.slot leaf.way) level p first nodes grows apart kept.levels;
      parents = parents;
      hang = hang;
      counted = (let more = length-append nodes published in let was = kept.counted in omega (arith, more, was, sums, back));
      each = each;
    }
