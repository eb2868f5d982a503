-- The rows as a list of blocks, and the search for a place in them.
use Rattle.std.proofs.Common.{◌≡◌, ◌≢◌, ◌↔◌, ℕ, List, [], ◌∷◌, ◌+◌, ◌-◌, ◌*◌, ◌<◌, ◌≤◌, suc, zero, Contains, length, get_or, map, refl, sym, ap, ◌∙◌, arith, subst, ⊎_elim}
use Rattle.std.{proofs.lemmas.{Bool.cases_lt, List.{get_or_default, length-map}}, specs.List.{All, AllPairs, insert, remove, zip}}
use Rattle.npf_lpm.specs.{declared.aligned.Aligned.Aligned, Agree.IsAligned, Blocks.{IsAt, IsTakenOut}, Cut.IsCut}
use Rattle.std.proofs.lemmas.List.{Edits.{length-insert, length-remove}, Quantifiers.all_pairs_remove}
use Rattle.npf_lpm.{proofs.ChangeLemmas.{All-insert, All-remove, AllPairs-insert, taken_gone}, specs.Rows.{AreOrdered, IsGap, aligned_blocks, rank}}

pub get_or-blocks : (fs ls : List ℕ) (k : ℕ) (d : Aligned) → length ls ≡ length fs → k < length fs
    → get_or (aligned_blocks fs ls) k d ≡ record { first = get_or fs k 0; len = get_or ls k 0 }
get_or-blocks (f ∷ fs) (l ∷ ls) zero d same lt = refl
get_or-blocks (f ∷ fs) (l ∷ ls) (suc k) d same lt = get_or-blocks fs ls k d (omega arith) (omega arith)
get_or-blocks [] ls k d same lt = absurd (omega arith)
get_or-blocks (f ∷ fs) [] k d same lt = absurd (omega arith)

-- the blocks are the pairs of both rows
pub blocks_of_pairs : (fs ls : List ℕ) → aligned_blocks fs ls ≡ map (λ (p : ℕ × ℕ). record { first = p.0; len = p.1 }) (zip fs ls)
blocks_of_pairs [] ls = refl
blocks_of_pairs (f ∷ fs) [] = refl
blocks_of_pairs (f ∷ fs) (l ∷ ls) = ap (λ bs. record { first = f; len = l } ∷ bs) (blocks_of_pairs fs ls)

pub length-blocks : (fs ls : List ℕ) → length ls ≡ length fs → length (aligned_blocks fs ls) ≡ length fs
length-blocks [] ls same = refl
length-blocks (f ∷ fs) (l ∷ ls) same = ap suc (length-blocks fs ls (omega arith))
length-blocks (f ∷ fs) [] same = absurd (omega arith)

-- a place in both rows is the place in the list
pub blocks-insert : (fs ls : List ℕ) (k f l : ℕ) → length ls ≡ length fs
    → aligned_blocks (insert fs k f) (insert ls k l) ≡ insert (aligned_blocks fs ls) k (record { first = f; len = l })
blocks-insert fs ls zero f l same = refl
blocks-insert [] [] (suc k) f l same = refl
blocks-insert (g ∷ fs) (m ∷ ls) (suc k) f l same = ap (λ bs. record { first = g; len = m } ∷ bs) (blocks-insert fs ls k f l (omega arith))
blocks-insert [] (m ∷ ls) (suc k) f l same = absurd (omega arith)
blocks-insert (g ∷ fs) [] (suc k) f l same = absurd (omega arith)

pub blocks-remove : (fs ls : List ℕ) (k : ℕ) → length ls ≡ length fs → aligned_blocks (remove fs k) (remove ls k) ≡ remove (aligned_blocks fs ls) k
blocks-remove [] [] zero same = refl
blocks-remove [] [] (suc k) same = refl
blocks-remove (g ∷ fs) (m ∷ ls) zero same = refl
blocks-remove (g ∷ fs) (m ∷ ls) (suc k) same = ap (λ bs. record { first = g; len = m } ∷ bs) (blocks-remove fs ls k (omega arith))
blocks-remove [] (m ∷ ls) k same = absurd (omega arith)
blocks-remove (g ∷ fs) [] k same = absurd (omega arith)

pub blocks-maps : (bs : List Aligned) → aligned_blocks (map (λ (b : Aligned). b.first) bs) (map (λ (b : Aligned). b.len) bs) ≡ bs
blocks-maps [] = refl
blocks-maps (b ∷ bs) = ap (λ rest. b ∷ rest) (blocks-maps bs)

-- what follows of the blocks' order for the rows
pub ordered_rows : (fs ls : List ℕ) → length ls ≡ length fs → All IsAligned (aligned_blocks fs ls) → AllPairs (λ p q. rank p < rank q) (aligned_blocks fs ls) → AreOrdered fs ls
ordered_rows fs ls pairs aligned rises = record {
  pairs = pairs;
  aligned = aligned;
  rises = rises;
  climbs = λ i j d le lt. ⊎_elim
      (λ (less : i < j).
      let up = subst (λ (q : Aligned). rank (block i) < rank q) (at j lt)
      (subst (λ (p : Aligned). rank p < rank (get_or bs j none)) (at i (omega arith)) (rises i j none less (omega (arith, long)))) in
      let low = short i (omega arith) in
      let high = short j lt in
      omega (arith, get_or_default fs i 0 d (omega arith), get_or_default fs j 0 d lt))
      (λ (ge : j ≤ i). let same : i ≡ j = omega arith in let eq : get_or fs i d ≡ get_or fs j d = ap (λ k. get_or fs k d) same in omega arith)
      (cases_lt i j);
  short = λ k d lt. let s = short k (omega arith) in omega (arith, get_or_default ls k 0 d lt);
} where
  bs : List Aligned
  bs = aligned_blocks fs ls

  none : Aligned
  none = record { first = 0; len = 0 }

  block : ℕ → Aligned
  block k = record { first = get_or fs k 0; len = get_or ls k 0 }

  long : length bs ≡ length fs
  long = length-blocks fs ls pairs

  at : (k : ℕ) → k < length fs → get_or bs k none ≡ block k
  at k lt = get_or-blocks fs ls k none pairs lt

  short : (k : ℕ) → k < length fs → get_or ls k 0 ≤ 128
  short k lt = (subst IsAligned (at k lt) (aligned k none (omega (arith, long)))).short

-- no block from the place on stands before this one
pub record IsHighCut (fs ls : List ℕ) (block : Aligned) (count place : ℕ) : Type 0 where
  pub most : place ≤ count
  pub behind : (k : ℕ) (d : Aligned) → place ≤ k → k < length (aligned_blocks fs ls) → rank block ≤ rank (get_or (aligned_blocks fs ls) k d)

module _ (fs ls : List ℕ) (block : Aligned) (count : ℕ) where
  pub high_first : AreOrdered fs ls → block.len ≤ 128 → IsCut (λ first. first) (block.first + 1) fs count → IsHighCut fs ls block count count
  high_first h short cut = record {
    most = omega arith;
    behind = λ k d ge lt.
        let within : k < length fs = omega (arith, length-blocks fs ls h.pairs) in
        let above = cut.behind k 0 ge within in
        subst (λ (b : Aligned). rank block ≤ rank b) (sym (get_or-blocks fs ls k d h.pairs within)) (omega arith);
  }

  module _ (place : ℕ) (h : AreOrdered fs ls) (most : count ≤ length fs) (high : IsHighCut fs ls block count place) (some : 0 < place) where
    abbrev before : ℕ
    before = place - 1

    at_before : (d : Aligned) → get_or (aligned_blocks fs ls) before d ≡ record { first = get_or fs before 0; len = get_or ls before 0 }
    at_before d = let le = high.most in let lt : place - 1 < length fs = omega arith in get_or-blocks fs ls (place - 1) d h.pairs lt

    pub high_cut : get_or fs before 0 * 256 + get_or ls before 0 < rank block → IsCut rank (rank block) (aligned_blocks fs ls) place
    high_cut less = let le = high.most in record {
      most = omega (arith, length-blocks fs ls h.pairs);
      before = λ k d lt.
          let last : rank (get_or (aligned_blocks fs ls) before d) < rank block = subst (λ (b : Aligned). rank b < rank block) (sym (at_before d)) less in
          ⊎_elim
          (λ (early : k < before). let up = h.rises k before d early (omega (arith, length-blocks fs ls h.pairs)) in omega arith)
          (λ (late : before ≤ k). let same : before ≡ k = omega arith in subst (λ (i : ℕ). rank (get_or (aligned_blocks fs ls) i d) < rank block) same last)
          (cases_lt k before);
      behind = high.behind;
    }

    pub high_more : ¬ (get_or fs before 0 * 256 + get_or ls before 0 < rank block) → IsHighCut fs ls block count before
    high_more not = record {
      most = let le = high.most in omega arith;
      behind = λ k d ge lt. ⊎_elim
          (λ (late : before < k). high.behind k d (omega arith) lt)
          (λ (early : k ≤ before).
          let same : before ≡ k = omega arith in
          let here : rank block ≤ get_or fs before 0 * 256 + get_or ls before 0 =
          ⊎_elim (λ less. absurd (not less)) (λ ge. ge) (cases_lt (get_or fs before 0 * 256 + get_or ls before 0) (rank block)) in
          subst (λ (i : ℕ). rank block ≤ rank (get_or (aligned_blocks fs ls) i d)) same (subst (λ (b : Aligned). rank block ≤ rank b) (sym (at_before d)) here))
          (cases_lt before k);
    }

pub at_place : (fs ls : List ℕ) (place : ℕ) (block : Aligned) → length ls ≡ length fs → place < length fs
    → (record { first = get_or fs place 0; len = get_or ls place 0 } ≡ block) ↔ IsAt (aligned_blocks fs ls) block place
at_place fs ls place block same lt = (
  λ is. record { within = omega (arith, length-blocks fs ls same); is = λ d. get_or-blocks fs ls place d same lt ∙ is },
  λ there. sym (get_or-blocks fs ls place block same lt) ∙ there.is block,
)

-- a block that isn't at its place isn't there
pub cut_absent : (fs ls : List ℕ) (block : Aligned) (place : ℕ) → AreOrdered fs ls → IsCut rank (rank block) (aligned_blocks fs ls) place
    → ¬ IsAt (aligned_blocks fs ls) block place → ¬ Contains (aligned_blocks fs ls) block
cut_absent fs ls block place h cut not (k, lt, is) =
    let mine : rank (get_or (aligned_blocks fs ls) k block) ≡ rank block = ap rank is in
    ⊎_elim
    (λ (early : k < place). let less = cut.before k block early in omega (arith, mine))
    (λ (ge : place ≤ k). ⊎_elim
    (λ (late : place < k).
    let up = h.rises place k block late lt in
    let above = cut.behind place block (omega arith) (omega arith) in
    omega (arith, mine))
    (λ (le : k ≤ place).
    let same : k ≡ place = omega arith in
    not (subst (IsAt (aligned_blocks fs ls) block) same (record { within = lt; is = λ d. get_or_default (aligned_blocks fs ls) k d block lt ∙ is })))
    (cases_lt place k))
    (cases_lt k place)

first_same : (f g l m : ℕ) → l ≤ 128 → m ≤ 128 → f * 256 + l ≡ g * 256 + m → f ≡ g
first_same f g l m short small same = omega arith

len_same : (f g l m : ℕ) → l ≤ 128 → m ≤ 128 → f * 256 + l ≡ g * 256 + m → l ≡ m
len_same f g l m short small same = omega arith

-- the rows with a block at its place, and without the one at a place
pub put_ordered : (fs ls : List ℕ) (block : Aligned) (place : ℕ) → AreOrdered fs ls → IsGap (aligned_blocks fs ls) block place → IsAligned block
    → AreOrdered (insert fs place block.first) (insert ls place block.len)
put_ordered fs ls block place h gap one =
    let bs = aligned_blocks fs ls in
    let is : aligned_blocks (insert fs place block.first) (insert ls place block.len) ≡ insert bs place block = blocks-insert fs ls place block.first block.len h.pairs in
    let most = gap.between.most in
    let within : place ≤ length fs = omega (arith, length-blocks fs ls h.pairs) in
    let pairs : length (insert ls place block.len) ≡ length (insert fs place block.first) =
    omega (arith, length-insert ls place block.len (omega (arith, h.pairs)), length-insert fs place block.first within, h.pairs) in
    ordered_rows _ _ pairs
    (subst (λ (l : List Aligned). All IsAligned l) (sym is) (All-insert IsAligned bs place block one h.aligned))
    (subst (λ (l : List Aligned). AllPairs (λ p q. rank p < rank q) l) (sym is) (AllPairs-insert (λ p q. rank p < rank q) bs place block most h.rises gap.between.before
    (λ k d ge lt. apart k d lt (gap.between.behind k d ge lt)))) where
      apart : (k : ℕ) (d : Aligned) → k < length (aligned_blocks fs ls) → rank block ≤ rank (get_or (aligned_blocks fs ls) k d) → rank block < rank (get_or (aligned_blocks fs ls) k d)
      apart k d lt le = ⊎_elim (λ less. less) (λ (ge : rank (get_or (aligned_blocks fs ls) k d) ≤ rank block).
          let b = get_or (aligned_blocks fs ls) k d in
          let short = (h.aligned k d lt).short in
          let small = one.short in
          let same : b ≡ block = λ i. record {
            first = first_same b.first block.first b.len block.len (omega arith) (omega arith) (omega arith) i;
            len = len_same b.first block.first b.len block.len (omega arith) (omega arith) (omega arith) i;
          } in
          absurd (gap.absent (k, lt, get_or_default (aligned_blocks fs ls) k block d lt ∙ same)))
          (cases_lt (rank block) (rank (get_or (aligned_blocks fs ls) k d)))

pub take_ordered : (fs ls : List ℕ) (place : ℕ) → AreOrdered fs ls → place < length fs → AreOrdered (remove fs place) (remove ls place)
take_ordered fs ls place h within =
    let bs = aligned_blocks fs ls in
    let is : aligned_blocks (remove fs place) (remove ls place) ≡ remove bs place = blocks-remove fs ls place h.pairs in
    let pairs : length (remove ls place) ≡ length (remove fs place) = omega (arith, length-remove ls place (omega (arith, h.pairs)), length-remove fs place within, h.pairs) in
    ordered_rows _ _ pairs
    (subst (λ (l : List Aligned). All IsAligned l) (sym is) (All-remove IsAligned bs place h.aligned))
    (subst (λ (l : List Aligned). AllPairs (λ p q. rank p < rank q) l) (sym is) (all_pairs_remove (λ p q. rank p < rank q) bs place (omega (arith, length-blocks fs ls h.pairs)) h.rises))

pub maps_ordered : (bs : List Aligned) → All IsAligned bs → AllPairs (λ p q. rank p < rank q) bs → AreOrdered (map (λ b. b.first) bs) (map (λ b. b.len) bs)
maps_ordered bs aligned rises = ordered_rows _ _ (length-map bs (λ (b : Aligned). b.len) ∙ sym (length-map bs (λ (b : Aligned). b.first)))
    (subst (λ (l : List Aligned). All IsAligned l) (sym (blocks-maps bs)) aligned)
    (subst (λ (l : List Aligned). AllPairs (λ p q. rank p < rank q) l) (sym (blocks-maps bs)) rises)

pub taken_out : (fs ls : List ℕ) (new : List Aligned) (block : Aligned) (place : ℕ) → AreOrdered fs ls → IsAt (aligned_blocks fs ls) block place
    → new ≡ remove (aligned_blocks fs ls) place → IsTakenOut (aligned_blocks fs ls) new block
taken_out fs ls new block place h there taken =
    let once : AllPairs (λ p q. p ≢ q) (aligned_blocks fs ls) = λ i j d lt within same. let less = h.rises i j d lt within in omega (arith, ap rank same) in
    record { place = place; there = there; taken = taken; gone = subst (λ (l : List Aligned). ¬ Contains l block) (sym taken) (taken_gone (aligned_blocks fs ls) block place once there) }
