-- The sets of a box's dimensions, of which one changes.
use Rattle.std.proofs.Common.{◌≡◌, ◌≢◌, ℕ, zero, suc, ◌+◌, ◌-◌, ◌<◌, ◌≤◌, List, length, get_or, take, drop, sym, ap, ◌∙◌, inl, inr, arith}
use Rattle.std.{specs.List.slice_range, proofs.lemmas.{Bool.cases_lt, List.{drop-take, length-take, length-drop}, Slice.{between-put_mid, drop-put_mid, take-put_mid_below}}}
use borrow.Rule.Slice.PartMut.{put_mid}
use Rattle.npf_boxes.specs.declared.shape.Shape.{Shape}
use Rattle.npf_boxes.specs.Cell.{section, words_of}

rise : (starts : List ℕ) → ((d : ℕ) → d < 6 → get_or starts d 0 ≤ get_or starts (d + 1) 0) → (i n : ℕ) → i + n ≤ 6
    → get_or starts i 0 ≤ get_or starts (i + n) 0
rise starts rises i zero h =
    let same : i + 0 ≡ i = omega arith in
    omega (arith, ap (λ k. get_or starts k 0) same)
rise starts rises i (suc n) h =
    let same : i + suc n ≡ i + n + 1 = omega arith in
    let before : get_or starts i 0 ≤ get_or starts (i + n) 0 = rise starts rises i n (omega arith) in
    let next : get_or starts (i + n) 0 ≤ get_or starts (i + n + 1) 0 = rises (i + n) (omega arith) in
    omega (arith, ap (λ k. get_or starts k 0) same)

pub starts_rise : (shape : Shape) (i j : ℕ) → i ≤ j → j ≤ 6 → get_or shape.starts i 0 ≤ get_or shape.starts j 0
starts_rise shape i j order within =
    let same : i + (j - i) ≡ j = omega arith in
    let rises : get_or shape.starts i 0 ≤ get_or shape.starts (i + (j - i)) 0 = rise shape.starts shape.in_order i (j - i) (omega arith) in
    omega (arith, ap (λ k. get_or shape.starts k 0) same)

pub length-section : (shape : Shape) (d : ℕ) (box : List ℕ) → d < 6 → length box ≡ words_of shape
    → length (section shape d box) ≡ get_or shape.starts (d + 1) 0 - get_or shape.starts d 0
unfolding section
length-section shape d box within whole =
    let from : ℕ = get_or shape.starts d 0 in
    let to : ℕ = get_or shape.starts (d + 1) 0 in
    let ends : to ≤ words_of shape = starts_rise shape (d + 1) 6 (omega arith) (omega arith) in
    omega (arith, length-take {A = ℕ} (to - from) (drop from box), length-drop {A = ℕ} from box)

-- boxes have sets of one length
pub same_lengths : (shape : Shape) (d : ℕ) (box other set : List ℕ) → d < 6 → length box ≡ words_of shape → length other ≡ words_of shape
    → set ≡ section shape d other → length (section shape d box) ≡ length set
same_lengths shape d box other set within whole other_whole is =
    length-section shape d box within whole ∙ sym (ap length is ∙ length-section shape d other within other_whole)

-- a dimension is written
pub section_written : (shape : Shape) (d : ℕ) (box set : List ℕ) → d < 6 → length box ≡ words_of shape → length set ≡ length (section shape d box)
    → section shape d (put_mid (get_or shape.starts d 0) (get_or shape.starts (d + 1) 0 - get_or shape.starts d 0) box set) ≡ set
unfolding section
section_written shape d box set within whole same =
    let len = same ∙ length-section shape d box within whole in
    let ends : get_or shape.starts d 0 ≤ words_of shape = starts_rise shape d 6 (omega arith) (omega arith) in
    between-put_mid (get_or shape.starts d 0) (get_or shape.starts (d + 1) 0 - get_or shape.starts d 0) box set (get_or shape.starts (d + 1) 0) (omega arith) len

-- and the others stay
pub range_is : (xs : List ℕ) (from to : ℕ) → from ≤ to → slice_range xs from to ≡ drop from (take to xs)
range_is xs from to order =
    let same : from + (to - from) ≡ to = omega arith in
    sym (drop-take from (to - from) xs) ∙ ap (λ n. drop from (take n xs)) same

pub section_kept : (shape : Shape) (d other : ℕ) (box set : List ℕ) → d < 6 → other < 6 → other ≢ d → length box ≡ words_of shape
    → length set ≡ length (section shape d box)
    → section shape other (put_mid (get_or shape.starts d 0) (get_or shape.starts (d + 1) 0 - get_or shape.starts d 0) box set) ≡ section shape other box
unfolding section
section_kept shape d other box set within other_within apart whole same =
    let len = same ∙ length-section shape d box within whole in
    let a : ℕ = get_or shape.starts d 0 in
    let k : ℕ = get_or shape.starts (d + 1) 0 - a in
    let from : ℕ = get_or shape.starts other 0 in
    let to : ℕ = get_or shape.starts (other + 1) 0 in
    let order : from ≤ to = shape.in_order other other_within in
    let own : a ≤ get_or shape.starts (d + 1) 0 = shape.in_order d within in
    let ends : get_or shape.starts (d + 1) 0 ≤ words_of shape = starts_rise shape (d + 1) 6 (omega arith) (omega arith) in
    let room : a ≤ length box = omega arith in
    elim (cases_lt other d) [
      | inl before ↦
          let below : to ≤ a = starts_rise shape (other + 1) d (omega arith) (omega arith) in
          range_is (put_mid a k box set) from to order
          ∙ ap (drop from) (take-put_mid_below a k box set to below room)
          ∙ sym (range_is box from to order)
      | inr behind ↦
          let above : get_or shape.starts (d + 1) 0 ≤ from = starts_rise shape (d + 1) other (omega arith) (omega arith) in
          let far : a + k ≤ from = omega arith in
          ap (take (to - from)) (drop-put_mid a k box set from far room len)
    ]
