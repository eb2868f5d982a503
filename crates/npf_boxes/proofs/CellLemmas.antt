-- Which cells a box has, from the sets of its dimensions.
use Rattle.std.proofs.Common.{◌≡◌, ◌≢◌, ℕ, zero, suc, ◌+◌, ◌-◌, ◌*◌, ◌/◌, ◌<◌, ◌≤◌, ◌&&◌, ◌||◌, Bool, true, false, not, List, [], ◌∷◌, ◌++◌, length, get_or, set, take, drop}
use Rattle.std.proofs.Common.{refl, sym, ap, ◌∙◌, inl, inr, arith, get_or-set_same, get_or-set_other}
use Rattle.std.{specs.List.{list_all, range_with_len, slice_range}, proofs.lemmas.List.take_at}
use Rattle.std.proofs.lemmas.Bool.{and_from, and_parts, cases_Bool, cases_eq, cases_lt, both_ways, false_from_ne_true, not_from_false, true_from_ne_false}
use Rattle.npf_bits.{specs.Bits.has, proofs.BitLemmas.{has_range, has_range_past}}
use Rattle.npf_boxes.specs.declared.shape.Shape.{Shape}
use Rattle.npf_boxes.specs.Cell.{HasCell, IsPart, in_box, section}
use Rattle.npf_boxes.specs.Fit.{IsWithinAt}

all_parts : (p : ℕ → Bool) (from n : ℕ) → list_all p (range_with_len from n) ≡ true → (k : ℕ) → from ≤ k → k < from + n → p k ≡ true
all_parts p from zero all k low high = absurd (omega arith)
all_parts p from (suc n) all k low high =
    let both = and_parts _ _ all in
    elim (cases_eq k from) [
      | inl same ↦ ap p same ∙ both.0
      | inr later ↦ all_parts p (from + 1) n both.1 k (omega arith) (omega arith)
    ]

all_from : (p : ℕ → Bool) (from n : ℕ) → ((k : ℕ) → from ≤ k → k < from + n → p k ≡ true) → list_all p (range_with_len from n) ≡ true
all_from p from zero each = refl
all_from p from (suc n) each =
    and_from _ _ (each from (omega arith) (omega arith)) (all_from p (from + 1) n (λ k low high. each k (omega arith) (omega arith)))

pub box_parts : (shape : Shape) (box cell : List ℕ) → in_box shape box cell ≡ true → (d : ℕ) → d < 6 → has (section shape d box) (get_or cell d 0) ≡ true
unfolding in_box
box_parts shape box cell within d low = all_parts (λ k. has (section shape k box) (get_or cell k 0)) 0 6 within d (omega arith) (omega arith)

pub box_from : (shape : Shape) (box cell : List ℕ) → ((d : ℕ) → d < 6 → has (section shape d box) (get_or cell d 0) ≡ true) → in_box shape box cell ≡ true
unfolding in_box
box_from shape box cell each = all_from (λ k. has (section shape k box) (get_or cell k 0)) 0 6 (λ k low high. each k (omega arith))

-- ---- how boxes lie to each other
pub apart_at : (shape : Shape) (box other : List ℕ) (d : ℕ) → d < 6
    → ((n : ℕ) → has (section shape d box) n ≡ true → has (section shape d other) n ≡ true → ⊥)
    → (cell : List ℕ) → in_box shape box cell ≡ true → in_box shape other cell ≡ true → ⊥
apart_at shape box other d low apart cell in_own in_other =
    apart (get_or cell d 0) (box_parts shape box cell in_own d low) (box_parts shape other cell in_other d low)

pub within_all : (shape : Shape) (box other : List ℕ) → ((d : ℕ) → d < 6 → IsWithinAt shape box other d) → IsPart shape box other
within_all shape box other each cell within =
    box_from shape other cell (λ d low. each d low (get_or cell d 0) (box_parts shape box cell within d low))

pub apart_sets : (shape : Shape) (box other own theirs : List ℕ) (d : ℕ) → d < 6 → own ≡ section shape d box → theirs ≡ section shape d other
    → ((n : ℕ) → has own n ≡ true → has theirs n ≡ true → ⊥)
    → (cell : List ℕ) → in_box shape box cell ≡ true → in_box shape other cell ≡ true → ⊥
apart_sets shape box other own theirs d low own_is theirs_is apart =
    apart_at shape box other d low (λ n a b. apart n (ap (λ set. has set n) own_is ∙ a) (ap (λ set. has set n) theirs_is ∙ b))

pub within_sets : (shape : Shape) (box other own theirs : List ℕ) (d : ℕ) → own ≡ section shape d box → theirs ≡ section shape d other
    → ((n : ℕ) → has own n ≡ true → has theirs n ≡ true) → IsWithinAt shape box other d
within_sets shape box other own theirs d own_is theirs_is within n in_own =
    sym (ap (λ set. has set n) theirs_is) ∙ within n (ap (λ set. has set n) own_is ∙ in_own)

-- ---- a box that changes in one dimension
pub changed_within : (shape : Shape) (d : ℕ) (box part : List ℕ) → d < 6
    → ((n : ℕ) → has (section shape d part) n ≡ true → has (section shape d box) n ≡ true)
    → ((e : ℕ) → e < 6 → e ≢ d → section shape e part ≡ section shape e box)
    → IsPart shape part box
changed_within shape d box part low here elsewhere cell in_part = box_from shape box cell (λ e e_low. elim (cases_eq e d) [
  | inl same ↦
      ap (λ k. has (section shape k box) (get_or cell k 0)) same ∙ here (get_or cell d 0) (box_parts shape part cell in_part d low)
  | inr other ↦ sym (ap (λ set. has set (get_or cell e 0)) (elsewhere e e_low other)) ∙ box_parts shape part cell in_part e e_low
])

pub changed_has : (shape : Shape) (d : ℕ) (box part cell : List ℕ) → ((e : ℕ) → e < 6 → e ≢ d → section shape e part ≡ section shape e box)
    → in_box shape box cell ≡ true → has (section shape d part) (get_or cell d 0) ≡ true → in_box shape part cell ≡ true
changed_has shape d box part cell elsewhere in_own here = box_from shape part cell (λ e e_low. elim (cases_eq e d) [
  | inl same ↦ ap (λ k. has (section shape k part) (get_or cell k 0)) same ∙ here
  | inr other ↦ ap (λ set. has set (get_or cell e 0)) (elsewhere e e_low other) ∙ box_parts shape box cell in_own e e_low
])

-- what a box loses with what another has in one dimension, that has there
pub removed_has : (shape : Shape) (d : ℕ) (box part theirs cell : List ℕ) → d < 6
    → ((n : ℕ) → has (section shape d part) n ≡ (has (section shape d box) n && not (has (section shape d theirs) n)))
    → ((e : ℕ) → e < 6 → e ≢ d → section shape e part ≡ section shape e box)
    → in_box shape box cell ≡ true → in_box shape part cell ≡ false → has (section shape d theirs) (get_or cell d 0) ≡ true
removed_has shape d box part theirs cell low here elsewhere in_own out =
    true_from_ne_false _ (λ free.
    let there = here (get_or cell d 0) ∙ and_from _ _ (box_parts shape box cell in_own d low) (not_from_false _ free) in
    both_ways _ out (changed_has shape d box part cell elsewhere in_own there))

pub or_none : (x y : Bool) → y ≡ false → (x || y) ≡ x
or_none true y none = refl
or_none false y none = none

-- ---- the least cell
pub no_cell : (shape : Shape) (box set : List ℕ) (d : ℕ) → d < 6 → set ≡ section shape d box → ((n : ℕ) → has set n ≡ false)
    → (cell : List ℕ) → in_box shape box cell ≡ false
no_cell shape box set d low set_is none cell =
    false_from_ne_true _ (λ within.
    both_ways _ (none (get_or cell d 0)) (ap (λ s. has s (get_or cell d 0)) set_is ∙ box_parts shape box cell within d low))

pub record IsLeastBelow (shape : Shape) (box cell : List ℕ) (at : ℕ) : Type 0 where
  pub there : (d : ℕ) → d < at → has (section shape d box) (get_or cell d 0) ≡ true
  pub least : (d n : ℕ) → d < at → n < get_or cell d 0 → has (section shape d box) n ≡ false

pub least_more : (shape : Shape) (box cell own : List ℕ) (at least : ℕ) → at < length cell → own ≡ section shape at box
    → (has own least ≡ true) × ((n : ℕ) → n < least → has own n ≡ false)
    → IsLeastBelow shape box cell at → IsLeastBelow shape box (set cell at least) (at + 1)
least_more shape box cell own at least inside own_is first before = record {
  there = λ d below. elim (cases_eq d at) [
    | inl same ↦
        ap (λ k. has (section shape k box) (get_or (set cell at least) k 0)) same
        ∙ ap (λ n. has (section shape at box) n) (get_or-set_same cell at least 0 inside)
        ∙ sym (ap (λ s. has s least) own_is) ∙ first.0
    | inr other ↦
        ap (λ n. has (section shape d box) n) (get_or-set_other cell at d least 0 other) ∙ before.there d (omega arith)
  ];
  least = λ d n below less. elim (cases_eq d at) [
    | inl same ↦
        let value : get_or (set cell at least) d 0 ≡ least =
        ap (λ k. get_or (set cell at least) k 0) same ∙ get_or-set_same cell at least 0 inside in
        ap (λ k. has (section shape k box) n) same ∙ sym (ap (λ s. has s n) own_is) ∙ first.1 n (omega arith)
    | inr other ↦
        let value : get_or (set cell at least) d 0 ≡ get_or cell d 0 = get_or-set_other cell at d least 0 other in
        before.least d n (omega arith) (omega arith)
  ];
}

pub least_whole : (shape : Shape) (box least : List ℕ) → IsLeastBelow shape box least 6
    → (in_box shape box least ≡ true) × ((cell : List ℕ) (d : ℕ) → in_box shape box cell ≡ true → d < 6 → get_or least d 0 ≤ get_or cell d 0)
least_whole shape box least each = (
  box_from shape box least each.there,
  λ cell d within low. elim (cases_lt (get_or cell d 0) (get_or least d 0)) [
    | inl less ↦ absurd (both_ways _ (each.least d (get_or cell d 0) low less) (box_parts shape box cell within d low))
    | inr order ↦ order
  ],
)

-- ---- the cells of two boxes
pub met_more : (shape : Shape) (a b own theirs : List ℕ) (at : ℕ) → own ≡ section shape at a → theirs ≡ section shape at b
    → ((d : ℕ) → d < at → (n : ℕ) × (has (section shape d a) n ≡ true) × (has (section shape d b) n ≡ true))
    → ((n : ℕ) × (has own n ≡ true) × (has theirs n ≡ true))
    → (d : ℕ) → d < at + 1 → (n : ℕ) × (has (section shape d a) n ≡ true) × (has (section shape d b) n ≡ true)
met_more shape a b own theirs at own_is theirs_is before here d below =
    elim (cases_eq d at) [
      | inl same ↦
          let set_of : List ℕ → ℕ → Bool = λ box k. has (section shape k box) here.0 in
          (here.0, ap (set_of a) same ∙ sym (ap (λ s. has s here.0) own_is) ∙ here.1, ap (set_of b) same ∙ sym (ap (λ s. has s here.0) theirs_is) ∙ here.2)
      | inr other ↦ before d (omega arith)
    ]

choose : (P : ℕ → ℕ → Type 0) (n : ℕ) → ((d : ℕ) → d < n → (class : ℕ) × P d class)
    → (cell : List ℕ) × ((d : ℕ) → d < n → P d (get_or cell d 0))
choose P zero each = ([], λ d low. absurd (omega arith))
choose P (suc n) each =
    let first = each zero (omega arith) in
    let rest = choose (λ d. P (suc d)) n (λ d low. each (suc d) (omega arith)) in
    (first.0 ∷ rest.0, at_each first.0 first.1 rest.0 rest.1)
  where
    at_each : (class : ℕ) → P zero class → (cell : List ℕ) → ((d : ℕ) → d < n → P (suc d) (get_or cell d 0))
        → (d : ℕ) → d < suc n → P d (get_or (class ∷ cell) d 0)
    at_each class here cell later zero low = here
    at_each class here cell later (suc d) low = later d (omega arith)

section_met : (shape : Shape) (a b both : List ℕ) (d n : ℕ) → ((k : ℕ) → has both k ≡ (has a k && has b k))
    → has (section shape d both) n ≡ (has (section shape d a) n && has (section shape d b) n)
unfolding section
section_met shape a b both d n each =
    let from : ℕ = get_or shape.starts d 0 in
    let to : ℕ = get_or shape.starts (d + 1) 0 in
    elim (cases_lt (n / 64) (to - from)) [
      | inl within ↦
          has_range both from to n within ∙ each (64 * from + n)
          ∙ sym (ap (λ t. t && has b (64 * from + n)) (has_range a from to n within))
          ∙ sym (ap (λ t. has (slice_range a from to) n && t) (has_range b from to n within))
      | inr past ↦
          has_range_past both from to n past ∙ sym (ap (λ t. t && has (slice_range b from to) n) (has_range_past a from to n past))
    ]

pub box_met : (shape : Shape) (a b both cell : List ℕ) → ((k : ℕ) → has both k ≡ (has a k && has b k))
    → in_box shape both cell ≡ (in_box shape a cell && in_box shape b cell)
box_met shape a b both cell each =
    elim (cases_Bool (in_box shape both cell)) [
      | inl in_it ↦
          let in_both : (d : ℕ) → d < 6 → (has (section shape d a) (get_or cell d 0) && has (section shape d b) (get_or cell d 0)) ≡ true =
          λ d low. sym (section_met shape a b both d (get_or cell d 0) each) ∙ box_parts shape both cell in_it d low in
          in_it ∙ sym (and_from _ _
          (box_from shape a cell (λ d low. (and_parts _ _ (in_both d low)).0))
          (box_from shape b cell (λ d low. (and_parts _ _ (in_both d low)).1)))
      | inr out ↦
          out ∙ sym (false_from_ne_true _ (λ in_both.
          let parts = and_parts _ _ in_both in
          both_ways _ out (box_from shape both cell (λ d low.
          section_met shape a b both d (get_or cell d 0) each
          ∙ and_from _ _ (box_parts shape a cell parts.0 d low) (box_parts shape b cell parts.1 d low)))))
    ]

pub has_met : (shape : Shape) (a b both : List ℕ) → ((k : ℕ) → has both k ≡ (has a k && has b k))
    → ((d : ℕ) → d < 6 → (n : ℕ) × (has (section shape d a) n ≡ true) × (has (section shape d b) n ≡ true))
    → HasCell shape both
has_met shape a b both each shared =
    let cell = choose (λ d class. has (section shape d both) class ≡ true) 6 (λ d low.
    let n = shared d low in
    (n.0, section_met shape a b both d n.0 each ∙ and_from _ _ n.1 n.2)) in
    (cell.0, box_from shape both cell.0 cell.1)

-- what a `Vec` has after a write to all of it
pub all_written : (len : ℕ) (xs ys : List ℕ) → length ys ≡ len → take len (ys ++ drop (length ys) xs) ≡ ys
all_written len xs ys is = take_at ys (drop (length ys) xs) len is
