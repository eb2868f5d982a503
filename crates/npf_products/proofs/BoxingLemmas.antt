-- Boxes that conditions narrow.
use Rattle.std.proofs.Common.{◌≡◌, ◌≢◌, ◌≤◌, ◌<◌, ◌↔◌, ◌&&◌, ℕ, zero, suc, ◌+◌, true, List, [], ◌∷◌, length, get_or, refl, sym, ap, ◌∙◌, subst, inl, inr, arith}
use Rattle.std.specs.Prelude.{nat_lt}
use Rattle.std.proofs.lemmas.{Bool.{and_parts, cases_eq, lt-ltb, ltb-true}, List.get_or_default}
use Rattle.npf_bits.specs.Bits.{has}
use Rattle.npf_boxes.specs.declared.shape.Shape.{Shape}
use Rattle.npf_boxes.specs.Cell.{in_box, section}
use Rattle.npf_boxes.proofs.CellLemmas.{box_from, box_parts, changed_within}
use Rattle.npf_cut.specs.declared.set_bits.SetBits.{SetBits}
use Rattle.npf_cut.specs.declared.range.Range.{Range}
use Rattle.npf_cut.specs.Dimension.{HasClass, IsCutBy, class_at, class_count}
use Rattle.npf_products.specs.declared.axis.Axis.{Axis}
use Rattle.npf_products.specs.declared.condition.Condition.{Condition}
use Rattle.npf_products.specs.declared.kind.PacketKind.{PacketKind}
use Rattle.npf_products.specs.Axis.{AreAllRows, AreAxes, IsCell, cell_of_numbers}
use Rattle.npf_products.specs.OwnSet.{IsOwnSet}
use Rattle.npf_products.specs.Condition.{Ranges, fits, has_number, tables_in, unless_excluded}
use Rattle.npf_products.specs.Narrow.{some_has_class}
use Rattle.npf_products.specs.Number.{AreNumbers}
use Rattle.npf_products.specs.Sets.{IsSet}
use Rattle.npf_products.proofs.NarrowLemmas.{class_in, classes_same, narrowed}

-- a set has a number's class where ranges have the number
told_by : (axis : Axis) (ranges : List Range) (top set count number : ℕ) (own : Ranges) → IsCutBy ranges top axis.dimension → number ≤ top
    → IsSet ranges count set own → HasClass axis.dimension set (class_at axis.dimension number) ↔ (has_number own number ≡ true)
told_by axis ranges top set count number own cut small is = (
  λ has_class. (is.same number).0 ((cut.told set number small).0 has_class),
  λ has_it. (cut.told set number small).1 ((is.same number).1 has_it),
)

pub some_axis : (axes : List Axis) → length axes ≡ 6 → Axis
some_axis [] six = absurd (omega arith)
some_axis (axis ∷ axes) six = axis

module _ (kind : PacketKind) (tables : List Ranges) (lists : List (List Condition)) (axes : List Axis) (six : length axes ≡ 6) (cut : AreAxes kind tables lists axes) where
  -- the set of a condition of a list
  pub own_set : (list at own : ℕ) (none : Condition) → list < length lists → at < length (get_or lists list [])
      → (get_or (get_or lists list []) at none).dimension < 6
      → ((axis : Axis) → own ≡ get_or (get_or (get_or axes (get_or (get_or lists list []) at none).dimension axis).numbers.items list []) at 0)
      → IsOwnSet kind axes (get_or (get_or lists list []) at none) own
  own_set list at own none low inside dimension is =
      let condition = get_or (get_or lists list []) at none in
      let d = condition.dimension in
      record {
        known = λ axis.
            let set = (cut d axis dimension).sets.of_lists list low at none inside refl in
            subst (λ n. n < (get_or axes d axis).count) (sym (is axis)) set.known;
        same = λ axis number small.
            let cuts = cut d axis dimension in
            let own_axis = get_or axes d axis in
            let set = cuts.sets.of_lists list low at none inside refl in
            subst (λ n. HasClass own_axis.dimension n (class_at own_axis.dimension number) ↔ (has_number condition.ranges.items number ≡ true)) (sym (is axis))
            (told_by own_axis cuts.ranges _ _ _ number _ cuts.cut small set);
      }

  -- what a condition leaves of a box
  pub met_by : (shape : Shape) (rows : List SetBits) (bits : SetBits) (condition : Condition) (own : ℕ) (old new : List ℕ) → AreAllRows axes rows
      → bits ≡ get_or rows condition.dimension bits → IsOwnSet kind axes condition own
      → ((n : ℕ) → has (section shape condition.dimension new) n
      ≡ (has (section shape condition.dimension old) n
      && unless_excluded condition.excluded (some_has_class bits own (length (tables_in condition.dimension tables)) condition.tables.items n)))
      → ((e : ℕ) → e < 6 → e ≢ condition.dimension → section shape e new ≡ section shape e old)
      → (numbers : List ℕ) → AreNumbers kind numbers
      → in_box shape new (cell_of_numbers axes numbers) ≡ (in_box shape old (cell_of_numbers axes numbers) && fits tables numbers condition)
  met_by shape rows bits condition own old new are bits_is is here elsewhere numbers small =
      let d = condition.dimension in
      let none = some_axis axes six in
      let axis = get_or axes d none in
      let cuts = cut d none condition.known in
      let number = get_or numbers d 0 in
      let row = are d none bits (omega (arith, condition.known)) in
      let class : get_or (cell_of_numbers axes numbers) d 0 ≡ class_at axis.dimension number = class_in axes numbers d none (omega (arith, condition.known)) in
      narrowed shape d old new (cell_of_numbers axes numbers) (fits tables numbers condition) condition.known elsewhere
      (here (get_or (cell_of_numbers axes numbers) d 0)
      ∙ ap (λ x. has (section shape d old) (get_or (cell_of_numbers axes numbers) d 0) && x)
      (ap (λ n. unless_excluded condition.excluded (some_has_class bits own (length (tables_in d tables)) condition.tables.items n)) class
      ∙ ap (λ b. unless_excluded condition.excluded (some_has_class b own (length (tables_in d tables)) condition.tables.items (class_at axis.dimension number))) bits_is
      ∙ classes_same axis (get_or rows d bits) (tables_in d tables) number own condition row (is.known none) (is.same none number (small d condition.known))
      (λ table low.
      let set = cuts.sets.of_tables table low in
      (set.known, told_by axis cuts.ranges _ table _ number _ cuts.cut (small d condition.known) set))))

  pub within_by : (shape : Shape) (bits : SetBits) (condition : Condition) (own count : ℕ) (old new : List ℕ)
      → ((n : ℕ) → has (section shape condition.dimension new) n
      ≡ (has (section shape condition.dimension old) n && unless_excluded condition.excluded (some_has_class bits own count condition.tables.items n)))
      → ((e : ℕ) → e < 6 → e ≢ condition.dimension → section shape e new ≡ section shape e old)
      → (cell : List ℕ) → in_box shape new cell ≡ true → in_box shape old cell ≡ true
  within_by shape bits condition own count old new here elsewhere =
      changed_within shape condition.dimension old new condition.known (λ n has_new. (and_parts _ _ (sym (here n) ∙ has_new)).0) elsewhere

-- one more dimension of a box of all cells
pub filled_more : (shape : Shape) (axes : List Axis) (axis : Axis) (old new set : List ℕ) (at count : ℕ) → at < length axes → axis ≡ get_or axes at axis
    → count ≡ class_count axis.dimension → ((n : ℕ) → has set n ≡ nat_lt n count) → section shape at new ≡ set
    → ((d : ℕ) → d < 6 → d ≢ at → section shape d new ≡ section shape d old) → length axes ≡ 6
    → ((d n : ℕ) (none : Axis) → d < at → has (section shape d old) n ≡ nat_lt n (class_count (get_or axes d none).dimension))
    → (d n : ℕ) (none : Axis) → d < at + 1 → has (section shape d new) n ≡ nat_lt n (class_count (get_or axes d none).dimension)
filled_more shape axes axis old new set at count low is counted all here elsewhere six before d n none below = elim (cases_eq d at) [
  | inl same ↦
      ap (λ k. has (section shape k new) n) same ∙ ap (λ s. has s n) here ∙ all n
      ∙ ap (nat_lt n) (counted ∙ ap (λ (a : Axis). class_count a.dimension) (is ∙ get_or_default axes at axis none low))
      ∙ ap (λ k. nat_lt n (class_count (get_or axes k none).dimension)) (sym same)
  | inr other ↦ ap (λ s. has s n) (elsewhere d (omega arith) other) ∙ before d n none (omega arith)
]

pub full_all : (shape : Shape) (axes : List Axis) (words : List ℕ) → length axes ≡ 6
    → ((d n : ℕ) (none : Axis) → d < 6 → has (section shape d words) n ≡ nat_lt n (class_count (get_or axes d none).dimension))
    → (cell : List ℕ) → IsCell axes cell → in_box shape words cell ≡ true
full_all shape axes words six filled cell is =
    let none = some_axis axes six in
    box_from shape words cell (λ d low. filled d (get_or cell d 0) none low ∙ lt-ltb _ _ (is d none low))

pub full_cells : (shape : Shape) (axes : List Axis) (words : List ℕ)
    → ((d n : ℕ) (none : Axis) → d < 6 → has (section shape d words) n ≡ nat_lt n (class_count (get_or axes d none).dimension))
    → (cell : List ℕ) → in_box shape words cell ≡ true → IsCell axes cell
full_cells shape axes words filled cell within =
    λ d none low. ltb-true _ _ (sym (filled d (get_or cell d 0) none low) ∙ box_parts shape words cell within d low)

pub le_from : (n m : ℕ) → ((t : ℕ) → t < n → t < m) → n ≤ m
le_from zero m each = omega arith
le_from (suc n) m each = let last = each n (omega arith) in omega arith
