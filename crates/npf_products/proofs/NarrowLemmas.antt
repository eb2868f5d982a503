-- What conditions leave of boxes.
use Rattle.std.proofs.Common.{◌≡◌, ◌≢◌, ◌<◌, ◌↔◌, ◌||◌, ◌&&◌, not, ℕ, zero, suc, ◌+◌, Bool, true, false, List, [], ◌∷◌, take, length, get_or}
use Rattle.std.proofs.Common.{refl, sym, ap, ◌∙◌, inl, inr, arith}
use Rattle.std.specs.Prelude.{nat_lt}
use Rattle.std.specs.List.{list_any}
use Rattle.std.proofs.lemmas.Bool.{and_from, and_parts, both_ways, cases_Bool, cases_eq, cases_lt, false_from_ne_true, le-ltb, lt-ltb}
use Rattle.std.proofs.lemmas.List.{get_or_past}
use Rattle.std.proofs.lemmas.List.Folds.{list_any_more}
use Rattle.npf_bits.specs.Bits.{has}
use Rattle.npf_boxes.specs.declared.shape.Shape.{Shape}
use Rattle.npf_boxes.specs.Cell.{in_box, section}
use Rattle.npf_boxes.proofs.CellLemmas.{box_from, box_parts}
use Rattle.npf_cut.specs.declared.set_bits.SetBits.{SetBits}
use Rattle.npf_cut.specs.Dimension.{HasClass, class_at}
use Rattle.npf_cut.specs.SetBits.{set_words}
use Rattle.npf_products.specs.declared.axis.Axis.{Axis}
use Rattle.npf_products.specs.declared.condition.Condition.{Condition}
use Rattle.npf_products.specs.Axis.{AreAxisRows, cell_of_numbers}
use Rattle.npf_products.specs.Condition.{Ranges, has_number, some_has, ranges_have, unless_excluded}
use Rattle.npf_products.specs.Narrow.{some_has_class}

-- tests that hold together are one
pub same_test : (x y : Bool) → (x ≡ true) ↔ (y ≡ true) → x ≡ y
same_test x y both = elim (cases_Bool x) [
  | inl held ↦ held ∙ sym (both.0 held)
  | inr failed ↦ failed ∙ sym (false_from_ne_true y (λ held. both_ways x failed (both.1 held)))
]

pub by_fact : (x y : Bool) (P : Type 0) → (x ≡ true) ↔ P → P ↔ (y ≡ true) → x ≡ y
by_fact x y P one two = same_test x y (λ h. two.0 (one.0 h), λ h. one.1 (two.1 h))

-- a box that keeps of one dimension's set what passes a test
pub narrowed : (shape : Shape) (d : ℕ) (old new cell : List ℕ) (x : Bool) → d < 6
    → ((e : ℕ) → e < 6 → e ≢ d → section shape e new ≡ section shape e old)
    → has (section shape d new) (get_or cell d 0) ≡ (has (section shape d old) (get_or cell d 0) && x)
    → in_box shape new cell ≡ (in_box shape old cell && x)
narrowed shape d old new cell x low elsewhere here = same_test _ _ (
  λ in_new.
      let own = and_parts _ _ (sym here ∙ box_parts shape new cell in_new d low) in
      and_from _ _ (box_from shape old cell (λ e e_low. elim (cases_eq e d) [
        | inl same ↦ ap (λ k. has (section shape k old) (get_or cell k 0)) same ∙ own.0
        | inr other ↦ sym (ap (λ set. has set (get_or cell e 0)) (elsewhere e e_low other)) ∙ box_parts shape new cell in_new e e_low
      ])) own.1,
  λ both.
      let parts = and_parts _ _ both in
      box_from shape new cell (λ e e_low. elim (cases_eq e d) [
        | inl same ↦
            ap (λ k. has (section shape k new) (get_or cell k 0)) same ∙ here ∙ and_from _ _ (box_parts shape old cell parts.0 d low) parts.1
        | inr other ↦ ap (λ set. has set (get_or cell e 0)) (elsewhere e e_low other) ∙ box_parts shape old cell parts.0 e e_low
      ]),
)

-- the class of a number in a cell
pub class_in : (axes : List Axis) (numbers : List ℕ) (d : ℕ) (none : Axis) → d < length axes
    → get_or (cell_of_numbers axes numbers) d 0 ≡ class_at (get_or axes d none).dimension (get_or numbers d 0)
unfolding cell_of_numbers
class_in [] numbers d none low = absurd (omega arith)
class_in (axis ∷ axes) numbers zero none low = refl
class_in (axis ∷ axes) [] (suc d) none low = class_in axes [] d none (omega arith)
class_in (axis ∷ axes) (n ∷ ns) (suc d) none low = class_in axes ns d none (omega arith)

-- the tables of a row
pub tables_same : (axis : Axis) (bits : SetBits) (tables : List Ranges) (number : ℕ) (listed : List ℕ) → AreAxisRows axis bits
    → ((table : ℕ) → table < length tables → (table < axis.count)
    × (HasClass axis.dimension table (class_at axis.dimension number) ↔ (has_number (get_or tables table []) number ≡ true)))
    → list_any (λ table. nat_lt table (length tables) && has (set_words bits table) (class_at axis.dimension number)) listed
    ≡ list_any (ranges_have tables number) listed
tables_same axis bits tables number [] rows each = refl
tables_same axis bits tables number (table ∷ others) rows each =
    let class = class_at axis.dimension number in
    let test : ℕ → Bool = λ t. nat_lt t (length tables) && has (set_words bits t) class in
    let one : test table ≡ ranges_have tables number table = elim (cases_lt table (length tables)) [
      | inl low ↦
          let known = each table low in
          ap (λ b. b && has (set_words bits table) class) (lt-ltb table (length tables) low)
          ∙ by_fact _ _ (HasClass axis.dimension table class) (rows.classes table class known.0) known.1
      | inr past ↦
          ap (λ b. b && has (set_words bits table) class) (le-ltb table (length tables) past)
          ∙ sym (ap (λ ranges. has_number ranges number) (get_or_past tables table [] past))
    ] in
    ap (λ b. b || list_any test others) one ∙ ap (λ b. ranges_have tables number table || b) (tables_same axis bits tables number others rows each)

-- a row's sets have a number's class where a condition has the number
pub classes_same : (axis : Axis) (bits : SetBits) (tables : List Ranges) (number own : ℕ) (condition : Condition) → AreAxisRows axis bits → own < axis.count
    → (HasClass axis.dimension own (class_at axis.dimension number) ↔ (has_number condition.ranges.items number ≡ true))
    → ((table : ℕ) → table < length tables → (table < axis.count)
    × (HasClass axis.dimension table (class_at axis.dimension number) ↔ (has_number (get_or tables table []) number ≡ true)))
    → unless_excluded condition.excluded (some_has_class bits own (length tables) condition.tables.items (class_at axis.dimension number))
    ≡ unless_excluded condition.excluded (some_has tables condition number)
classes_same axis bits tables number own condition rows known same each =
    let class = class_at axis.dimension number in
    ap (unless_excluded condition.excluded)
    (ap (λ b. b || list_any (λ table. nat_lt table (length tables) && has (set_words bits table) class) condition.tables.items)
    (by_fact _ _ (HasClass axis.dimension own class) (rows.classes own class known) same)
    ∙ ap (λ b. has_number condition.ranges.items number || b) (tables_same axis bits tables number condition.tables.items rows each))

-- what is excluded: one more
not_or : (old x y : Bool) → ((old && not x) && not y) ≡ (old && not (x || y))
not_or true true y = refl
not_or true false y = refl
not_or false x y = refl

pub excluded_more : (now next old own more : Bool) → now ≡ (old && not own) → next ≡ (now && not more) → next ≡ (old && not (own || more))
excluded_more now next old own more before step = step ∙ ap (λ b. b && not more) before ∙ not_or old own more

-- what isn't left of the others
pub left_over : (old x : Bool) → (old && not (old && not x)) ≡ (old && x)
left_over true true = refl
left_over true false = refl
left_over false x = refl

or_assoc : (x y z : Bool) → ((x || y) || z) ≡ (x || (y || z))
or_assoc true y z = refl
or_assoc false y z = refl

-- one more of the listed sets is taken out
pub excludes_more : (old now next own : Bool) (test : ℕ → Bool) (listed : List ℕ) (i : ℕ) → i < length listed
    → now ≡ (old && not (own || list_any test (take i listed)))
    → next ≡ (now && not (test (get_or listed i 0)))
    → next ≡ (old && not (own || list_any test (take (i + 1) listed)))
excludes_more old now next own test listed i low before step =
    let some = list_any test (take i listed) in
    let here = test (get_or listed i 0) in
    step ∙ ap (λ b. b && not here) before ∙ not_or old (own || some) here
    ∙ ap (λ b. old && not b) (or_assoc own some here ∙ ap (λ b. own || b) (sym (list_any_more test listed i 0 low)))
