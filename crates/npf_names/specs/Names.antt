-- Names with a number each, as a table.
use Rattle.std.specs.Prelude.{ℕ, Bool, true, nat_le, if◌then◌else◌, ◌&&◌, Option, Some, None, List, [], ◌∷◌}
use Rattle.std.specs.Cmp.Lexicographic.{slice_cmp}
use Rattle.std.specs.List.{list_all}
use Rattle.std.specs.Ordering.{is_lt, nat_cmp}
use Rattle.std.specs.Str.{bytes_eq}

abbrev pub Names : Type 0
Names = List (List ℕ × ℕ)

-- the number beside a name
abbrev pub number_named : Names → List ℕ → Option ℕ
number_named [] text = None
number_named (row ∷ rows) text = if bytes_eq row.0 text then Some row.1 else number_named rows text

-- this row stands before the next in the order of their bytes
abbrev pub is_before_next : List ℕ × ℕ → Names → Bool
is_before_next row [] = true
is_before_next row (next ∷ rows) = is_lt (slice_cmp nat_cmp row.0 next.0)

-- the names rise, so that no two are one
abbrev pub rises : Names → Bool
rises [] = true
rises (row ∷ rows) = is_before_next row rows && rises rows

-- no number is greater than this
abbrev pub reaches : ℕ → Names → Bool
reaches most names = list_all (λ row. nat_le row.1 most) names
