-- What is known of a set that a piece joins.
use Rattle.std.proofs.Common.{◌≡◌, ℕ, ◌+◌, ◌-◌, ◌*◌, ◌/◌, ◌%◌, ◌<◌, ◌≤◌, ◌==◌, ◌⊎◌, ◌∙◌, ◌&&◌, ◌||◌, Bool, true, false, zero, suc, inl, inr, refl, ap}
use Rattle.std.{proofs.Common.{max, nat_eq, nat_le, nat_lt, if◌then◌else◌, List, [], ◌∷◌, ◌++◌, Some, arith}, specs.{Prelude.All, List.list_any}}
use Rattle.std.{specs.Option.option_or, proofs.{Math.Bool.or-false, lemmas.{Bool.Decides.nat_tests, List.Folds.list_any-append}}}
use Rattle.std.proofs.lemmas.List.Elements.{All-head, All-tail}
use Rattle.npf_pieces.specs.{declared.arrived.Arrived.Arrived, Overlap.{IsTaken, count_below, beginning_header, greatest_header}, Piece.end_of}
use Rattle.npf_pieces.specs.Sets.{first_time, has, has_all_below, has_byte, header_counted, is_last, is_too_long, passes_last, reach, shares_byte}
use Rattle.npf_pieces.proofs.CountLemmas.{count_beyond, count_either, count_range, count_within, one_more}

true_or_false : (b : Bool) → (b ≡ true) ⊎ (b ≡ false)
true_or_false true = inl refl
true_or_false false = inr refl

-- one more in a set
pub reach_push : (set : List Arrived) (a : Arrived) → reach (set ++ a ∷ []) ≡ max (reach set) (end_of a.piece)
reach_push [] a = omega arith
reach_push (o ∷ set) a = omega (arith, reach_push set a)

pub first_push : (set : List Arrived) (a : Arrived) → first_time (set ++ a ∷ []) ≡ option_or (first_time set) (Some a.time)
first_push [] a = refl
first_push (o ∷ set) a = refl

greatest_of : (x y z w : ℕ) → w ≡ max y z → max x w ≡ max (max x y) z
greatest_of x y z w e = omega (arith, e)

pub header_push : (set : List Arrived) (a : Arrived)
    → greatest_header (set ++ a ∷ []) ≡ max (greatest_header set) (beginning_header a.piece)
header_push [] a = omega arith
header_push (o ∷ set) a =
    greatest_of (beginning_header o.piece) (greatest_header set) (beginning_header a.piece) (greatest_header (set ++ a ∷ [])) (header_push set a)

pub any_push : (test : Arrived → Bool) (set : List Arrived) (a : Arrived)
    → list_any test (set ++ a ∷ []) ≡ (list_any test set || test a)
any_push test set a = list_any-append test set (a ∷ []) ∙ ap (λ (b : Bool). list_any test set || b) (or-false (test a))

-- no byte is had as far as nothing reaches
pub has_beyond : (set : List Arrived) (byte : ℕ) → reach set ≤ byte → has set byte ≡ false
has_beyond [] byte h = refl
has_beyond (o ∷ set) byte h =
    let behind : reach set ≤ byte = omega (arith, h) in
    let here : end_of o.piece ≤ byte = omega (arith, h) in
    grind (arith, nat_tests, has_beyond set byte behind, here)

-- each byte is had exactly where the count of those that are is full
pub all_by_count : (set : List Arrived) (n : ℕ) → has_all_below set n ≡ nat_eq (count_below (has set) n) n
all_by_count set zero = refl
all_by_count set (suc n) =
    one_more (has_all_below set n) (has set n) (count_below (has set) n) n (count_within (has set) n) (all_by_count set n)

-- what shares no byte has none of the others'
byte_apart : (a o : Arrived) (byte : ℕ) → shares_byte a o ≡ false → (has_byte byte o && has_byte byte a) ≡ false
byte_apart a o byte h = grind (arith, nat_tests)

both_apart : (x y z : Bool) → (x && z) ≡ false → (y && z) ≡ false → ((x || y) && z) ≡ false
both_apart x y z e h = grind arith

pub left_false : (x y : Bool) → (x || y) ≡ false → x ≡ false
left_false x y h = grind arith

pub right_false : (x y : Bool) → (x || y) ≡ false → y ≡ false
right_false x y h = grind arith

pub set_apart : (set : List Arrived) (a : Arrived) (byte : ℕ) → list_any (shares_byte a) set ≡ false
    → (has set byte && has_byte byte a) ≡ false
set_apart [] a byte h = refl
set_apart (o ∷ set) a byte h =
    both_apart (has_byte byte o) (has set byte) (has_byte byte a)
    (byte_apart a o byte (left_false (shares_byte a o) (list_any (shares_byte a) set) h))
    (set_apart set a byte (right_false (shares_byte a o) (list_any (shares_byte a) set) h))

pub covered_push : (set : List Arrived) (a : Arrived) → a.piece.from ≤ end_of a.piece → list_any (shares_byte a) set ≡ false
    → count_below (has (set ++ a ∷ [])) (reach (set ++ a ∷ []))
    ≡ count_below (has set) (reach set) + (end_of a.piece - a.piece.from)
covered_push set a order apart =
    let most = max (reach set) (end_of a.piece) in
    let all = count_either (has set) (λ byte. has_byte byte a) (has (set ++ a ∷ []))
    (λ byte. any_push (has_byte byte) set a) (λ byte. set_apart set a byte apart) most in
    let old = count_beyond (has set) (reach set) most (has_beyond set) (omega arith) in
    let new = count_range a.piece.from (end_of a.piece) most order (omega arith) in
    ap (count_below (has (set ++ a ∷ []))) (reach_push set a) ∙ omega (arith, all, old, new)

-- where two have a byte in common they share it
byte_shared : (a o : Arrived) (byte : ℕ) → has_byte byte a ≡ true → has_byte byte o ≡ true → shares_byte a o ≡ true
byte_shared a o byte h k = grind (arith, nat_tests)

either_true : (x y z w : Bool) → (x || y) ≡ true → (x ≡ true → z ≡ true) → (y ≡ true → w ≡ true) → (z || w) ≡ true
either_true true y z w h f g = grind (arith, f refl)
either_true false true z w h f g = grind (arith, g refl)
either_true false false z w h f g = grind arith

pub unit_shared : (set : List Arrived) (a : Arrived) (byte : ℕ) → has_byte byte a ≡ true → has set byte ≡ true
    → list_any (shares_byte a) set ≡ true
unit_shared [] a byte h k = k
unit_shared (o ∷ set) a byte h k =
    either_true (has_byte byte o) (has set byte) (shares_byte a o) (list_any (shares_byte a) set) k
    (byte_shared a o byte h) (unit_shared set a byte h)

-- pieces that share a byte share the first of a unit
from_before_end : (a : Arrived) (n : ℕ) → IsTaken a → n < end_of a.piece → a.piece.from < end_of a.piece
from_before_end a n taken h = grind (arith, nat_tests, taken.good.filled)

shared_unit : (f g e k unit : ℕ) → f % 8 ≡ 0 → g % 8 ≡ 0 → unit ≡ max f g / 8 → f < k → g < e → f < e → g < k
    → (f / 8 ≤ unit) × (unit < (e + 7) / 8) × (g ≤ 8 * unit) × (8 * unit < k)
shared_unit f g e k unit begins starts is fk ge fe gk = (omega arith, omega arith, omega arith, omega arith)

shares : (a o : Arrived) → shares_byte a o ≡ true → (a.piece.from < end_of o.piece) × (o.piece.from < end_of a.piece)
shares a o h = (grind (arith, nat_tests), grind (arith, nat_tests))

has_this : (a : Arrived) (byte : ℕ) → a.piece.from ≤ byte → byte < end_of a.piece → has_byte byte a ≡ true
has_this a byte h k = grind (arith, nat_tests)

one_not_shared : (a o : Arrived) → IsTaken a → IsTaken o
    → ((unit : ℕ) → a.piece.from / 8 ≤ unit → unit < (end_of a.piece + 7) / 8 → has_byte (8 * unit) o ≡ false)
    → shares_byte a o ≡ false
one_not_shared a o taken given none = elim (true_or_false (shares_byte a o)) [
  | inl h ↦ let both = shares a o h in
      let unit = max a.piece.from o.piece.from / 8 in
      let u = shared_unit a.piece.from o.piece.from (end_of a.piece) (end_of o.piece) unit taken.good.begins given.good.begins refl
      both.0 both.1 (from_before_end a o.piece.from taken both.1) (from_before_end o a.piece.from given both.0) in
      let lacks = none unit u.0 u.1 in
      let has = has_this o (8 * unit) u.2 u.3 in
      grind (arith, lacks, has)
  | inr h ↦ h
]

neither : (x y : Bool) → x ≡ false → y ≡ false → (x || y) ≡ false
neither x y e h = grind arith

pub not_shared : (set : List Arrived) (a : Arrived) → All IsTaken set → IsTaken a
    → ((unit : ℕ) → a.piece.from / 8 ≤ unit → unit < (end_of a.piece + 7) / 8 → has set (8 * unit) ≡ false)
    → list_any (shares_byte a) set ≡ false
not_shared [] a all taken none = refl
not_shared (o ∷ set) a all taken none =
    neither (shares_byte a o) (list_any (shares_byte a) set)
    (one_not_shared a o taken (All-head IsTaken o set all) (λ unit h k. left_false (has_byte (8 * unit) o) (has set (8 * unit)) (none unit h k)))
    (not_shared set a (All-tail IsTaken o set all) taken (λ unit h k. right_false (has_byte (8 * unit) o) (has set (8 * unit)) (none unit h k)))

-- the first byte of a unit
pub unit_byte : (from end unit : ℕ) → from % 8 ≡ 0
    → (nat_le (from / 8) unit && nat_lt unit ((end + 7) / 8)) ≡ (nat_le from (8 * unit) && nat_lt (8 * unit) end)
unit_byte from end unit begins = grind (arith, nat_tests)

-- data behind the end of a last piece, where none stand behind it so far
last_or : (last more x y : Bool) → (last ≡ true → x ≡ y) → ((last && x) || (more && y)) ≡ ((last || more) && y)
last_or true more x y h = grind (arith, h refl)
last_or false more x y h = refl

same_end : (last : Bool) (end r m : ℕ) → end ≤ r → (last && nat_lt end r) ≡ false → last ≡ true → nat_lt end m ≡ nat_lt r m
same_end last end r m h e is = grind (arith, nat_tests)

last_passed : (set : List Arrived) (r m : ℕ) → reach set ≤ r → list_any (λ l. is_last l && nat_lt (end_of l.piece) r) set ≡ false
    → list_any (λ l. is_last l && nat_lt (end_of l.piece) m) set ≡ (list_any is_last set && nat_lt r m)
last_passed [] r m h e = refl
last_passed (o ∷ set) r m h e =
    let first = left_false (is_last o && nat_lt (end_of o.piece) r) (list_any (λ l. is_last l && nat_lt (end_of l.piece) r) set) e in
    let more = right_false (is_last o && nat_lt (end_of o.piece) r) (list_any (λ l. is_last l && nat_lt (end_of l.piece) r) set) e in
    ap (λ (b : Bool). (is_last o && nat_lt (end_of o.piece) m) || b) (last_passed set r m (omega (arith, h)) more)
    ∙ last_or (is_last o) (list_any is_last set) (nat_lt (end_of o.piece) m) (nat_lt r m)
    (same_end (is_last o) (end_of o.piece) r m (omega (arith, h)) first)

greater_left : (r e : ℕ) → nat_lt r (max r e) ≡ nat_lt r e
greater_left r e = grind (arith, nat_tests)

greater_right : (r e : ℕ) → nat_lt e (max r e) ≡ nat_lt e r
greater_right r e = grind (arith, nat_tests)

pub passes_push : (set : List Arrived) (a : Arrived) → passes_last set ≡ false
    → passes_last (set ++ a ∷ [])
    ≡ ((list_any is_last set && nat_lt (reach set) (end_of a.piece)) || (is_last a && nat_lt (end_of a.piece) (reach set)))
passes_push set a h =
    let r = reach set in
    let e = end_of a.piece in
    let test : ℕ → Arrived → Bool = λ m l. is_last l && nat_lt (end_of l.piece) m in
    ap (λ (m : ℕ). list_any (test m) (set ++ a ∷ [])) (reach_push set a)
    ∙ any_push (test (max r e)) set a
    ∙ ap (λ (b : Bool). b || test (max r e) a) (last_passed set r (max r e) (omega arith) h)
    ∙ ap (λ (b : Bool). (list_any is_last set && b) || test (max r e) a) (greater_left r e)
    ∙ ap (λ (b : Bool). (list_any is_last set && nat_lt r e) || (is_last a && b)) (greater_right r e)

-- a datagram is too long with the greatest header of those that begin it
long_or : (begins rest : Bool) (h g r : ℕ) → r ≤ 65535 → rest ≡ nat_lt 65535 (g + r)
    → ((begins && nat_lt 65535 (h + r)) || rest) ≡ nat_lt 65535 (max (if begins then h else 0) g + r)
long_or true rest h g r within e = grind (arith, nat_tests)
long_or false rest h g r within e = grind (arith, nat_tests)

longest : (set : List Arrived) (r : ℕ) → r ≤ 65535
    → list_any (λ f. (f.piece.from == 0) && nat_lt 65535 (header_counted f.piece + r)) set ≡ nat_lt 65535 (greatest_header set + r)
longest [] r within = grind (arith, nat_tests)
longest (o ∷ set) r within =
    long_or (o.piece.from == 0) (list_any (λ f. (f.piece.from == 0) && nat_lt 65535 (header_counted f.piece + r)) set)
    (header_counted o.piece) (greatest_header set) r within (longest set r within)

pub too_long : (set : List Arrived) → reach set ≤ 65535 → is_too_long set ≡ nat_lt 65535 (greatest_header set + reach set)
too_long set within = longest set (reach set) within

-- a unit that a piece has
pub unit_had : (a : Arrived) (unit : ℕ) → a.piece.from % 8 ≡ 0 → a.piece.from / 8 ≤ unit → unit < (end_of a.piece + 7) / 8
    → has_byte (8 * unit) a ≡ true
unit_had a unit begins h k = has_this a (8 * unit) (omega (arith, begins, h)) (omega (arith, k))

-- how far taken pieces reach
pub reach_within : (set : List Arrived) → All IsTaken set → reach set ≤ 65535
reach_within [] all = omega arith
reach_within (o ∷ set) all =
    omega (arith, (All-head IsTaken o set all).good.within, reach_within set (All-tail IsTaken o set all))
