-- The boxes of a list one behind the other.
use Rattle.std.proofs.Common.{◌≡◌, ℕ, ◌+◌, ◌-◌, ◌*◌, ◌<◌, ◌≤◌, List, ◌++◌, length, take, drop, sym, ap, ◌∙◌, arith}
use Rattle.std.{specs.List.slice_range, proofs.{Math.Nat.mul-le-mul_right, lemmas.List.{drop_at, take-append-le, take_all}}}
use Rattle.npf_boxes.proofs.SectionLemmas.{range_is}

pub pushed : (xs ys : List ℕ) (k width : ℕ) → length xs ≡ k * width → length ys ≡ width
    → slice_range (xs ++ ys) (k * width) (k * width + width) ≡ ys
pushed xs ys k width len fits =
    ap (take (k * width + width - k * width)) (drop_at xs ys (k * width) len) ∙ take_all (k * width + width - k * width) ys (omega arith)

pub kept : (xs ys : List ℕ) (k count width : ℕ) → length xs ≡ count * width → k < count
    → slice_range (xs ++ ys) (k * width) (k * width + width) ≡ slice_range xs (k * width) (k * width + width)
kept xs ys k count width len below =
    let from : ℕ = k * width in
    let room : (k + 1) * width ≤ count * width = mul-le-mul_right width (omega arith) in
    let within : from + width ≤ length xs = omega arith in
    range_is (xs ++ ys) from (from + width) (omega arith)
    ∙ ap (drop from) (take-append-le (from + width) xs ys within)
    ∙ sym (range_is xs from (from + width) (omega arith))
