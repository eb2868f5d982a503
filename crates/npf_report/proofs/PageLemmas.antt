-- What stands in a page behind the place where a text begins.
use Rattle.std.proofs.Common.{◌≡◌, ℕ, ◌+◌, ◌-◌, ◌≤◌, List, ◌++◌, length, drop, take, ap, sym, ◌∙◌, arith}
use Rattle.std.proofs.lemmas.List.{drop_at, drop-drop, drop-append-le, length-take-le}
use borrow.Rule.Slice.PartMut.{post_of, put_mid}

-- a text that ends at a place stands in front of what stood there
pub in_front : (page text : List ℕ) (start end : ℕ) → start ≤ end → end ≤ length page → drop start (put_mid start (end - start) page text) ≡ text ++ drop end page
in_front page text start end order within =
    let on : start + (end - start) ≡ end = omega arith in
    drop_at (take start page) (text ++ post_of start (end - start) page) start (length-take-le start page (omega arith))
    ∙ ap (λ rest. text ++ rest) (drop-drop (end - start) start page ∙ ap (λ n. drop n page) on)

-- and a part of it, from a place of its own on
pub part_in_front : (page text : List ℕ) (from skip end : ℕ) → from ≤ end → end ≤ length page → skip ≤ length text →
    drop (from + skip) (put_mid from (end - from) page text) ≡ drop skip text ++ drop end page
part_in_front page text from skip end order within part =
    sym (drop-drop skip from (put_mid from (end - from) page text)) ∙ ap (drop skip) (in_front page text from end order within) ∙ drop-append-le skip text (drop end page) part
