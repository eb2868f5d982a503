-- What stands before a comment and between blanks.
use Rattle.std.proofs.Common.{◌≡◌, ◌≤◌, ◌<◌, ℕ, List, true, false, length, take, get_or, sym, ap, ◌∙◌, arith, take_all, drop, ◌-◌, length-drop}
use Rattle.std.{proofs.lemmas.List.Sums.{prefix_len_is, suffix_len_is}, specs.List.suffix_len}
use Rattle.npf_table.specs.Line.{is_blank, after_blanks, before_blanks}

-- what is left behind the blanks at the front
pub blanks_skipped : (text : List ℕ) (n : ℕ) → n ≤ length text → ((k : ℕ) → k < n → is_blank (get_or text k 0) ≡ true)
    → (n < length text → is_blank (get_or text n 0) ≡ false) → take (length text - n) (drop n text) ≡ after_blanks text
blanks_skipped text n within blank stops =
    take_all (length text - n) (drop n text) (omega (arith, length-drop n text))
    ∙ ap (λ k. drop k text) (sym (prefix_len_is is_blank text n 0 within blank stops))

-- what is left before the blanks at the end
pub blanks_cut : (text : List ℕ) (n : ℕ) → n ≤ length text → ((k : ℕ) → n ≤ k → k < length text → is_blank (get_or text k 0) ≡ true)
    → (0 < n → is_blank (get_or text (n - 1) 0) ≡ false) → take n text ≡ before_blanks text
blanks_cut text n within blank stops =
    let is : suffix_len is_blank text ≡ length text - n = suffix_len_is is_blank text n 0 within blank stops in
    let back : n ≡ length text - suffix_len is_blank text = omega arith in
    ap (λ k. take k text) back
