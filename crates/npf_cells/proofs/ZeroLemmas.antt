-- Lists of 0 that are made part by part.
use Rattle.std.proofs.Common.{◌≡◌, ◌≤◌, ◌+◌, ◌-◌, ◌++◌, ℕ, List, length, replicate, take, ap, sym, ◌∙◌, arith}
use Rattle.std.proofs.lemmas.List.{length-replicate, replicate-append-replicate, take-replicate}

-- the front of a list of 0
pub zeros_part : (block : List ℕ) (count : ℕ) → block ≡ replicate (length block) 0 → count ≤ length block → take count block ≡ replicate count 0
zeros_part block count zeros fits = ap (λ (b : List ℕ). take count b) zeros ∙ take-replicate count (length block) 0 fits

-- more 0 behind those so far, within what is wanted
pub zeros_more : (xs zs part : List ℕ) (count more : ℕ) → (length xs ≤ count) × (xs ≡ replicate (length xs) 0) → zs ≡ xs ++ part → part ≡ replicate more 0
    → more ≤ count - length xs → (length zs ≤ count) × (zs ≡ replicate (length zs) 0)
zeros_more xs zs part count more (short, zeros) grown part_zeros fits =
    let joined : xs ++ replicate more 0 ≡ replicate (length xs + more) 0 =
    ap (λ (x : List ℕ). x ++ replicate more 0) zeros ∙ replicate-append-replicate (length xs) more 0 in
    let whole : zs ≡ replicate (length xs + more) 0 = grown ∙ (ap (λ (p : List ℕ). xs ++ p) part_zeros ∙ joined) in
    let long : length zs ≡ length xs + more = ap (λ (z : List ℕ). length z) whole ∙ length-replicate (length xs + more) 0 in
    (omega arith, whole ∙ ap (λ (n : ℕ). replicate n 0) (sym long))
