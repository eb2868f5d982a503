-- What is written behind what was written.
use Rattle.std.proofs.{Common.{◌≡◌, ◌∙◌, ◌++◌, ◌+◌, ◌<◌, ℕ, List, length, take, get_or, ap, sym, append_assoc}, lemmas.Grind.flat_map-append}
use Rattle.std.{proofs.lemmas.List.{flat_map_more, take_more}, specs.List.flat_map}
use Rattle.npf_show.specs.Piece.{Piece, piece_text, spelled}

-- pieces behind pieces
pub also : {between new : List ℕ} (old : List ℕ) (first second : List Piece) → between ≡ old ++ spelled first → new ≡ between ++ spelled second
    → new ≡ old ++ spelled (first ++ second)
also old first second f s =
    s ∙ ap (λ text. text ++ spelled second) f ∙ append_assoc old (spelled first) (spelled second)
    ∙ ap (λ text. old ++ text) (sym (flat_map-append piece_text first second))

-- one element more of a list
pub one_more : {X : Type 0} {now new : List ℕ} (old : List ℕ) (f : X → List ℕ) (all : List X) (i : ℕ) (d : X) → i < length all
    → now ≡ old ++ flat_map f (take i all) → new ≡ now ++ f (get_or all i d) → new ≡ old ++ flat_map f (take (i + 1) all)
one_more old f all i d within is more =
    more ∙ ap (λ text. text ++ f (get_or all i d)) is ∙ flat_map_more f old (take i all) (get_or all i d)
    ∙ ap (λ taken. old ++ flat_map f taken) (sym (take_more all i d within))
