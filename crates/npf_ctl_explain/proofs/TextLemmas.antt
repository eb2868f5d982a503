-- A text that is written piece by piece.
use Rattle.std.proofs.Common.{◌≡◌, ◌∙◌, ◌++◌, ℕ, List, ap, append_assoc}

-- a piece, and what is written behind it
pub piece_first : {now new : List ℕ} (old piece rest : List ℕ) → now ≡ old ++ piece → new ≡ now ++ rest → new ≡ old ++ (piece ++ rest)
piece_first old piece rest first others = others ∙ ap (λ text. text ++ rest) first ∙ append_assoc old piece rest
