-- Texts that are written one behind the other.
use Rattle.std.proofs.Common.{◌≡◌, ℕ, List, ◌++◌, ap, ◌∙◌, append_assoc}

-- what is written behind a text that was written behind another is written behind that one
pub before : (start text : List ℕ) (next rest last : List ℕ) → next ≡ start ++ text → last ≡ next ++ rest → last ≡ start ++ (text ++ rest)
before start text next rest last one two = two ∙ ap (λ front. front ++ rest) one ∙ append_assoc start text rest
