-- A list of protocols that isn't empty fits those that it lists.
use Rattle.std.{proofs.Common.{◌≡◌, ◌==◌, ℕ, false, List, [], ◌∷◌, length, refl, true≢false}, specs.List.list_any}
use Rattle.npf_model.specs.Describes.{fits_protocol}

pub listed_fits : (protos : List ℕ) (proto : ℕ) → (length protos == 0) ≡ false → list_any (λ listed. listed == proto) protos ≡ fits_protocol protos proto
listed_fits [] proto empty = absurd (true≢false empty)
listed_fits (first ∷ others) proto not_empty = refl
