use Rattle.std.proofs.Common.{◌≡◌, ℕ, ◌<◌, None}
use Rattle.npf_oneturn_store.specs.Places.{found_at}
use Rattle.npf_oneturn_store.proofs.keys.Keys.anywhere.Given as goal

abbrev pub invariant-loop-place : goal.invariant-loop-place
invariant-loop-place l = (place : ℕ) → place < l.place → found_at l.self.holdings.items l.key place ≡ None
