use Rattle.std.proofs.Common.{◌≡◌, ℕ, ◌<◌, ◌*◌, ◌+◌, get_or, None}
use Rattle.npf_oneturn_store.specs.Places.{found_at}
use Rattle.npf_oneturn_store.proofs.keys.Keys.named.Given as goal

abbrev pub invariant-loop-i : goal.invariant-loop-i
invariant-loop-i l = (i : ℕ) → i < l.i → found_at l.self.holdings.items l.key (get_or l.self.cells.items (l.bucket * 16 + i) 0) ≡ None
