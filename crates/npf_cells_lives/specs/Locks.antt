-- The part of the rule on locks: the word of each says whether a pass has it.
use Rattle.std.specs.Prelude.{◌≡◌, ℕ, ◌^◌, ◌<◌, ◌≤◌, ◌==◌, nat_lt, List, map, slice_index, sum_by, if◌then◌else◌}
use Rattle.npf_paths.specs.declared.place.Lock.{Lock}
use Rattle.npf_paths.specs.declared.place.Lock.TheVariants as Locking
use Rattle.npf_cells_words.specs.declared.layout.Layout.{Layout}
use Rattle.npf_cells_words.specs.Places.{lock_at, IsLockOf}
use Rattle.npf_seats.specs.Sums.{occurs}

-- how often a pass has the lock, and how often passes have it
abbrev pub has_lock : Layout → Lock → List Lock → ℕ
has_lock layout lock locks = occurs (lock_at layout lock) (map (lock_at layout) locks)

abbrev pub lock_holders : {V : Type 0} → (V → List Lock) → Layout → List V → Lock → ℕ
lock_holders locks_of layout views lock = sum_by (λ v. has_lock layout lock (locks_of v)) views

-- how many passes have a lock that this state is of: none where it is 0, or from 2^63 on, where the node was let go with an epoch
abbrev pub held_in : ℕ → ℕ
held_in state = if state == 0 then 0 else if nat_lt state (2 ^ 63) then 1 else 0

-- the word of a lock says how many passes have it, which is one at most. That of a place of the root is 1 or 0: only nodes are marked, and let go with an epoch
pub record Locks {V : Type 0} (locks_of : V → List Lock) (layout : Layout) (words : List ℕ) (views : List V) : Type 0 where
  pub says : (lock : Lock) → IsLockOf layout lock → lock_holders locks_of layout views lock ≡ held_in (slice_index words (lock_at layout lock))
  pub bit : (digit : ℕ) → digit < 64 → slice_index words (lock_at layout (Locking.Root digit)) < 2
  pub alone : (lock : Lock) → IsLockOf layout lock → lock_holders locks_of layout views lock ≤ 1
