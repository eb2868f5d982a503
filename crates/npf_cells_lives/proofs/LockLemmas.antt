-- Locks stay through steps that leave their words and who has them.
use Rattle.std.{specs.List.Contains, proofs.Common.{◌≡◌, ◌≢◌, ℕ, ◌<◌, ◌≤◌, List, [], ◌∷◌, ◌++◌, set, slice_index, sym, ap, ◌∙◌, subst, ⊎_elim, arith, map}}
use Rattle.std.proofs.lemmas.{Bool.cases_eq, List.{length-map, get_or-map, Sums.sum_by_push}}
use mathlib.Core.Option.{some}
use lib.ListN.{get_elem?}
use Rattle.npf_paths.specs.declared.place.Lock.{Lock}
use Rattle.npf_paths.specs.declared.place.Lock.TheVariants as Locking
use Rattle.npf_cells_words.specs.{declared.layout.Layout.Layout, Places.{lock_at, IsLockOf}}
use Rattle.npf_seats.proofs.{ListLemmas.stands_once, SumLemmas.{sum-set, two_of_sum}}
use Rattle.npf_cells_lives.specs.{LivesLaw.LockAlone, Locks.{has_lock, lock_holders, held_in, Locks}}

-- a lock that a pass has is one that it has once at least
pub has_once : (layout : Layout) (lock : Lock) (locks : List Lock) → Contains locks lock → 1 ≤ has_lock layout lock locks
has_once layout lock locks c =
    let long = length-map locks (lock_at layout) in
    let short = c.1 in
    stands_once (lock_at layout lock) (map (lock_at layout) locks) (c.0, omega (arith, long, short), get_or-map (lock_at layout) locks c.0 lock (lock_at layout lock) short ∙ ap (lock_at layout) c.2)

module _ {V : Type 0} (locks_of : V → List Lock) (layout : Layout) where
  pub locks-same : (words words' : List ℕ) (views views' : List V) → Locks locks_of layout words views →
      ((lock : Lock) → IsLockOf layout lock → slice_index words' (lock_at layout lock) ≡ slice_index words (lock_at layout lock)) →
      ((lock : Lock) → lock_holders locks_of layout views' lock ≡ lock_holders locks_of layout views lock) → Locks locks_of layout words' views'
  locks-same words words' views views' kept same holders = record {
    says = λ lock h. holders lock ∙ (kept.says lock h ∙ ap held_in (sym (same lock h)));
    bit = λ digit h. subst (λ n. n < 2) (sym (same (Locking.Root digit) h)) (kept.bit digit h);
    alone = λ lock h. subst (λ n. n ≤ 1) (sym (holders lock)) (kept.alone lock h);
  }

  pub holders-set : (views : List V) (i : ℕ) (v w : V) → get_elem? views i ≡ some v → locks_of w ≡ locks_of v → (lock : Lock) →
      lock_holders locks_of layout (set views i w) lock ≡ lock_holders locks_of layout views lock
  holders-set views i v w at same lock =
      let more = sum-set (λ (u : V). has_lock layout lock (locks_of u)) views i v w at in
      let one = ap (has_lock layout lock) same in
      omega (arith, more, one)

  pub holders-push : (views : List V) (w : V) → locks_of w ≡ [] → (lock : Lock) → lock_holders locks_of layout (views ++ w ∷ []) lock ≡ lock_holders locks_of layout views lock
  holders-push views w none lock =
      let more = sum_by_push (λ (u : V). has_lock layout lock (locks_of u)) views w in
      let one : has_lock layout lock (locks_of w) ≡ 0 = ap (has_lock layout lock) none in
      omega (arith, more, one)

  -- two passes don't have one lock
  pub locks_alone : (words : List ℕ) (views : List V) (i j : ℕ) (v w : V) (lock : Lock) → Locks locks_of layout words views → IsLockOf layout lock →
      get_elem? views i ≡ some v → get_elem? views j ≡ some w → Contains (locks_of v) lock → Contains (locks_of w) lock → ¬ (i ≢ j)
  locks_alone words views i j v w lock kept exists at there mine theirs ne =
      let both = two_of_sum (λ (u : V). has_lock layout lock (locks_of u)) views i j v w at there ne in
      let one = kept.alone lock exists in
      let a = has_once layout lock (locks_of v) mine in
      let b = has_once layout lock (locks_of w) theirs in
      absurd (omega (arith, both, one, a, b))

pub lock_alone : (layout : Layout) → LockAlone layout
lock_alone layout words held i j mine theirs lock kept exists at there a b = ⊎_elim
    (λ same. same)
    (λ ne. absurd (locks_alone (λ x. x) layout words held i j mine theirs lock kept exists at there a b ne))
    (cases_eq i j)
