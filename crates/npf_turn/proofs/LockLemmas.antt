-- A pass gets no lock that it has.
use Rattle.std.{specs.List.Contains, proofs.Common.{◌≡◌, ℕ, Bool, true, slice_index, ap, ◌∙◌, arith}}
use Rattle.npf_types.specs.declared.key.Key.{Key}
use Rattle.npf_core.specs.Meaning.{Meaning}
use Rattle.npf_paths.specs.declared.place.Lock.{Lock}
use Rattle.npf_seats.proofs.SumLemmas.{one_of_sum}
use Rattle.npf_cells_words.specs.{declared.layout.Layout.Layout, Places.{IsLockOf, lock_at}}
use Rattle.npf_cells_lives.{specs.Locks.{has_lock, held_in, lock_holders}, proofs.LockLemmas.has_once}
use Rattle.npf_cells_rule.specs.{declared.view.CellView.CellView, Views.lock_side}
use Rattle.npf_cells_holds.specs.LockKinds.{GotLock}

-- its word was 0 when the pass got it, so no pass had it
pub not_had : {S A R : Type 0} (m : Meaning S A R) (digest : Key → ℕ) (layout : Layout) (v : CellView S A R) (lock : Lock) (got : Bool) →
    IsLockOf layout lock → GotLock m digest layout v lock got → got ≡ true → ¬ Contains v.trie.locks lock
not_had {S} {A} {R} m digest layout v lock got exists tells won c =
    let stood = tells.stood in
    let free : slice_index stood.state.words (lock_at layout lock) ≡ 0 = stood.there ∙ tells.answers.0 won in
    let none : lock_holders lock_side layout stood.state.views lock ≡ 0 = stood.rule.locks.says lock exists ∙ ap held_in free in
    let mine = one_of_sum (λ (u : CellView S A R). has_lock layout lock u.trie.locks) stood.state.views v.seats.number v stood.seated in
    let once = has_once layout lock v.trie.locks c in
    absurd (omega (arith, none, mine, once))
