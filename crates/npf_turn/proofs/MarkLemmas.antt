-- A pass without locks has marked no node, and who marked none may free the lock that it has, and store in any node's places.
use Rattle.std.{specs.List.Contains, proofs.Common.{◌≡◌, ℕ, List, [], ◌∷◌, None, false, true, cond, eq-eqb, refl, sym, ap, ◌∙◌, subst, inl}}
use Rattle.std.proofs.lemmas.List.Elements.{Contains-append_left, Contains-push}
use Rattle.atomic_table.specs.{Seated.TableId, Table.Me}
use Rattle.npf_paths.specs.declared.place.{Lock.Lock, Place.Place}
use Rattle.npf_paths.specs.declared.place.Lock.TheVariants as Locking
use Rattle.npf_seats.proofs.PrefixLemmas.{none_listed}
use Rattle.npf_cells_words.specs.{declared.{layout.Layout.Layout, mark.Marked.Marked}, Places.lock_at}
use Rattle.npf_cells_rule.specs.{declared.view.CellView.CellView, Passes.IsPassOf, Views.with_trie}
use Rattle.npf_cells_holds.specs.{LockKinds.{MayStoreState, locks_but, marks_but, unlocking}, PublishKinds.IsUnmarkedPlace}

nothing_in : {X : Type 0} (xs : List X) → ((x : X) → Contains xs x → ⊥) → xs ≡ []
nothing_in [] none = refl
nothing_in (x ∷ xs) none = absurd (none x (Contains-append_left (x ∷ []) xs x (Contains-push [] x)))

pub none_marked : {S A R F : Type 0} {layout : Layout} {table seat : TableId} {readers : List ℕ} {me : Me F (CellView S A R)} →
    IsPassOf layout table seat readers me → me.0.trie.locks ≡ [] → me.0.trie.marks ≡ []
none_marked {me = me} own unlocked = nothing_in me.0.trie.marks (λ m c. none_listed (Locking.Node m.node) (subst (λ locks. Contains locks (Locking.Node m.node)) unlocked (own.marked m c)))

pub may_free : {S A R : Type 0} (v : CellView S A R) (lock : Lock) → v.trie.marks ≡ [] → MayStoreState v lock 0
may_free v lock none = inl (refl, λ m c. absurd (none_listed m (subst (λ marks. Contains marks m) none c)))

pub none_in_place : (marks : List Marked) (p : Place) → marks ≡ [] → IsUnmarkedPlace marks p
none_in_place marks p none m c = absurd (none_listed m (subst (λ ms. Contains ms m) none c))

-- the lock was its only one
pub freed_only : {S A R F : Type 0} (layout : Layout) (lock : Lock) (me next : Me F (CellView S A R)) →
    me.0.trie.locks ≡ lock ∷ [] → me.0.trie.marks ≡ [] → next ≡ with_trie me (unlocking layout lock 0 me.0.trie) →
    next ≡ with_trie me (record me.0.trie { locks = []; emptied = None; met_mark = None })
freed_only layout lock me next only none frees = frees ∙ (λ i. with_trie me (record me.0.trie { locks = left i; marks = unmarked i; emptied = None; met_mark = None }))
  where
    left : locks_but layout lock me.0.trie.locks ≡ []
    left = ap (locks_but layout lock) only ∙ ap (λ b. cond (cond b false true) (lock ∷ []) []) (eq-eqb (lock_at layout lock) (lock_at layout lock) refl)

    unmarked : marks_but layout lock me.0.trie.marks ≡ me.0.trie.marks
    unmarked = ap (marks_but layout lock) none ∙ sym none
