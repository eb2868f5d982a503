-- A pass of the table stays one through these steps.
use Rattle.std.specs.List.{Contains}
use Rattle.std.proofs.Common.{◌≡◌, ℕ, ◌≤◌, Bool, true, false, cond, eqb, Option, Some, None, List, [], ◌∷◌, map, refl, sym, ap, ◌∙◌, subst, ⊎_elim, arith}
use Rattle.std.proofs.lemmas.List.Elements.{Contains-append_left, Contains-append_right, Contains-push}
use Rattle.atomic_table.specs.{Seated.TableId, Table.Me}
use Rattle.npf_connections.specs.Worn.{last_epoch}
use Rattle.npf_paths.specs.declared.place.{Lock.Lock, Place.Place}
use Rattle.npf_paths.specs.declared.place.Lock.TheVariants as Locking
use Rattle.npf_cells_words.specs.declared.{layout.Layout.Layout, mark.{Emptied.Emptied, Marked.Marked, MetMark.MetMark}}
use Rattle.npf_seats.proofs.PrefixLemmas.{cons_cases, none_listed}
use Rattle.npf_cells_pins.specs.declared.pin.EpochSide.{EpochSide}
use Rattle.npf_cells_leaves.specs.declared.trie.TrieSide.{TrieSide}
use Rattle.npf_cells_lives.specs.declared.pools.PoolSide.{PoolSide}
use Rattle.npf_cells_rule.specs.{declared.view.CellView.CellView, Passes.IsPassOf, Views.with_trie}
use Rattle.npf_cells_returns.specs.MarkKinds.{MayMarkNode, marked_by, marking, parent_said, placed_mark, placing, regaining}

-- what it has of locks and what it was answered are as they were, it has the locks of what it marked, and it forgets an epoch at most
stays_on : {S A R F : Type 0} (layout : Layout) (table seat seat' : TableId) (readers : List ℕ) (me next : Me F (CellView S A R)) (epochs : EpochSide) (pools : PoolSide) (trie : TrieSide) →
    IsPassOf layout table seat readers me → seat' ≡ seat →
    next ≡ (record me.0 { epochs = epochs; pools = pools; trie = trie }, me.1) → epochs.pin ≡ me.0.epochs.pin →
    epochs.loaded ≤ last_epoch → trie.answered ≡ me.0.trie.answered → trie.locks ≡ me.0.trie.locks →
    ((x : Marked) → Contains trie.marks x → Contains me.0.trie.locks (Locking.Node x.node)) → IsPassOf layout table seat' readers next
stays_on layout table seat seat' readers me next epochs pools trie own same is pin least answered locks marked = rw is (record {
  same = same ∙ own.same;
  words = own.words;
  carries = own.carries;
  sized = own.sized;
  lives = own.lives;
  theirs = own.theirs;
  owns = own.owns;
  place = own.place;
  most = own.most;
  reader = own.reader;
  epoch = least;
  unanswered = λ idle. answered ∙ own.unanswered (sym pin ∙ idle);
  unlocked = λ idle. locks ∙ own.unlocked (sym pin ∙ idle);
  marked = λ x c. subst (λ ls. Contains ls (Locking.Node x.node)) (sym locks) (marked x c);
})

-- a load by which it learns of an empty node, or of a mark
pub learned_on : {S A R F : Type 0} (layout : Layout) (table seat seat' : TableId) (readers : List ℕ) (me next : Me F (CellView S A R)) (emptied : Option Emptied) (met : Option MetMark) →
    IsPassOf layout table seat readers me → seat' ≡ seat →
    next ≡ with_trie me (record me.0.trie { emptied = emptied; met_mark = met }) → IsPassOf layout table seat' readers next
learned_on layout table seat seat' readers me next emptied met own same is =
    stays_on layout table seat seat' readers me next me.0.epochs me.0.pools (record me.0.trie { emptied = emptied; met_mark = met }) own same is refl own.epoch refl refl own.marked

-- a node is marked whose lock it has
pub marking_on : {S A R F : Type 0} (layout : Layout) (table seat seat' : TableId) (readers : List ℕ) (node : ℕ) (me next : Me F (CellView S A R)) →
    IsPassOf layout table seat readers me → seat' ≡ seat → MayMarkNode layout me.0 node →
    next ≡ with_trie me (marking me.0.trie) → IsPassOf layout table seat' readers next
marking_on layout table seat seat' readers node me next own same may is =
    stays_on layout table seat seat' readers me next me.0.epochs me.0.pools (marking me.0.trie) own same is refl own.epoch refl refl
    (λ x c. ⊎_elim
    (λ (new : record { node = may.found.node; parent = parent_said may.found.parent; placed = false } ≡ x). subst
    (λ n. Contains me.0.trie.locks (Locking.Node n)) (sym may.there ∙ ap (λ (y : Marked). y.node) new) may.own)
    (λ (old : Contains me.0.trie.marks x). own.marked x old)
    (cons_cases (record { node = may.found.node; parent = parent_said may.found.parent; placed = false }) x me.0.trie.marks (subst (λ e. Contains (marked_by e me.0.trie.marks) x) may.has c)))

-- the mark of a node is put in its place
placed_node : (node : ℕ) (x : Marked) → (placed_mark node x).node ≡ x.node
placed_node node x = by_test (eqb x.node node)
  where
    by_test : (b : Bool) → (cond b (record x { placed = true }) x).node ≡ x.node
    by_test true = refl
    by_test false = refl

placed_locked : (node : ℕ) (locks : List Lock) (marks : List Marked) → ((x : Marked) → Contains marks x → Contains locks (Locking.Node x.node)) →
    (x : Marked) → Contains (map (placed_mark node) marks) x → Contains locks (Locking.Node x.node)
placed_locked node locks [] locked x c = absurd (none_listed x c)
placed_locked node locks (y ∷ ys) locked x c = ⊎_elim
    (λ (e : placed_mark node y ≡ x). subst (λ n. Contains locks (Locking.Node n)) (sym (placed_node node y) ∙ ap (λ (z : Marked). z.node) e)
    (locked y (Contains-append_left (y ∷ []) ys y (Contains-push [] y))))
    (λ (c' : Contains (map (placed_mark node) ys) x). placed_locked node locks ys (λ z d. locked z (Contains-append_right (y ∷ []) ys z d)) x c')
    (cons_cases (placed_mark node y) x (map (placed_mark node) ys) c)

pub placing_on : {S A R F : Type 0} (layout : Layout) (table seat seat' : TableId) (readers : List ℕ) (node : ℕ) (me next : Me F (CellView S A R)) →
    IsPassOf layout table seat readers me → seat' ≡ seat → next ≡ placing node me → IsPassOf layout table seat' readers next
placing_on layout table seat seat' readers node me next own same is =
    stays_on layout table seat seat' readers me next (placing node me).0.epochs me.0.pools (placing node me).0.trie own same is refl
    (omega arith) refl refl (placed_locked node me.0.trie.locks me.0.trie.marks own.marked)

-- and it is cleared
pub regaining_on : {S A R F : Type 0} (layout : Layout) (table seat seat' : TableId) (readers : List ℕ) (p : Place) (node : ℕ) (me next : Me F (CellView S A R)) →
    IsPassOf layout table seat readers me → seat' ≡ seat → next ≡ regaining p node me → IsPassOf layout table seat' readers next
regaining_on layout table seat seat' readers p node me next own same is =
    stays_on layout table seat seat' readers me next me.0.epochs (regaining p node me).0.pools (regaining p node me).0.trie own same is refl own.epoch refl refl own.marked
