-- What steps on locks change in a pass's own view, and what each tells.
use Rattle.std.specs.Prelude.{◌≡◌, ◌≢◌, ◌⊎◌, ℕ, ◌+◌, ◌^◌, ◌≤◌, ◌↔◌, ◌==◌, ◌||◌, Bool, true, false, None, List, ◌∷◌, Contains, filter, if◌then◌else◌}
use Rattle.atomic_table.specs.Table.{Me, Step}
use Rattle.npf_types.specs.declared.key.Key.{Key}
use Rattle.npf_core.specs.Meaning.{Meaning}
use Rattle.npf_paths.specs.declared.place.Lock.{Lock}
use Rattle.npf_paths.specs.declared.place.Lock.TheVariants as Locking
use Rattle.npf_cells_words.specs.declared.layout.Layout.{Layout}
use Rattle.npf_cells_words.specs.declared.mark.Marked.{Marked}
use Rattle.npf_cells_words.specs.Places.{lock_at}
use Rattle.npf_cells_leaves.specs.declared.trie.TrieSide.{TrieSide}
use Rattle.npf_cells_lives.specs.Deaths.{has_epoch}
use Rattle.npf_cells_rule.specs.declared.view.CellView.{CellView}
use Rattle.npf_cells_rule.specs.Stood.{StoodSo}
use Rattle.npf_cells_rule.specs.Views.{with_trie}

-- a lock that was got: what the pass saw before may have changed meanwhile
abbrev pub locking : Lock → TrieSide → TrieSide
locking lock side = record side { seen = None; locks = lock ∷ side.locks }

-- the locks but this one
abbrev pub locks_but : Layout → Lock → List Lock → List Lock
locks_but layout lock = filter (λ other. if lock_at layout other == lock_at layout lock then false else true)

-- the marks of nodes that this isn't the lock of
abbrev pub marks_but : Layout → Lock → List Marked → List Marked
marks_but layout lock = filter (λ (m : Marked). if lock_at layout (Locking.Node m.node) == lock_at layout lock then false else true)

-- a store of the state of what is locked: 0 frees the lock, and so does an epoch, by which a node that the pass marked is let go; who frees one
-- forgets what it found under its locks
abbrev pub unlocking : Layout → Lock → ℕ → TrieSide → TrieSide
unlocking layout lock state side =
    if (state == 0) || (has_epoch state == 1) then record side { locks = locks_but layout lock side.locks; marks = marks_but layout lock side.marks; emptied = None; met_mark = None } else side

-- the lock is of no node that was marked
abbrev pub IsUnmarkedLock : List Marked → Lock → Type 0
IsUnmarkedLock marks lock = (m : Marked) → Contains marks m → lock ≢ Locking.Node m.node

-- the lock is of a node that the pass marked, whose mark it put in the node's place; and the state is the epoch that it loaded since, with the top bit
pub record LetsNodeGo {S A R : Type 0} (v : CellView S A R) (lock : Lock) (state : ℕ) : Type 0 where
  pub mark : Marked
  pub mine : Contains v.trie.marks mark
  pub placed : mark.placed ≡ true
  pub lock_is : lock ≡ Locking.Node mark.node
  pub loaded : 1 ≤ v.epochs.loaded
  pub epoch : state ≡ 2 ^ 63 + v.epochs.loaded

-- a lock is freed with 0 where it is of no node that the pass marked, and else the node is let go
abbrev pub MayStoreState : {S A R : Type 0} → CellView S A R → Lock → ℕ → Type 0
MayStoreState v lock state = ((state ≡ 0) × IsUnmarkedLock v.trie.marks lock) ⊎ LetsNodeGo v lock state

-- whether the lock was got: it was exactly where its word was 0 in a state in which the seat knew and had this
pub record GotLock {S A R : Type 0} (m : Meaning S A R) (digest : Key → ℕ) (layout : Layout) (view : CellView S A R) (lock : Lock) (got : Bool) : Type 0 where
  pub found : ℕ
  pub stood : StoodSo m digest layout view (lock_at layout lock) found
  pub answers : (got ≡ true) ↔ (found ≡ 0)

-- the kinds, as what they tell
pub record TriesLock {S A R F : Type 0} (m : Meaning S A R) (digest : Key → ℕ) (layout : Layout) (lock : Lock) (step : Step F) (me : Me F (CellView S A R)) (found : ℕ) (next : Me F (CellView S A R)) : Type 0 where
  pub stood : StoodSo m digest layout me.0 (lock_at layout lock) found
  pub won : found ≡ 0 → next ≡ with_trie me (locking lock me.0.trie)
  pub lost : found ≢ 0 → next ≡ me

pub record StoresState {S A R F : Type 0} (layout : Layout) (lock : Lock) (state : ℕ) (step : Step F) (me : Me F (CellView S A R)) (value : ℕ) (next : Me F (CellView S A R)) : Type 0 where
  pub is : next ≡ with_trie me (unlocking layout lock state me.0.trie)
