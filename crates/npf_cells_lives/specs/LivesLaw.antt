-- What the parts on connections, on locks and on turns say of any two passes.
use Rattle.std.specs.Prelude.{◌≡◌, ℕ, Option, Some, List, Contains}
use mathlib.Core.Option.{some}
use lib.ListN.{get_elem?}
use Rattle.npf_core.specs.declared.conn_id.ConnId.{ConnId}
use Rattle.npf_core.specs.declared.entry.Entry.{Entry}
use Rattle.npf_core.specs.Machine.{Machine}
use Rattle.npf_core.specs.Meaning.{Meaning}
use Rattle.npf_paths.specs.declared.place.Lock.{Lock}
use Rattle.npf_cells_words.specs.declared.layout.Layout.{Layout}
use Rattle.npf_cells_words.specs.Places.{IsLockOf}
use Rattle.npf_cells_lives.specs.declared.pools.PoolSide.{PoolSide}
use Rattle.npf_cells_lives.specs.declared.turn.Turn.{Turn}
use Rattle.npf_cells_lives.specs.Conns.{Conns}
use Rattle.npf_cells_lives.specs.Locks.{Locks}
use Rattle.npf_cells_lives.specs.Turns.{Homes, Turns}

-- two passes that are building in one slot are one
abbrev pub BuildInOneSlot : {S A R : Type 0} → Meaning S A R → Layout → Type 0
BuildInOneSlot {S} {A} {R} m layout = (log : List (Entry S A R)) (words : List ℕ) (sides : List PoolSide) (i j : ℕ) (v w : PoolSide) (id other : ConnId) → Conns (λ x. x) m layout log words sides →
    get_elem? sides i ≡ some v → get_elem? sides j ≡ some w → Contains v.builds id → Contains w.builds other → id.slot ≡ other.slot → i ≡ j

-- two passes that have one lock are one
abbrev pub LockAlone : Layout → Type 0
LockAlone layout = (words : List ℕ) (held : List (List Lock)) (i j : ℕ) (mine theirs : List Lock) (lock : Lock) → Locks (λ x. x) layout words held → IsLockOf layout lock →
    get_elem? held i ≡ some mine → get_elem? held j ≡ some theirs → Contains mine lock → Contains theirs lock → i ≡ j

-- two passes that have one slot's turn are one
abbrev pub TurnAlone : Type 0 → Layout → Type 0
TurnAlone S layout = (k : Machine S) (words : List ℕ) (homes : Homes S) (turns : List (Option (Turn S))) (i j : ℕ) (mine theirs : Turn S) → Turns (λ x. x) layout k words homes turns →
    get_elem? turns i ≡ some (Some mine) → get_elem? turns j ≡ some (Some theirs) → mine.slot ≡ theirs.slot → i ≡ j
