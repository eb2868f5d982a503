-- What the part on epochs says of passes.
use Rattle.std.specs.Prelude.{◌≡◌, ℕ, ◌+◌, ◌≤◌, List, Contains}
use mathlib.Core.Option.{some}
use lib.ListN.{get_elem?}
use Rattle.npf_cells_pins.specs.declared.pin.Pin.TheVariants.{Protected}
use Rattle.npf_cells_pins.specs.Epochs.{ReaderView, pin_place, NotProtectedBefore, Epochs}

-- where a pass is protected with this epoch, the table's is this one or the next
abbrev pub HoldsEpochBack : Type 0
HoldsEpochBack = (now : ℕ) (reader : ℕ → ℕ) (readings : List ReaderView) (j pinned epoch : ℕ) (r : ReaderView) → Epochs now reader readings → get_elem? readings j ≡ some r →
    r.side.pin ≡ Protected pinned epoch → (epoch ≤ now) × (now ≤ epoch + 1)

-- whom a scan passed by isn't protected from before the epoch that was loaded for it
abbrev pub ScansPassBy : Type 0
ScansPassBy = (now : ℕ) (reader : ℕ → ℕ) (readings : List ReaderView) (i j : ℕ) (r q : ReaderView) → Epochs now reader readings → get_elem? readings i ≡ some r → get_elem? readings j ≡ some q →
    Contains r.side.scanned (pin_place q.places) → NotProtectedBefore r.side.loaded q.side.pin
