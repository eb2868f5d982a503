-- That each kind of step keeps the part on marks.
use Rattle.std.specs.Prelude.{◌≡◌, ℕ, List, slice_set}
use mathlib.Core.Option.{some}
use lib.ListN.{get_elem?}
use Rattle.npf_paths.specs.declared.place.Lock.{Lock}
use Rattle.npf_paths.specs.declared.place.Place.{Place}
use Rattle.npf_cells_words.specs.declared.layout.Layout.{Layout}
use Rattle.npf_cells_words.specs.declared.mark.Emptied.{Emptied}
use Rattle.npf_cells_marks.specs.Marks.{MarkSide, Marks}
use Rattle.npf_cells_marks.specs.Steps.{GetsNodeBack, FreesLock, FreesState, GetsLock, LearnsOfMarks, LeavesMarks, LoadsEpoch, MarksNode, PlacesMark, StoresInOwn, StoresInPlace}

-- the part over these words and sides, of which that of one seat is this one
abbrev pub KeptBy : Layout → (List ℕ → List ℕ → List ℕ → List ℕ → List MarkSide → ℕ → MarkSide → MarkSide → Type 0) → Type 0
KeptBy layout Step = (published published' words words' : List ℕ) (sides : List MarkSide) (i : ℕ) (v w : MarkSide) → Marks (λ x. x) layout published words sides → get_elem? sides i ≡ some v →
    Step published published' words words' sides i v w → Marks (λ x. x) layout published' words' (slice_set sides i w)

abbrev pub LeavingKeepsMarks : Layout → Type 0
LeavingKeepsMarks layout = KeptBy layout (λ published published' words words' sides i v w. LeavesMarks layout published published' words words' v w)

abbrev pub LoadingKeepsMarks : Layout → Type 0
LoadingKeepsMarks layout = KeptBy layout (λ published published' words words' sides i v w. (published' ≡ published) × (words' ≡ words) × LoadsEpoch (λ x. x) words sides v w)

abbrev pub LockingKeepsMarks : Layout → Type 0
LockingKeepsMarks layout = (lock : Lock) → KeptBy layout (λ published published' words words' sides i v w. (published' ≡ published) × GetsLock (λ x. x) layout words words' sides lock v w)

abbrev pub UnlockingKeepsMarks : Layout → Type 0
UnlockingKeepsMarks layout = (lock : Lock) (state : ℕ) → KeptBy layout (λ published published' words words' sides i v w. (published' ≡ published) × FreesLock (λ x. x) layout words words' sides i lock state v w)

abbrev pub MarkingKeepsMarks : Layout → Type 0
MarkingKeepsMarks layout = (p : Place) (found : Emptied) → KeptBy layout (λ published published' words words' sides i v w. (published' ≡ published) × MarksNode (λ x. x) layout words words' p found v w)

abbrev pub PlacingKeepsMarks : Layout → Type 0
PlacingKeepsMarks layout = (p : Place) (node : ℕ) → KeptBy layout (λ published published' words words' sides i v w. (published' ≡ published) × PlacesMark (λ x. x) layout words words' sides i p node v w)

abbrev pub ClearingKeepsMarks : Layout → Type 0
ClearingKeepsMarks layout = (p : Place) (node epoch : ℕ) → KeptBy layout (λ published published' words words' sides i v w. GetsNodeBack (λ x. x) layout published published' words words' sides i p node epoch v w)

abbrev pub FreeingKeepsMarks : Layout → Type 0
FreeingKeepsMarks layout = (node : ℕ) → KeptBy layout (λ published published' words words' sides i v w. (published' ≡ published) × FreesState (λ x. x) layout published words words' sides i node v w)

abbrev pub StoringKeepsMarks : Layout → Type 0
StoringKeepsMarks layout = (p : Place) → KeptBy layout (λ published published' words words' sides i v w. StoresInPlace (λ x. x) layout published published' words words' sides i p v w)

abbrev pub OwningKeepsMarks : Layout → Type 0
OwningKeepsMarks layout = (p : Place) (own : ℕ) → KeptBy layout (λ published published' words words' sides i v w. (published' ≡ published) × StoresInOwn (λ x. x) layout published words words' p own v w)

abbrev pub LearningKeepsMarks : Layout → Type 0
LearningKeepsMarks layout = KeptBy layout (λ published published' words words' sides i v w. (published' ≡ published) × (words' ≡ words) × LearnsOfMarks (λ x. x) layout words v w)
