-- Each kind of step keeps the part on marks, over the sides alone.
use Rattle.npf_cells_words.specs.declared.layout.Layout.{Layout}
use Rattle.npf_cells_marks.specs.StepsLaw.{ClearingKeepsMarks, FreeingKeepsMarks, LearningKeepsMarks, LeavingKeepsMarks, LoadingKeepsMarks, LockingKeepsMarks}
use Rattle.npf_cells_marks.specs.StepsLaw.{MarkingKeepsMarks, OwningKeepsMarks, PlacingKeepsMarks, StoringKeepsMarks, UnlockingKeepsMarks}
use Rattle.npf_cells_marks.proofs.{ClearingLemmas.{marks-cleared, marks-regained}, LearningLemmas.marks-learned, PlacingLemmas.{marks-marked, marks-placed}}
use Rattle.npf_cells_marks.proofs.{StepLemmas.{marks-same, marks-loading, marks-got, marks-freed}, StoringLemmas.{marks-owned, marks-stored}}

pub leaving_keeps : (layout : Layout) → LeavingKeepsMarks layout
leaving_keeps layout published published' words words' sides i v w kept at step = marks-same (λ x. x) layout published published' words words' sides i v w kept at step

pub loading_keeps : (layout : Layout) → LoadingKeepsMarks layout
loading_keeps layout published published' words words' sides i v w kept at step = rw (step.0, step.1) (marks-loading (λ x. x) layout published words sides i v w kept at step.2)

pub learning_keeps : (layout : Layout) → LearningKeepsMarks layout
learning_keeps layout published published' words words' sides i v w kept at step = rw (step.0, step.1) (marks-learned (λ x. x) layout published words sides i v w kept at step.2)

pub locking_keeps : (layout : Layout) → LockingKeepsMarks layout
locking_keeps layout lock published published' words words' sides i v w kept at step = rw step.0 (marks-got (λ x. x) layout published words words' sides i lock v w kept at step.1)

pub unlocking_keeps : (layout : Layout) → UnlockingKeepsMarks layout
unlocking_keeps layout lock state published published' words words' sides i v w kept at step = rw step.0 (marks-freed (λ x. x) layout published words words' sides i lock state v w kept at step.1)

pub marking_keeps : (layout : Layout) → MarkingKeepsMarks layout
marking_keeps layout p found published published' words words' sides i v w kept at step = rw step.0 (marks-marked (λ x. x) layout published words words' sides i p found v w kept at step.1)

pub placing_keeps : (layout : Layout) → PlacingKeepsMarks layout
placing_keeps layout p node published published' words words' sides i v w kept at step = rw step.0 (marks-placed (λ x. x) layout published words words' sides i p node v w kept at step.1)

pub clearing_keeps : (layout : Layout) → ClearingKeepsMarks layout
clearing_keeps layout p node epoch published published' words words' sides i v w kept at step = marks-cleared (λ x. x) layout published published' words words' sides i p node epoch v w kept at step

pub freeing_keeps : (layout : Layout) → FreeingKeepsMarks layout
freeing_keeps layout node published published' words words' sides i v w kept at step = rw step.0 (marks-regained (λ x. x) layout published words words' sides i node v w kept at step.1)

pub storing_keeps : (layout : Layout) → StoringKeepsMarks layout
storing_keeps layout p published published' words words' sides i v w kept at step = marks-stored (λ x. x) layout published published' words words' sides i p v w kept at step

pub owning_keeps : (layout : Layout) → OwningKeepsMarks layout
owning_keeps layout p own published published' words words' sides i v w kept at step = rw step.0 (marks-owned (λ x. x) layout published words words' sides i p own v w kept at step.1)
