use Rattle.npf_cells_marks.proofs.MarkLemmas.{mark_stands_once, marked_holds_back, marker_is_alone}
use Rattle.npf_cells_marks.proofs.StepLawLemmas.{clearing_keeps, freeing_keeps, learning_keeps, leaving_keeps, loading_keeps, locking_keeps}
use Rattle.npf_cells_marks.proofs.StepLawLemmas.{marking_keeps, owning_keeps, placing_keeps, storing_keeps, unlocking_keeps}
use Rattle.npf_cells_marks.proofs.marks_law.Goals as goal

pub returns-clause-once : goal.returns-clause-once
returns-clause-once c = mark_stands_once

pub returns-clause-markers : goal.returns-clause-markers
returns-clause-markers c = marker_is_alone

pub returns-clause-back : goal.returns-clause-back
returns-clause-back c = marked_holds_back

pub returns-clause-leaves : goal.returns-clause-leaves
returns-clause-leaves c = leaving_keeps

pub returns-clause-loads : goal.returns-clause-loads
returns-clause-loads c = loading_keeps

pub returns-clause-locks : goal.returns-clause-locks
returns-clause-locks c = locking_keeps

pub returns-clause-unlocks : goal.returns-clause-unlocks
returns-clause-unlocks c = unlocking_keeps

pub returns-clause-marks : goal.returns-clause-marks
returns-clause-marks c = marking_keeps

pub returns-clause-places : goal.returns-clause-places
returns-clause-places c = placing_keeps

pub returns-clause-clears : goal.returns-clause-clears
returns-clause-clears c = clearing_keeps

pub returns-clause-frees : goal.returns-clause-frees
returns-clause-frees c = freeing_keeps

pub returns-clause-stores : goal.returns-clause-stores
returns-clause-stores c = storing_keeps

pub returns-clause-owns : goal.returns-clause-owns
returns-clause-owns c = owning_keeps

pub returns-clause-learns : goal.returns-clause-learns
returns-clause-learns c = learning_keeps
