-- What the rule says of marks.
use Rattle.std.proofs.Common.{◌≡◌, ℕ, ◌+◌, ◌≤◌, refl, arith}
use mathlib.Core.Option.{some}
use lib.ListN.{get_elem?}
use Rattle.atomic_table.specs.Table.{State}
use Rattle.npf_core.specs.Meaning.{Meaning}
use Rattle.npf_cells_words.specs.{declared.layout.Layout.Layout, Layout.epoch_word}
use Rattle.npf_cells_pins.specs.declared.pin.Pin.{Pin, TheVariants.{Idle, Pinned, Protected}}
use Rattle.npf_cells_lives.specs.{Deaths.IsProtectedBy, Turns.Running}
use Rattle.npf_cells_rule.{specs.{declared.view.CellView.CellView, Views.protecting_epoch}, proofs.{LawLemmas.holds_back, MarkMetLemmas.mark_holds_none}}
use Rattle.npf_cells_returns.specs.MarkLaw.{MarksHoldNone, MarkedNodesAreBare, MarkedNodesHoldBack}

pub marks_hold_none : {S A R : Type 0} (m : Meaning S A R) (layout : Layout) → MarksHoldNone m layout
marks_hold_none m layout digest s kept key level node p inside is on = mark_holds_none m digest layout s kept p inside key level node on is

pub marked_are_bare : {S A R : Type 0} (m : Meaning S A R) (layout : Layout) → MarkedNodesAreBare m layout
marked_are_bare m layout digest s node p kept inside is = (kept.marks.placed p node inside is).bare

pub marked_hold_back : {S A R : Type 0} (m : Meaning S A R) (layout : Layout) → MarkedNodesHoldBack m layout
marked_hold_back {S} {A} {R} m layout digest s j node epoch v p kept at inside is left rests = by_pin v.epochs.pin refl (((kept.marks.placed p node inside is).left epoch left).rested j v at rests)
  where
    by_pin : (pin : Pin) → v.epochs.pin ≡ pin → IsProtectedBy epoch (protecting_epoch pin) → epoch_word s.words ≤ epoch + 1
    by_pin Idle e early = absurd early
    by_pin (Pinned before) e early = absurd early
    by_pin (Protected pinned protecting) e early = let within = (holds_back m layout digest s j pinned protecting v kept at e).1 in omega (arith, early, within)
