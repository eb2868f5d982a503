-- The part on marks stays where a seat loads the words of an empty node, or of a mark, under its locks.
use Rattle.std.{specs.List.Contains, proofs.Common.{◌≡◌, ℕ, ◌+◌, ◌^◌, List, set, slice_index, refl, sym, ap, ◌∙◌, subst, ⊎_elim, inl, inr, arith}}
use mathlib.Core.Option.{some}
use lib.ListN.{get_elem?}
use Rattle.npf_paths.specs.declared.place.Lock.TheVariants as Locking
use Rattle.npf_paths.specs.declared.place.Place.TheVariants as Places
use Rattle.npf_paths.specs.Places.{lock_of}
use Rattle.npf_cells_words.specs.{declared.{layout.Layout.Layout, mark.{Emptied.Emptied, MetMark.MetMark}}, Places.place_at}
use Rattle.npf_seats.proofs.PrefixLemmas.{cons_cases}
use Rattle.npf_cells_marks.specs.{Marks.{MarkSide, RestsIn, FitsEmptied, FitsMet, HasMark, IsUnfreed, Marks}, Steps.{KnowsEmptied, KnowsMet, LearnsOfMarks}}
use Rattle.npf_cells_marks.specs.Steps.{KnowsEmptied.{known, digit_read, parent_read}, KnowsMet.{met_before, mark_read, left_read}}
use Rattle.npf_cells_marks.proofs.MarkLemmas.{placed_at, marks-changed, unfreed_on, placed_on, marked_on, emptied_on, met_on}

module _ {V : Type 0} (side_of : V → MarkSide) (layout : Layout) (published words : List ℕ) (views : List V) (i : ℕ)
    (v w : V) (kept : Marks side_of layout published words views) (at : get_elem? views i ≡ some v)
    (step : LearnsOfMarks side_of layout words v w) where
  learner_rests : (n : ℕ) → HasMark layout words n → RestsIn (side_of w) n → RestsIn (side_of v) n × ((side_of w).protecting ≡ (side_of v).protecting)
  learner_rests n mark rests = (step.rests.rests n rests, step.rests.protecting)

  -- what the seat then knows of an empty node is so
  emptied_known : (e : Emptied) → KnowsEmptied layout words (side_of v) e → FitsEmptied layout published words (side_of v) e
  emptied_known e (known _ is) = kept.emptied i v e at is
  emptied_known _ (digit_read e digit is none) =
      let was = kept.emptied i v e at is in
      record {
        exists = was.exists;
        listed = was.listed;
        locked = was.locked;
        unmarked = was.unmarked;
        parent = was.parent;
        bare = λ d c low. ⊎_elim
            (λ (same : digit ≡ d). ap (λ x. slice_index words (place_at layout (Places.Node e.node x))) (sym same) ∙ none)
            (λ (old : Contains e.digits d). was.bare d old low)
            (cons_cases digit d e.digits c);
      }
  emptied_known _ (parent_read e code is says) =
      let was = kept.emptied i v e at is in
      record {
        exists = was.exists;
        listed = was.listed;
        locked = was.locked;
        unmarked = was.unmarked;
        parent = λ other has. (let same : code ≡ other = cc in says ∙ same);
        bare = was.bare;
      }

  -- and what it then knows of a mark
  met_known : (x : MetMark) → KnowsMet layout words (side_of v) x → FitsMet layout words (side_of v) x
  met_known x (met_before _ is) = kept.met i v x at is
  met_known _ (mark_read p node inside locked is) = record { inside = inside; exists = (kept.placed p node inside is).exists; locked = locked; stands = is; left = λ epoch has. absurd cc }
  met_known _ (left_read x epoch is state) =
      let was = kept.met i v x at is in
      record { inside = was.inside; exists = was.exists; locked = was.locked; stands = was.stands; left = λ other has. (let same : epoch ≡ other = cc in state ∙ ap (λ n. 2 ^ 63 + n) same) }

  pub marks-learned : Marks side_of layout published words (set views i w)
  marks-learned = marks-changed side_of layout published published words words views i v w at
      (λ p n inside is. (let was = kept.placed p n inside is in
      placed_on side_of layout published published words words views i v w at (omega arith) learner_rests p n inside is was refl refl was.bare was.listed))
      (λ p n inside is c. subst (λ ms. Contains ms (placed_at p n)) (sym step.marks) (kept.held i v p n at inside is (subst (λ ls. Contains ls (Locking.Node n)) step.locks c)))
      (λ j u p n ne e inside is c. kept.held j u p n e inside is c)
      (λ m c.
      let was = kept.marks i v m at (subst (λ ms. Contains ms m) step.marks c) in
      marked_on side_of layout published published words words views i v w at (omega arith) learner_rests (side_of v) (side_of w) m was
      (subst (λ ls. Contains ls (Locking.Node m.node)) (sym step.locks) was.locked) (λ _. step.loaded) was.listed refl was.bare (λ q inside names. refl))
      (λ j u m ne e c. (let was = kept.marks j u m e c in marked_on side_of layout published published words words views i v w at (omega arith) learner_rests
      (side_of u) (side_of u) m was was.locked (λ _. refl) was.listed refl was.bare (λ q inside names. refl)))
      (λ y is.
      let was = emptied_known y (step.emptied y is) in
      emptied_on side_of layout published published words words views i v w at (side_of v) (side_of w) y was (subst (λ ls. Contains ls (Locking.Node y.node)) (sym step.locks) was.locked)
      (λ m c. was.unmarked m (subst (λ ms. Contains ms m) step.marks c)) was.listed refl (λ digit c low. refl))
      (λ j u y ne e is. kept.emptied j u y e is)
      (λ y is. (let was = met_known y (step.met y is) in
      met_on side_of layout published published words words views i v w at (side_of v) (side_of w) y was (subst (λ ls. Contains ls (lock_of y.place)) (sym step.locks) was.locked) refl refl))
      (λ j u y ne e is. kept.met j u y e is)
      (λ n c. kept.unfreed i v n at (subst (λ ns. Contains ns n) step.unfreed c))
      (λ j u n ne e c. kept.unfreed j u n e c)
      (λ n exists e. ⊎_elim
      (λ (mark : HasMark layout words n). inl mark)
      (λ (was : IsUnfreed side_of views n). inr (unfreed_on side_of layout published published words words views i v w at n (λ c. subst (λ ns. Contains ns n) (sym step.unfreed) c) was))
      (kept.states n exists e))
