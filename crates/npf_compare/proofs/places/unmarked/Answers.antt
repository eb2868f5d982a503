use Rattle.std.proofs.Common.{◌≡◌, ◌+◌, ◌<◌, ◌++◌, ◌∷◌, [], ℕ, Vec, Global, false, slice_index, slice_index_or, sym, subst, ap, ◌∙◌, arith}
use Rattle.std.specs.List.{All, AllPairs}
use Rattle.std.proofs.lemmas.List.Elements.{All-push}
use Rattle.npf_compare.proofs.PlaceLemmas.{pairs_push, whole_marked, whole_pushed, within_more}
use Rattle.npf_compare.proofs.places.unmarked.Goals as goal
use Rattle.npf_compare.proofs.places.unmarked.Goals.{then-not-is_marked+in_ok-push, else-not-is_marked}

pub loop-place-preserved : goal.loop-place-preserved
loop-place-preserved c =
    let at = c.loop-place.place in
    let places = c.loop-place.places.items in
    let inv = c.loop-place.invariant in
    let marked : ℕ → _ = λ k. slice_index_or c.args.marks.now (slice_index c.args.at.now k) false in
    elim c.if-not-is_marked.branch [
      | then-not-is_marked+in_ok-push w ↦
          let items : c.if-not-is_marked.places.items ≡ places ++ at ∷ [] = ap (λ (v : Vec ℕ Global). v.items) w.places-is ∙ w.in_ok-push.ensures.items in
          record {
            within = subst (All (λ place. place < at + 1)) (sym items)
                (All-push (λ place. place < at + 1) places at (within_more places at inv.within) (omega arith));
            rising = subst (AllPairs (λ one next. one < next)) (sym items) (pairs_push (λ one next. one < next) at places inv.within inv.rising);
            whole = rw items (whole_pushed marked places at inv.whole);
          }
      | else-not-is_marked w ↦
          let items : c.if-not-is_marked.places.items ≡ places = ap (λ (v : Vec ℕ Global). v.items) w.places-is in
          record {
            within = subst (All (λ place. place < at + 1)) (sym items) (within_more places at inv.within);
            rising = subst (AllPairs (λ one next. one < next)) (sym items) inv.rising;
            whole = rw items (whole_marked marked places at (sym c.is_marked.ensures ∙ w.if-not-is_marked.false) inv.whole);
          }
    ]
