-- What the classes of intervals say of numbers.
use Rattle.std.proofs.Common.{◌≤◌, ◌<◌, ◌↔◌, ℕ, List, length, get_or, ap, arith, ◌∙◌, subst, vec_len}
use Rattle.npf_cut.specs.{declared.{dimension.Dimension.Dimension, range.Range.Range, span.SetSpan.SetSpan}, Dimension.{IsCutBy, class_at}, Partition.RespectsSets, Range.IsInRanges}
use Rattle.npf_cut.specs.{Span.{IsIntervalOf, IsSpanWithin}, Start.{AreStarts, interval_of}}
use Rattle.npf_cut.proofs.StartLemmas.{IsLastAt, interval_at, last_at, non_decreasing, same_side}

pub cut_is : (ranges merged : List Range) (top : ℕ) (cut : Dimension) → ((s v : ℕ) → IsInRanges merged s v ↔ IsInRanges ranges s v) → AreStarts top merged cut.starts.items
    → ((set interval : ℕ) → interval < length cut.starts.items → IsIntervalOf cut.spans.items set interval ↔ IsInRanges merged set (get_or cut.starts.items interval 0))
    → RespectsSets cut.spans.items cut.classes.items → IsCutBy ranges top cut
cut_is ranges merged top cut same are spans respects =
    let some : 0 < length cut.starts.items = let h = cut.some in let ok = cut.starts.ok in omega arith in
    record {
      told = λ set v le.
          let starts = cut.starts.items in
          let at = interval_of starts v in
          let here : IsLastAt starts v at = last_at starts cut.rises some cut.zero v in
          let pairs = cut.paired in
          let in' = here.within in (
            λ h.
                let span = (h.of_set).span in
                let most = cut.within (h.of_set).among.0 span (h.of_set).among.1 in
                let own : IsSpanWithin (vec_len cut.starts) span = subst (λ (s : SetSpan). IsSpanWithin (vec_len cut.starts) s) (h.of_set).among.2 most in
                let lt : h.interval < length cut.classes.items = let a = (h.of_set).to in let b = own.most in let ok = cut.classes.ok in omega arith in
                let there = respects set h.interval at lt (omega arith) h.of_class h.of_set in
                (same set v).0 ((same_side top merged starts are v le at here set).0 ((spans set at in').0 there)),
            λ h. record {
              interval = at;
              of_set = (spans set at in').1 ((same_side top merged starts are v le at here set).1 ((same set v).1 h));
              of_class = λ i. class_at cut v;
            },
          );
      below = λ v le.
          let here : IsLastAt cut.starts.items v (interval_of cut.starts.items v) = last_at cut.starts.items cut.rises some cut.zero v in
          let pairs = cut.paired in
          let in' = here.within in
          cut.firsts_are.below (interval_of cut.starts.items v) 0 (omega arith);
      least = λ v le.
          let starts = cut.starts.items in
          let at : ℕ = interval_of starts v in
          let here : IsLastAt starts v at = last_at starts cut.rises some cut.zero v in
          let pairs = cut.paired in
          let in' = here.within in
          let first : get_or cut.firsts.items (class_at cut v) 0 ≤ at = cut.firsts_are.least at (omega arith) in
          let rise : get_or starts (get_or cut.firsts.items (class_at cut v) 0) 0 ≤ get_or starts at 0 = non_decreasing starts cut.rises _ at 0 first in' in
          let low = here.low in omega arith;
      member = λ class less.
          let first = cut.firsts_are.first class less in
          let pairs = cut.paired in
          let in' : get_or cut.firsts.items class 0 < length cut.starts.items = let lt = first.0 in omega arith in (
            are.has.below (get_or cut.firsts.items class 0) 0 in',
            ap (λ (m : ℕ). get_or cut.classes.items m 0) (interval_at cut.starts.items cut.rises some cut.zero (get_or cut.firsts.items class 0) in') ∙ first.1,
          );
    }
