-- The counts of one outcome more.
use Rattle.std.proofs.{Common.{◌≡◌, ℕ, ◌+◌, ◌<◌, List, Bool, length, get_or, take, ap, ◌∙◌, sym, count_by, cond, arith}, lemmas.List.length-take-le}
use Rattle.std.proofs.lemmas.List.Sums.{sum_by_more}
use Rattle.npf_engine.specs.{declared.outcome.Outcome.Outcome, Outcome.passes}
use Rattle.npf_report.specs.{declared.totals.Counts.Counts, TotalText.{CountsOutcomes, AddsOutcome, is_blocked, is_dropped, is_skipped, is_malformed}}

module _ (outcomes : List Outcome) (i : ℕ) (default : Outcome) (within : i < length outcomes) where
  -- a test's count of one element more
  more_of : (p : Outcome → Bool) (before now : ℕ) → before ≡ count_by p (take i outcomes) → now ≡ before + cond (p (get_or outcomes i default)) 1 0
      → now ≡ count_by p (take (i + 1) outcomes)
  more_of p before now counted adds =
      adds ∙ ap (λ n. n + cond (p (get_or outcomes i default)) 1 0) counted ∙ sym (sum_by_more (λ outcome. cond (p outcome) 1 0) outcomes i default within)

  one_longer : length (take (i + 1) outcomes) ≡ length (take i outcomes) + 1
  one_longer = omega (arith, within, length-take-le i outcomes (omega (arith, within)), length-take-le (i + 1) outcomes (omega (arith, within)))

  pub one_counted : (before now : Counts) → CountsOutcomes (take i outcomes) before → AddsOutcome (get_or outcomes i default) before now
      → CountsOutcomes (take (i + 1) outcomes) now
  one_counted before now counted adds = record {
    packets = adds.packets ∙ ap (λ n. n + 1) counted.packets ∙ sym one_longer;
    passed = more_of passes before.passed now.passed counted.passed adds.passed;
    blocked = more_of is_blocked before.blocked now.blocked counted.blocked adds.blocked;
    dropped = more_of is_dropped before.dropped now.dropped counted.dropped adds.dropped;
    skipped = more_of is_skipped before.skipped now.skipped counted.skipped adds.skipped;
    malformed = more_of is_malformed before.malformed now.malformed counted.malformed adds.malformed;
  }
