use Rattle.std.{proofs.Common.{◌≡◌, ◌≤◌, vec_len, vec_capacity}, specs.List.range_with_len}
use Rattle.npf_runner.proofs.numbers.numbers_from.Given as goal

abbrev pub invariant-loop-place : goal.invariant-loop-place
invariant-loop-place l = (l.numbers.items ≡ range_with_len l.first l.place) × (vec_len l.numbers ≡ l.place) × (l.count ≤ vec_capacity l.numbers)
