use Rattle.std.proofs.Common.{◌≡◌, ℕ, ◌+◌, ◌<◌, ◌≤◌, length, get_or}
use Rattle.std.specs.Fork.{ChangesAt}
use Rattle.npf_runner_threads.proofs.each.in_turn.Given as goal

abbrev pub invariant-loop-place : goal.invariant-loop-place
invariant-loop-place g l = record {
  same_length : length l.part ≡ length l.initial.part;
  rest : (j : ℕ) (d : g.row.T.Denot) → l.place ≤ j → get_or l.part j d ≡ get_or l.initial.part j d;
  done : (j : ℕ) (d : g.row.T.Denot) → j < l.place → ChangesAt g.F.Fn l.f (l.base + j) (get_or l.initial.part j d) (get_or l.part j d);
}
