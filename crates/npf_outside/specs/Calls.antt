use Rattle.std.specs.Prelude.{ℕ, List}
use Rattle.npf_outside.specs.declared.calls.Calls.{Calls}
use Rattle.npf_outside.specs.Counts.{count_after}

-- the numbers of the calls that are to fail
abbrev pub planned : Calls → List ℕ
planned calls = calls.failing.items

-- the number of the next call
abbrev pub next_call : Calls → ℕ
next_call calls = count_after calls.made 1
