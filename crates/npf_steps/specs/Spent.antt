-- When a search has taken more steps than its caller allows. A search that ends without an answer says so of its steps, and names no other
-- cause but want of memory.
use Rattle.std.specs.Prelude.{◌≤◌, ◌<◌}
use Rattle.npf_steps.specs.declared.steps.Steps.{Steps}

-- more steps were wanted than may be taken
abbrev pub IsSpent : Steps → Type 0
IsSpent steps = steps.most < steps.taken

-- no more steps were taken than may be
abbrev pub IsUnspent : Steps → Type 0
IsUnspent steps = steps.taken ≤ steps.most
