-- A table of prefixes as contracts see it: a list of them, in no order that means anything.
use Rattle.std.specs.Prelude.{◌≢◌, ◌↔◌, List, Contains}
use Rattle.npf_types.specs.declared.prefix.Prefix.{Prefix}

-- the list has the prefix now, and every other prefix exactly where it had it before
pub record Gains (old new : List Prefix) (prefix : Prefix) : Type 0 where
  pub there : Contains new prefix
  pub others : (other : Prefix) → other ≢ prefix → Contains new other ↔ Contains old other

-- the list has the prefix no longer, and every other prefix exactly where it had it before
pub record Loses (old new : List Prefix) (prefix : Prefix) : Type 0 where
  pub gone : ¬ Contains new prefix
  pub others : (other : Prefix) → other ≢ prefix → Contains new other ↔ Contains old other
