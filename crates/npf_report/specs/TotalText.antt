-- The total line: how many packets there were, and how many had each kind of outcome.
use Rattle.std.specs.Prelude.{◌≡◌, ◌<◌, ℕ, ◌+◌, ◌-◌, ◌^◌, if◌then◌else◌, Bool, true, false, not, List, ◌++◌, length, count_by, codes}
use Rattle.std.specs.Fmt.{decimal}
use Rattle.npf_engine.specs.declared.outcome.Outcome.{Outcome}
use Rattle.npf_engine.specs.declared.outcome.Outcome.TheVariants.{Skip, Fragment, Malformed, ByConn, ByRule, Dropped}
use Rattle.npf_engine.specs.Outcome.{passes, is_pass}
use Rattle.npf_report.specs.declared.totals.Counts.{Counts}

-- a connection refused the packet, or a configuration blocked it
abbrev pub is_blocked : Outcome → Bool
is_blocked (ByConn _ _ _ pass _) = not pass
is_blocked (ByRule decision _ _ _ _) = not (is_pass decision)
is_blocked _ = false

abbrev pub is_dropped : Outcome → Bool
is_dropped (Dropped _ _ _) = true
is_dropped _ = false

abbrev pub is_skipped : Outcome → Bool
is_skipped Skip = true
is_skipped (Fragment why) = true
is_skipped _ = false

abbrev pub is_malformed : Outcome → Bool
is_malformed (Malformed _ _) = true
is_malformed _ = false

-- how many packets there were, and how many had each kind of outcome
pub record CountsOutcomes (outcomes : List Outcome) (counts : Counts) : Type 0 where
  pub packets : counts.packets ≡ length outcomes
  pub passed : counts.passed ≡ count_by passes outcomes
  pub blocked : counts.blocked ≡ count_by is_blocked outcomes
  pub dropped : counts.dropped ≡ count_by is_dropped outcomes
  pub skipped : counts.skipped ≡ count_by is_skipped outcomes
  pub malformed : counts.malformed ≡ count_by is_malformed outcomes

-- one packet more was counted
pub record AddsOutcome (outcome : Outcome) (before now : Counts) : Type 0 where
  pub packets : now.packets ≡ before.packets + 1
  pub passed : now.passed ≡ before.passed + (if passes outcome then 1 else 0)
  pub blocked : now.blocked ≡ before.blocked + (if is_blocked outcome then 1 else 0)
  pub dropped : now.dropped ≡ before.dropped + (if is_dropped outcome then 1 else 0)
  pub skipped : now.skipped ≡ before.skipped + (if is_skipped outcome then 1 else 0)
  pub malformed : now.malformed ≡ before.malformed + (if is_malformed outcome then 1 else 0)

-- no count stands at its greatest value
pub record MayCount (counts : Counts) : Type 0 where
  pub packets : counts.packets < 2 ^ 64 - 1
  pub passed : counts.passed < 2 ^ 64 - 1
  pub blocked : counts.blocked < 2 ^ 64 - 1
  pub dropped : counts.dropped < 2 ^ 64 - 1
  pub skipped : counts.skipped < 2 ^ 64 - 1
  pub malformed : counts.malformed < 2 ^ 64 - 1

unfoldable pub total_text : List Outcome → List ℕ
total_text outcomes =
    (codes "packets " ++ decimal (length outcomes)) ++ (codes " pass " ++ decimal (count_by passes outcomes))
    ++ (codes " block " ++ decimal (count_by is_blocked outcomes)) ++ (codes " drop " ++ decimal (count_by is_dropped outcomes))
    ++ (codes " skip " ++ decimal (count_by is_skipped outcomes)) ++ (codes " malformed " ++ decimal (count_by is_malformed outcomes))
    ++ codes "\n"
