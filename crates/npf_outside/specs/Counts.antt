use Rattle.std.specs.Prelude.{◌≡◌, ℕ, ◌+◌, ◌-◌, ◌^◌, ◌≤◌, ◌<◌, min}

-- the greatest value of a count that a `u64` keeps: there it stands still
abbrev pub last_count : ℕ
last_count = 2 ^ 64 - 1

-- a count after `more` events, which stands still at its greatest value
abbrev pub count_after : ℕ → ℕ → ℕ
count_after before more = min (before + more) last_count

-- the count rose, or stands at its greatest value
abbrev pub Rose : ℕ → ℕ → Type 0
Rose before now = count_after before 1 ≤ now

-- the count rose by more than `most`, or stands at its greatest value
abbrev pub RoseByMore : ℕ → ℕ → ℕ → Type 0
RoseByMore most before now = count_after before (most + 1) ≤ now

-- the count did not rise, and does not stand at its greatest value
abbrev pub StoodStill : ℕ → ℕ → Type 0
StoodStill before now = (now ≡ before) × (before < last_count)
