-- Where the counts of a table come to an end: at the last incarnation of a slot, and at the last epoch.
use Rattle.std.specs.Prelude.{◌≡◌, ℕ, ◌-◌, ◌^◌, List}
use Rattle.npf_core.specs.declared.conn_id.ConnId.{ConnId}
use Rattle.npf_core.specs.declared.entry.Entry.{Entry}
use Rattle.npf_core.specs.ClaimedLaw.{HasClaim}

-- the history claims the last incarnation of a slot, which isn't freed
pub record ClaimsLast {S A R : Type 0} (history : List (Entry S A R)) : Type 0 where
  pub id : ConnId
  pub claimed : HasClaim history id
  pub last : id.inc ≡ 2 ^ 64 - 1

-- the last epoch: a table's epoch stands still there
abbrev pub last_epoch : ℕ
last_epoch = 2 ^ 62
