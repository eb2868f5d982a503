-- Which seats belong to a table, of one word and one slot.
use Rattle.std.specs.Prelude.{◌≡◌}
use Rattle.atomic_table.specs.Seated.{TableId}

pub record IsSeatOf (table seat : TableId) : Type 0 where
  pub same : seat ≡ table
  pub words : table.words ≡ 1
  pub slots : table.slots ≡ 1
