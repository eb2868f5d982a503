-- Connections that a pass may start or give up.
use Rattle.std.specs.Prelude.{◌<◌, Contains}
use Rattle.npf_core.specs.declared.conn_id.ConnId.{ConnId}
use Rattle.npf_core.specs.Meaning.{Meaning}
use Rattle.npf_cells_words.specs.declared.layout.Layout.{Layout}
use Rattle.npf_cells_rule.specs.declared.view.CellView.{CellView}
use Rattle.npf_cells_turns.specs.EndKinds.{HasBareNotes}

-- the pass is building the connection, has stored its incarnation, and 0 as the note of each way of which it holds no key
pub record IsBuilt {S A R : Type 0} (m : Meaning S A R) (layout : Layout) (v : CellView S A R) (id : ConnId) : Type 0 where
  pub exists : id.slot < layout.slots
  pub built : Contains v.pools.builds id
  pub stored : ¬ Contains v.pools.unstored id.slot
  pub notes : HasBareNotes m v id
