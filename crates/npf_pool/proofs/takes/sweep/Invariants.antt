use Rattle.std.proofs.Common.{◌≡◌}
use Rattle.npf_cells_words.specs.{declared.layout.Pool.TheVariants.{Slots, Nodes}, Layout.{pool_places, pool_words}}
use Rattle.npf_cells.specs.Cells.{IsPassIn}
use Rattle.npf_pool.proofs.TakeLemmas.{ClaimedBelow, FullBelow}
use Rattle.npf_pool.proofs.takes.sweep.Given as goal

abbrev pub invariant-loop-word : goal.invariant-loop-word
invariant-loop-word g l = record {
  own : IsPassIn l.cells l.pass;
  count : l.words ≡ pool_words (pool_places l.cells.table.shared.key l.pool);
  below : l.pool ≡ Nodes → FullBelow g.L.Law.meaning g.H.KeyHash.digest l.cells.table.shared.key l.initial.pass.seat.me l.word l.pass.seat.me;
  claimed : l.pool ≡ Slots → ClaimedBelow g.L.Law.meaning l.cells.table.shared.key l.initial.pass.seat.me l.word l.pass.seat.me;
}
