use Rattle.std.proofs.Common.{◌≡◌}
use Rattle.npf_cells_words.specs.declared.layout.Pool.TheVariants.{Slots, Nodes}
use Rattle.npf_cells.specs.Cells.{IsPassIn}
use Rattle.npf_cells_rule.specs.Views.{with_pools}
use Rattle.npf_pool.specs.Takes.{searching, HasSeenMore}
use Rattle.npf_pool.proofs.takes.take.Given as goal

abbrev pub invariant-loop : goal.invariant-loop
invariant-loop g l = record {
  own : IsPassIn l.cells l.pass;
  searched : l.pool ≡ Nodes → l.pass.seat.me ≡ with_pools l.initial.pass.seat.me (searching l.initial.pass.seat.me.0.pools l.pass.seat.me.0.pools);
  seen : l.pool ≡ Slots → HasSeenMore g.L.Law.meaning l.initial.pass.seat.me l.pass.seat.me;
}
