use Rattle.std.proofs.Common.{◌≡◌, ◌≤◌, ◌&&◌, take}
use Rattle.std.specs.Prelude.{All}
use Rattle.npf_types.specs.declared.{direction.Dir.Dir, facts.Facts.Facts, interface.IfId.IfId}
use Rattle.npf_search.specs.Region.{decides}
use Rattle.npf_reach.specs.Kinds.{IsKindOf, IsPacket, held_at}
use Rattle.npf_reach.specs.Packets.{parts_have}
use Rattle.npf_reach.proofs.packets.Packets.narrow.Given as goal

abbrev pub invariant-loop-part : goal.invariant-loop-part
invariant-loop-part l = record {
  of : All (λ part. IsKindOf l.self.tables.now l.self.products.now part.cells.now) l.parts.items;
  narrowed : (facts : Facts) (ifid : IfId) (dir : Dir) → IsPacket facts ifid
      → parts_have l.parts.items facts ifid dir
      ≡ (parts_have (take l.part-index l.self.parts.items) facts ifid dir && decides (held_at l.self.tables.now l.self.products.now facts ifid dir) l.decider);
  most : l.steps.most ≡ l.initial.steps.most;
  rises : l.initial.steps.taken ≤ l.steps.taken;
}
