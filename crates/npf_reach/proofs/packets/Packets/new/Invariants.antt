use Rattle.std.proofs.Common.{◌≡◌, take}
use Rattle.std.specs.Prelude.{All}
use Rattle.std.specs.List.{list_any}
use Rattle.npf_types.specs.declared.{direction.Dir.Dir, facts.Facts.Facts, interface.IfId.IfId}
use Rattle.npf_reach.specs.Kinds.{IsKindOf, IsPacket, cells_kind, is_of_kind}
use Rattle.npf_reach.specs.Packets.{parts_have}
use Rattle.npf_reach.proofs.packets.Packets.new.Given as goal

abbrev pub invariant-loop-kind : goal.invariant-loop-kind
invariant-loop-kind l = record {
  of : All (λ part. IsKindOf l.tables l.products part.cells.now) l.parts.items;
  whole : (facts : Facts) (ifid : IfId) (dir : Dir) → IsPacket facts ifid
      → parts_have l.parts.items facts ifid dir ≡ list_any (λ it. is_of_kind (cells_kind it) facts) (take l.kind-index l.cells);
}
