use Rattle.std.proofs.Common.{◌≡◌, true, take}
use Rattle.npf_types.specs.declared.{direction.Dir.Dir, facts.Facts.Facts, interface.IfId.IfId}
use Rattle.npf_reach.specs.Kinds.{IsPacket, held_at}
use Rattle.npf_reach.specs.Packets.{parts_have}
use Rattle.npf_reach.proofs.packets.Packets.is_alike.Given as goal

abbrev pub invariant-loop-part : goal.invariant-loop-part
invariant-loop-part l =
    (facts : Facts) (ifid : IfId) (dir : Dir) → IsPacket facts ifid → parts_have (take l.part-index l.self.parts.items) facts ifid dir ≡ true
    → held_at l.self.tables.now l.self.products.now facts ifid dir l.one ≡ held_at l.self.tables.now l.self.products.now facts ifid dir l.other
