use Rattle.std.proofs.Common.{◌≡◌, ◌≤◌, false, take}
use Rattle.npf_types.specs.declared.{direction.Dir.Dir, facts.Facts.Facts, interface.IfId.IfId}
use Rattle.npf_reach.specs.Kinds.{IsPacket}
use Rattle.npf_reach.specs.Packets.{parts_have}
use Rattle.npf_reach.proofs.packets.Packets.packet.Given as goal

abbrev pub invariant-loop-part : goal.invariant-loop-part
invariant-loop-part l = record {
  none : (facts : Facts) (ifid : IfId) (dir : Dir) → IsPacket facts ifid → parts_have (take l.part-index l.self.parts.items) facts ifid dir ≡ false;
  most : l.steps.most ≡ l.initial.steps.most;
  rises : l.initial.steps.taken ≤ l.steps.taken;
}
