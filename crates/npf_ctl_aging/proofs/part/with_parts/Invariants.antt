use Rattle.std.proofs.Common.{◌≡◌, ◌≤◌, ◌++◌, drop}
use Rattle.npf_ctl_aging.{specs.Aging.{parts_of_phase, ticks_behind}, proofs.PartLemmas.parts_behind}
use Rattle.npf_ctl_aging.proofs.part.with_parts.Given as goal

abbrev pub invariant-loop-packet : goal.invariant-loop-packet
invariant-loop-packet l = record {
  most : l.part.packets ≤ l.packet-index;
  said : l.fn.parts.items ++ parts_of_phase l.fn.commands (ticks_behind l.every l.fn.before l.packets)
      ≡ l.parts.items ++ parts_behind l.part (ticks_behind l.every l.before (drop l.packet-index l.packets));
}
