use Rattle.std.proofs.Common.{◌≡◌, ◌+◌, ◌++◌, length, drop}
use Rattle.npf_traffic.specs.Phases.{packets_in}
use Rattle.npf_ctl_aging.specs.Aging.{aged, parts_of_phases, ticks}
use Rattle.npf_ctl_aging.proofs.phases.aged.Given as goal

abbrev pub invariant-loop-phase : goal.invariant-loop-phase
invariant-loop-phase l = record {
  all : l.from + packets_in l.phase-iterator.rest.items ≡ length l.packets;
  said : aged l.every l.packets l.fn.phases.items ≡ l.parts.items ++ parts_of_phases (drop l.from (ticks l.every l.packets)) l.phase-iterator.rest.items;
}
