use Rattle.std.proofs.Common.{◌≡◌, ◌≤◌, ◌+◌, drop, is_some, count_by}
use Rattle.npf_ctl_aging.specs.Aging.{count_ticks, ticks_behind}
use Rattle.npf_ctl_aging.proofs.tick.count_ticks.Given as goal

abbrev pub invariant-loop-packet : goal.invariant-loop-packet
invariant-loop-packet l = record {
  most : l.count ≤ l.packet-index;
  said : count_ticks l.every l.packets ≡ l.count + count_by is_some (ticks_behind l.every l.before (drop l.packet-index l.packets));
}
