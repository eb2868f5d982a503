use Rattle.std.proofs.Common.{◌≡◌, ◌++◌, map, take}
use Rattle.npf_why.specs.Known.{idle_settings}
use Rattle.npf_why.proofs.known.add_idle.Given as goal

abbrev pub invariant-loop-name : goal.invariant-loop-name
invariant-loop-name l = record {
  so_far : map (λ name. name.now) l.names.items ≡ map (λ name. name.now) l.initial.names.items ++ take l.name-index idle_settings;
}
