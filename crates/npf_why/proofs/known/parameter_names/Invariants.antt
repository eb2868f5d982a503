use Rattle.std.proofs.Common.{◌≡◌, map, take}
use Rattle.npf_model.specs.Settings.{parameter_name, parameters}
use Rattle.npf_why.proofs.known.parameter_names.Given as goal

abbrev pub invariant-loop-parameter : goal.invariant-loop-parameter
invariant-loop-parameter l = record {
  so_far : map (λ name. name.now) l.names.items ≡ map parameter_name (take l.parameter-index parameters);
}
