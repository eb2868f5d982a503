use Rattle.std.{proofs.Common.{◌≡◌, ◌++◌, map, take}, specs.List.flat_map}
use Rattle.npf_ctl_why.specs.Listed.{behind_comma, named_text}
use Rattle.npf_ctl_why.proofs.listed.write_other_names.Given as goal

abbrev pub invariant-loop-name : goal.invariant-loop-name
invariant-loop-name l = record {
  so_far : l.into.items ≡ l.initial.into.items ++ flat_map behind_comma (map (named_text l.fn.marks) (map (λ name. name.now) (take l.name-index l.fn.others)));
}
