use Rattle.std.{proofs.Common.{◌≡◌, ◌++◌, length, slice_get, take}, specs.List.{flat_map, range_with_len}}
use Rattle.npf_model.specs.Verdict.{all_rules}
use Rattle.npf_ctl_explain.specs.{Beside.beside, Text.nth_group_text}
use Rattle.npf_ctl_explain.proofs.text.write_groups.Given as goal

abbrev pub invariant-loop-at : goal.invariant-loop-at
invariant-loop-at l = record {
  so_far : l.into.items ≡ l.initial.into.items
      ++ flat_map (λ k. beside (nth_group_text l.model k) (slice_get l.model.groups k) (slice_get l.told k)) (range_with_len 0 l.at);
  count : l.first ≡ length (all_rules (take l.at l.model.groups));
}
