use Rattle.std.{proofs.Common.{◌≡◌, ◌++◌, slice_get}, specs.List.{flat_map, range_with_len}}
use Rattle.npf_ctl_explain.specs.{Beside.beside, Line.told_map_line}
use Rattle.npf_ctl_explain.proofs.lines.write_maps.Given as goal

abbrev pub invariant-loop-at : goal.invariant-loop-at
invariant-loop-at l = l.into.items ≡ l.initial.into.items
    ++ flat_map (λ k. beside (told_map_line l.model k) (slice_get l.model.maps k) (slice_get l.told k)) (range_with_len 0 l.at)
