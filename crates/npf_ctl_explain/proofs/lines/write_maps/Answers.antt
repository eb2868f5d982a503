use Rattle.std.proofs.Common.{◌≡◌, ◌∙◌, ◌++◌, ℕ, List, slice_get, ap, ap₂}
use Rattle.npf_model.specs.declared.map.Map.{Map}
use Rattle.npf_ctl_explain.{specs.{Beside.beside, Line.told_map_line}, proofs.BesideLemmas.{each_more, got}}
use Rattle.npf_ctl_explain.proofs.lines.write_maps.Goals as goal

pub loop-at-preserved : goal.loop-at-preserved
loop-at-preserved c =
    let line = told_map_line c.args.model.now in
    let at = c.loop-at.at in
    let into = c.loop-at.into.items in
    let here = ap₂ (λ x y. into ++ beside (line at) x y)
    (got c.as_slice-maps.result.now at c.get.result c.get.ensures.lookup.1 c.get.ensures.lookup.3 ∙ ap (λ (maps : List Map). slice_get maps at) c.as_slice-maps.ensures)
    (got c.args.told.now at c.get-in-loop-at.result c.get-in-loop-at.ensures.lookup.1 c.get-in-loop-at.ensures.lookup.3) in
    each_more (λ k. beside (line k) (slice_get c.args.model.now.maps k) (slice_get c.args.told.now k)) c.args.into.now.items into _ at c.loop-at.invariant
    (c.in_ok-write_told_map.ensures ∙ here)
