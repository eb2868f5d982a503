use Rattle.std.{proofs.Common.{◌≡◌, ◌++◌, take, codes}, specs.List.flat_map}
use Rattle.npf_show.specs.Piece.{Sign, glued, spelled}
use Rattle.npf_show.proofs.shown.show_with_commas.Given as goal

-- what stands behind the first element so far
abbrev pub invariant-loop-element : goal.invariant-loop-element
invariant-loop-element g l =
    l.page
    ≡ l.initial.page
    ++ spelled (flat_map (λ element. glued (Sign (codes ",")) ++ g.T.Shown.pieces l.model element) (take l.element-index l.others))
