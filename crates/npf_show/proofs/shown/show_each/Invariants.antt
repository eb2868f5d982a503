use Rattle.std.{proofs.Common.{◌≡◌, ◌++◌, take}, specs.List.flat_map}
use Rattle.npf_show.specs.Piece.{spelled}
use Rattle.npf_show.proofs.shown.show_each.Given as goal

abbrev pub invariant-loop-part : goal.invariant-loop-part
invariant-loop-part g l = l.page ≡ l.fn.page ++ spelled (flat_map (g.T.Shown.pieces l.model) (take l.part-index l.parts))
