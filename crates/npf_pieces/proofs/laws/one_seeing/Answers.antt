use Rattle.std.proofs.Common.{ap, sym, ◌∙◌}
use Rattle.npf_pieces.specs.Piece.{seen_at}
use Rattle.npf_pieces.proofs.laws.one_seeing.Goals as goal

pub returns : goal.returns
returns c = λ packet one other p q.
    let same = c.one_fragment.ensures packet.link packet.bytes p.found q.found p.finds q.finds in
    p.is ∙ ap (seen_at packet) same ∙ sym q.is
