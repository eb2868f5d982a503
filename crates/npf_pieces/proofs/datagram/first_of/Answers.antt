use Rattle.std.proofs.Common.{ap, ◌∙◌, arith}
use Rattle.npf_pieces.{specs.declared.arrived.Arrived.Arrived, proofs.WholeSetLemmas.begins_whole}
use Rattle.npf_pieces.proofs.datagram.first_of.Goals as goal

pub unreachable-requires : goal.unreachable-requires
unreachable-requires c =
    let first = begins_whole c.args.set.now c.requires.whole in
    c.loop-arrived.invariant first.1.0.0 first.0 (omega (arith, first.1.0.1)) (ap (λ (a : Arrived). a.piece.from) first.1.0.2 ∙ first.1.1)
