use Rattle.std.proofs.{Common.{◌-◌, ◌≤◌, ◌∙◌, ap, length, inl, inr, ⊎_elim, arith}, lemmas.Slice.between-put_mid}
use Rattle.npf_pieces.{specs.Piece.end_of, proofs.DataLemmas.range_kept}
use Rattle.npf_pieces.proofs.datagram.put_piece.Goals as goal

pub returns-clause-has : goal.returns-clause-has
returns-clause-has c =
    let piece = c.args.arrived.now.piece in
    let carried = c.args.carried.now in
    let new = c.copy_from_slice.new.self in
    let long = ap length c.copy_from_slice.ensures.after in
    let own = c.packet_bytes-own.ensures.long in
    let whole = between-put_mid piece.from (c.end_of-end.result - piece.from) carried new (end_of piece) (omega (arith, c.requires.within)) (omega (arith, long, own)) in
    record { is = λ d. whole ∙ c.copy_from_slice.ensures.after ∙ c.packet_bytes-own.ensures.has.is d }

pub returns-clause-others : goal.returns-clause-others
returns-clause-others c = λ a b order.
    let piece = c.args.arrived.now.piece in
    let long = ap length c.copy_from_slice.ensures.after in
    let own = c.packet_bytes-own.ensures.long in
    let end = c.end_of-end.ensures in
    range_kept c.args.carried.now c.copy_from_slice.new.self piece.from (c.end_of-end.result - piece.from) a b
    (omega (arith, end, c.requires.within)) (omega (arith, long, own, end))
    (⊎_elim (λ (before : b ≤ piece.from). inl before) (λ (behind : end_of piece ≤ a). inr (omega (arith, behind, end))) order)
