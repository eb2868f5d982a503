use Rattle.std.proofs.{Common.{◌≡◌, ◌∙◌, take}, lemmas.List.take_all}
use Rattle.npf_pieces.proofs.DataLemmas.{ends_within_reach, put_more}
use Rattle.npf_pieces.proofs.datagram.put_data.Goals as goal

pub put_piece-requires-clause-within : goal.put_piece-requires-clause-within
put_piece-requires-clause-within c =
    rw (c.loop-arrived.auto.carried ∙ c.requires.long) (ends_within_reach _ _ _ c.loop-arrived-test.true)

pub loop-arrived-preserved : goal.loop-arrived-preserved
loop-arrived-preserved c =
    put_more _ _ _ _ c.loop-arrived.arrived-index _ c.loop-arrived-test.true c.requires.apart c.loop-arrived.invariant c.put_piece.ensures.has c.put_piece.ensures.others

pub returns : goal.returns
returns c =
    let all : take c.loop-arrived.arrived-index c.args.set.now ≡ c.args.set.now = take_all c.loop-arrived.arrived-index c.args.set.now c.loop-arrived-test.false in
    rw all at c.loop-arrived.invariant
