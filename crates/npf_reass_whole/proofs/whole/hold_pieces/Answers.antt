use Rattle.std.proofs.Common.{◌∙◌, sym}
use Rattle.npf_reass_whole.proofs.HoldLemmas.{held_step}
use Rattle.npf_reass_whole.proofs.whole.hold_pieces.Goals as goal

pub loop-arrived-preserved : goal.loop-arrived-preserved
loop-arrived-preserved c =
    sym (held_step c.args.why c.args.pieces.now c.loop-arrived.arrived-index _ c.loop-arrived.packets _ _ c.loop-arrived-test.true c.requires c.loop-arrived.auto.packets)
    ∙ c.loop-arrived.invariant
