use Rattle.npf_turn.proofs.RegainLemmas.{may_clear}
use Rattle.npf_turn.proofs.regains.clear_locked.Goals as goal

pub clear_mark-requires-clause-may : goal.clear_mark-requires-clause-may
clear_mark-requires-clause-may g c =
    may_clear c.args.place c.load_cell-word.result c.load_state.result c.args.epoch c.args.pass.now.seat.me _ _ c.requires.only c.requires.reached c.load_cell-word.ensures.next c.if-word-ne-MARK.false
    c.load_state.ensures.next (c.is_long_left.ensures.0 c.if-not-is_long_left.false)
