use Rattle.npf_turn.proofs.TakingOffLemmas.{may_mark}
use Rattle.npf_turn.proofs.taking_off.mark_off.Goals as goal

pub mark_node-requires-clause-may : goal.mark_node-requires-clause-may
mark_node-requires-clause-may g c = may_mark c.args.cells.now.table.shared.key c.args.node c.args.parent c.args.pass.now.seat.me c.requires.bare c.requires.both c.requires.place
