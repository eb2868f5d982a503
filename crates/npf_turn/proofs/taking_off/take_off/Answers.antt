use Rattle.npf_turn.proofs.TakingOffLemmas.{still_bare}
use Rattle.npf_turn.proofs.taking_off.take_off.Goals as goal

pub mark_off-requires-clause-bare : goal.mark_off-requires-clause-bare
mark_off-requires-clause-bare g c = still_bare c.args.cells.now.table.shared.key c.in-Node.node c.in-Some.parent c.parent_of_bare.new.pass.seat.me
    c.lock.result c.lock-in-Some.new.pass.seat.me c.lock-in-Some.ensures.gets c.in-Some.ensures.bare
