use Rattle.npf_turn.proofs.MarkLemmas.{may_free, freed_only}
use Rattle.npf_turn.proofs.locks.unlock.Goals as goal

pub store_node-requires-clause-state : goal.store_node-requires-clause-state
store_node-requires-clause-state g c = may_free c.args.pass.now.seat.me.0 c.args.lock c.requires.unmarked

pub returns-clause-frees : goal.returns-clause-frees
returns-clause-frees g c = freed_only c.args.cells.now.table.shared.key c.args.lock c.args.pass.now.seat.me _ c.requires.only c.requires.unmarked c.store_node.ensures.next
