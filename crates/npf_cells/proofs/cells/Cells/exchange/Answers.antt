use Rattle.std.proofs.Common.{◌∷◌, sym, ap, ◌∙◌}
use Rattle.atomic_table.specs.Table.{rest}
use Rattle.npf_cells_turns.proofs.PassOnLemmas.{carried_there, exchanged_on, given_out}
use Rattle.npf_cells.proofs.cells.Cells.exchange.Goals as goal

pub exchange-requires : goal.exchange-requires
exchange-requires g c =
    let carried = carried_there c.args.self.now.table.shared.key _ _ _ c.args.pass.now.seat.me c.args.slot c.requires.own c.requires.turn in
    (c.requires.own.same, (carried.0, carried.1 ∙ ap (λ xs. (c.args.slot, carried.0) ∷ xs) (sym (ap rest carried.1))))

pub returns-clause-gives : goal.returns-clause-gives
returns-clause-gives g c = (given_out c.args.self.now.table.shared.key _ _ _ c.args.pass.now.seat.me c.args.slot c.requires.own c.requires.turn _ c.exchange.ensures.2).0

pub returns-clause-next : goal.returns-clause-next
returns-clause-next g c =
    c.exchange.ensures.3 ∙ ap (λ xs. (c.args.pass.now.seat.me.0, (c.args.slot, c.args.flow) ∷ xs))
    (given_out c.args.self.now.table.shared.key _ _ _ c.args.pass.now.seat.me c.args.slot c.requires.own c.requires.turn _ c.exchange.ensures.2).1

pub returns-clause-own : goal.returns-clause-own
returns-clause-own g c =
    exchanged_on c.args.self.now.table.shared.key _ _ _ c.args.pass.now.seat.me _ _ c.args.slot c.args.flow c.requires.own c.exchange.ensures.0 c.requires.turn (returns-clause-next g c)
