use Rattle.std.proofs.Common.{arith}
use Rattle.npf_cells_moves.proofs.KeepLemmas.{may_load, pass_on}
use Rattle.npf_cells.proofs.cells.Cells.load_epoch.Goals as goal

pub load-requires : goal.load-requires
load-requires g c =
    let own = c.requires.own in
    (own.same, omega (arith, own.words), may_load g.L.Law.meaning g.H.KeyHash.digest c.args.self.now.table.shared.key _ _ _ c.args.pass.now.seat.me own.place)

pub returns-clause-own : goal.returns-clause-own
returns-clause-own g c =
    pass_on c.args.self.now.table.shared.key _ _ _ _ _ _ _ c.requires.own c.load.ensures.0 c.load.ensures.2.is c.load.ensures.2.met.most c.requires.own.unanswered c.requires.own.unlocked

pub returns-clause-met : goal.returns-clause-met
returns-clause-met g c = c.load.ensures.2.met

pub returns-clause-dated : goal.returns-clause-dated
returns-clause-dated g c = c.load.ensures.2.dated

pub returns-clause-next : goal.returns-clause-next
returns-clause-next g c = c.load.ensures.2.is

pub returns-clause-sole : goal.returns-clause-sole
returns-clause-sole g c = c.load.ensures.2.sole
