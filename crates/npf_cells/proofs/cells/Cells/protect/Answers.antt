use Rattle.std.proofs.Common.{arith}
use Rattle.npf_cells_moves.proofs.KeepLemmas.{may_protect, pass_on}
use Rattle.npf_cells.proofs.cells.Cells.protect.Goals as goal

pub load-requires : goal.load-requires
load-requires g c =
    let own = c.requires.own in (
      own.same,
      omega (arith, own.words),
      may_protect g.L.Law.meaning g.H.KeyHash.digest c.args.self.now.table.shared.key _ _ _ c.requires.pinned.0 c.args.pass.now.seat.me c.requires.pinned.1 own.place,
    )

pub returns-clause-own : goal.returns-clause-own
returns-clause-own g c = pass_on c.args.self.now.table.shared.key _ _ _ _ _ _ _ c.requires.own c.load.ensures.0 c.load.ensures.2.is c.requires.own.epoch (λ e. absurd cc) (λ e. absurd cc)

pub returns-clause-met : goal.returns-clause-met
returns-clause-met g c = c.load.ensures.2.met

pub returns-clause-next : goal.returns-clause-next
returns-clause-next g c = c.load.ensures.2.is

pub returns-clause-sole : goal.returns-clause-sole
returns-clause-sole g c = c.load.ensures.2.sole
