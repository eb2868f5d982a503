use Rattle.std.proofs.Common.{arith}
use Rattle.npf_cells_turns.proofs.SightKeepLemmas.{may_see, seen_on}
use Rattle.npf_cells.proofs.cells.Cells.see.Goals as goal

pub load-requires : goal.load-requires
load-requires g c =
    let own = c.requires.own in
    (own.same, omega (arith, own.words), may_see g.L.Law.meaning g.H.KeyHash.digest c.args.self.now.table.shared.key _ _ _ _ c.args.pass.now.seat.me own.lives own.theirs own.place)

pub returns-clause-own : goal.returns-clause-own
returns-clause-own g c = seen_on g.L.Law.meaning c.args.self.now.table.shared.key _ _ _ _ _ _ c.requires.own c.load.ensures.0 c.load.ensures.2.seen

pub returns-clause-sees : goal.returns-clause-sees
returns-clause-sees g c = c.load.ensures.2.seen
