use Rattle.std.proofs.Common.{◌≡◌, ◌∙◌, sym, ap, arith}
use Rattle.npf_cells_words.{specs.Places.lock_at, proofs.WordLemmas.lock_reach}
use Rattle.npf_cells_holds.proofs.LockKeepLemmas.{may_lock}
use Rattle.npf_cells.proofs.OwnLemmas.{tried_on}
use Rattle.npf_cells.proofs.cells.Cells.try_lock_as.Goals as goal

pub compare_exchange-found-requires : goal.compare_exchange-found-requires
compare_exchange-found-requires g c =
    let own = c.requires.own in
    let place : c.lock_place-word.result ≡ lock_at c.args.self.now.table.shared.key c.args.lock
    = c.lock_place-word.ensures ∙ ap (λ l. lock_at l c.args.lock) (sym c.args.self.now.laid) in
    let reach = lock_reach c.args.self.now.table.shared.key c.args.lock c.requires.lock in
    rw (c.requires.aim.0, c.requires.aim.1, place) (
      own.same,
      omega (arith, own.words, reach),
      may_lock g.L.Law.meaning g.H.KeyHash.digest c.args.self.now.table.shared.key _ _ _ c.args.lock c.args.pass.now.seat.me own.lives own.place c.requires.protected c.requires.lock,
    )

pub returns-clause-own : goal.returns-clause-own
returns-clause-own g c = tried_on c.args.self.now.table.shared.key _ _ _ _ c.args.pass.now.seat.me _ c.requires.own c.compare_exchange-found.ensures.0
    g.W.StepTold.told.lock _ c.compare_exchange-found.ensures.2.won c.compare_exchange-found.ensures.2.lost c.requires.protected
