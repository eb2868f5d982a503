use Rattle.std.proofs.Common.{◌≡◌, ◌∙◌, sym, ap, arith}
use Rattle.npf_cells_words.{specs.Places.lock_at, proofs.WordLemmas.lock_reach}
use Rattle.npf_cells_holds.proofs.LockKeepLemmas.{may_store_state}
use Rattle.npf_cells.proofs.OwnLemmas.{state_on}
use Rattle.npf_cells.proofs.cells.Cells.store_node_as.Goals as goal

pub store-requires : goal.store-requires
store-requires g c =
    let own = c.requires.own in
    let place : c.lock_place-word.result ≡ lock_at c.args.self.now.table.shared.key c.args.lock
    = c.lock_place-word.ensures ∙ ap (λ l. lock_at l c.args.lock) (sym c.args.self.now.laid) in
    let reach = lock_reach c.args.self.now.table.shared.key c.args.lock c.requires.lock in
    rw (c.requires.aim.0, c.requires.aim.1, c.requires.aim.2, place) (
      own.same,
      omega (arith, own.words, reach),
      may_store_state g.L.Law.meaning g.H.KeyHash.digest c.args.self.now.table.shared.key _ _ _
          c.args.lock c.args.state c.args.pass.now.seat.me own.place c.requires.lock c.requires.locked c.requires.state,
    )

pub returns-clause-own : goal.returns-clause-own
returns-clause-own g c =
    state_on c.args.self.now.table.shared.key _ _ _ _ c.args.pass.now.seat.me _ c.requires.own c.store.ensures.0
    g.W.StepTold.told.layout g.W.StepTold.told.lock g.W.StepTold.told.state c.store.ensures.2.is
