use Rattle.std.proofs.Common.{◌≡◌, ◌∙◌, sym, ap, arith}
use Rattle.npf_cells_words.{specs.Layout.field_at, proofs.WordLemmas.field_reach}
use Rattle.npf_cells_takes.proofs.PrivateKeepLemmas.{may_store}
use Rattle.npf_cells.proofs.OwnLemmas.{stored_on}
use Rattle.npf_cells.proofs.cells.Cells.store_private_as.Goals as goal

pub store-requires : goal.store-requires
store-requires g c =
    let own = c.requires.own in
    let place : c.field_place-word.result ≡ field_at c.args.self.now.table.shared.key c.args.pool c.args.place c.args.field
    = c.field_place-word.ensures ∙ ap (λ l. field_at l c.args.pool c.args.place c.args.field) (sym c.args.self.now.laid) in
    let reach = field_reach c.args.self.now.table.shared.key c.args.pool c.args.place c.args.field c.requires.place c.requires.field in
    rw (c.requires.aim.0, c.requires.aim.1, c.requires.aim.2, c.requires.aim.3, place) (
      own.same,
      omega (arith, own.words, reach),
      may_store g.L.Law.meaning g.H.KeyHash.digest c.args.self.now.table.shared.key _ _ _ c.args.pool c.args.place
          c.args.field c.args.value c.args.pass.now.seat.me own.lives own.place c.requires.place c.requires.field c.requires.may,
    )

pub returns-clause-own : goal.returns-clause-own
returns-clause-own g c =
    stored_on c.args.self.now.table.shared.key _ _ _ _ c.args.pass.now.seat.me _ c.requires.own c.store.ensures.0
    g.W.StepTold.told.pool g.W.StepTold.told.number g.W.StepTold.told.field _ c.store.ensures.2.is
