use Rattle.std.proofs.Common.{◌≡◌, ◌∙◌, sym, ap, arith}
use Rattle.npf_cells_words.{specs.Places.place_at, proofs.WordLemmas.place_reach}
use Rattle.npf_cells_holds.proofs.PublishKeepLemmas.{may_publish_for}
use Rattle.npf_cells.proofs.PublishedLemmas.{published_on}
use Rattle.npf_cells.proofs.cells.Cells.publish_key.Goals as goal

pub store-requires : goal.store-requires
store-requires g c =
    let own = c.requires.own in
    let place : c.trie_place-word.result ≡ place_at c.args.self.now.table.shared.key c.args.place
    = c.trie_place-word.ensures ∙ ap (λ l. place_at l c.args.place) (sym c.args.self.now.laid) in
    rw (c.requires.aim.0, c.requires.aim.1, c.requires.aim.2, c.requires.aim.3, c.requires.aim.4, c.requires.aim.5, place, c.word.ensures) (
      own.same,
      omega (arith, own.words, place_reach c.args.self.now.table.shared.key c.args.place c.requires.place),
      may_publish_for g.L.Law.meaning g.H.KeyHash.digest c.args.self.now.table.shared.key _ _ _ c.args.id c.args.key.now c.args.way c.args.place
          c.args.cell c.args.pass.now.seat.me c.requires.place own.lives own.theirs own.place c.requires.protected c.requires.may,
    )

pub returns-clause-own : goal.returns-clause-own
returns-clause-own g c = published_on c.args.self.now.table.shared.key _ _ _ _ _ g.W.StepTold.told.id _ _ _ _ c.requires.own c.store.ensures.0 c.store.ensures.2.held.is
