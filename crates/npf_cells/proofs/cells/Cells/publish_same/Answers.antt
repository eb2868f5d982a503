use Rattle.std.proofs.Common.{◌≡◌, ◌∙◌, sym, refl, ap, arith}
use Rattle.npf_cells_words.{specs.Places.place_at, proofs.WordLemmas.place_reach}
use Rattle.npf_cells_holds.proofs.AgainKeepLemmas.{may_store_again}
use Rattle.npf_cells.proofs.OwnLemmas.{known_on}
use Rattle.npf_cells.proofs.cells.Cells.publish_same.Goals as goal

pub store-requires : goal.store-requires
store-requires g c =
    let own = c.requires.own in
    let place : c.trie_place-word.result ≡ place_at c.args.self.now.table.shared.key c.args.place
    = c.trie_place-word.ensures ∙ ap (λ l. place_at l c.args.place) (sym c.args.self.now.laid) in
    rw (place, c.word.ensures) (
      own.same,
      omega (arith, own.words, place_reach c.args.self.now.table.shared.key c.args.place c.requires.place),
      may_store_again g.L.Law.meaning g.H.KeyHash.digest c.args.self.now.table.shared.key _ _ _ c.args.place c.args.cell
          c.args.pass.now.seat.me own.place c.requires.place c.requires.sees c.requires.end c.requires.real c.requires.unmarked,
    )

pub returns-clause-own : goal.returns-clause-own
returns-clause-own g c = known_on c.args.self.now.table.shared.key _ _ _ _ c.args.pass.now.seat.me _ c.requires.own c.store.ensures.0 _ c.store.ensures.2.is refl refl refl
