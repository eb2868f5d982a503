use Rattle.std.proofs.Common.{◌≡◌, ℕ, ◌∙◌, sym, ap, arith}
use Rattle.npf_paths.specs.declared.place.Place.{Place}
use Rattle.npf_cells_words.{specs.Places.place_at, proofs.WordLemmas.place_reach}
use Rattle.npf_cells_returns.{specs.MarkKinds.regaining, proofs.{RegainKeepLemmas.may_regain, PassOnLemmas.regaining_on}}
use Rattle.npf_cells.proofs.cells.Cells.clear_mark_as.Goals as goal

pub store-requires : goal.store-requires
store-requires g c =
    let own = c.requires.own in
    let place : c.trie_place-word.result ≡ place_at c.args.self.now.table.shared.key c.args.place
    = c.trie_place-word.ensures ∙ ap (λ l. place_at l c.args.place) (sym c.args.self.now.laid) in
    rw (c.requires.aim.0, c.requires.aim.1, place) (
      own.same,
      omega (arith, own.words, place_reach c.args.self.now.table.shared.key c.args.place c.requires.place),
      may_regain g.L.Law.meaning g.H.KeyHash.digest c.args.self.now.table.shared.key _ _ _ c.args.node c.args.place c.args.pass.now.seat.me own.place c.requires.place c.requires.may,
    )

pub returns-clause-own : goal.returns-clause-own
returns-clause-own g c = regaining_on c.args.self.now.table.shared.key _ _ _ _ _ _ _ _ c.requires.own c.store.ensures.0 c.store.ensures.2.is

pub returns-clause-next : goal.returns-clause-next
returns-clause-next g c = c.store.ensures.2.is ∙ ap (λ (y : Place × ℕ). regaining y.0 y.1 c.args.pass.now.seat.me) (λ i. (c.requires.aim.0 i, c.requires.aim.1 i))
