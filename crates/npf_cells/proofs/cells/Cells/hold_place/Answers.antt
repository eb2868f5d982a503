use Rattle.std.proofs.Common.{◌≡◌, ◌∙◌, ◌<◌, ◌^◌, sym, ap, subst, arith}
use Rattle.npf_cells_words.{specs.{declared.layout.Layout.Layout, Places.place_at}, proofs.WordLemmas.place_reach}
use Rattle.npf_cells_holds.proofs.{HoldKeepLemmas.{may_load_for_hold, own_after}, LookKeepLemmas.fits_word}
use Rattle.npf_cells.proofs.cells.Cells.hold_place.Goals as goal

pub load-found-requires : goal.load-found-requires
load-found-requires g c =
    let own = c.requires.own in
    let place : c.trie_place-word.result ≡ place_at c.args.self.now.table.shared.key c.args.place
    = c.trie_place-word.ensures ∙ ap (λ l. place_at l c.args.place) (sym c.args.self.now.laid) in
    rw (c.requires.aim.0, c.requires.aim.1, c.requires.aim.2, c.requires.aim.3, c.requires.aim.4, place) (
      own.same,
      omega (arith, own.words, place_reach c.args.self.now.table.shared.key c.args.place c.requires.place),
      may_load_for_hold g.L.Law.meaning g.H.KeyHash.digest c.args.self.now.table.shared.key _ _ _ c.args.id c.args.key.now c.args.way c.args.place
          c.args.pass.now.seat.me c.requires.place own.lives own.theirs own.place c.requires.protected c.requires.stands c.requires.may,
    )

pub of_word-requires : goal.of_word-requires
of_word-requires g c =
    let table = c.args.self.now in
    let narrow : (table.table.shared.key.slots < 2 ^ 32) × (table.table.shared.key.nodes < 2 ^ 32) = subst (λ (l : Layout). (l.slots < 2 ^ 32) × (l.nodes < 2 ^ 32)) (sym table.laid) table.narrow in
    fits_word table.table.shared.key _ narrow.0 narrow.1 (rw c.requires.aim.0 at c.load-found.ensures.2.holds.fits)

pub returns-clause-own : goal.returns-clause-own
returns-clause-own g c =
    rw c.load-found.ensures.0 (own_after g.L.Law.meaning g.H.KeyHash.digest c.args.self.now.table.shared.key _ _ _ _ _ _ _ _ c.args.pass.now.seat.me _ c.requires.protected c.requires.own
    (rw c.requires.aim.0 at c.load-found.ensures.2.holds))
