use Rattle.std.proofs.Common.{◌≡◌, ◌∙◌, ◌/◌, ◌<◌, sym, ap, subst, arith}
use Rattle.npf_paths.specs.declared.place.Place.{Place}
use Rattle.npf_cells_words.{specs.{declared.layout.Layout.Layout, Places.place_at}, proofs.WordLemmas.place_reach}
use Rattle.npf_cells_rule.specs.{Stood.StoodSo, Views.with_trie}
use Rattle.npf_cells_returns.{specs.LoadKinds.loading_cell, proofs.{LearnKeepLemmas.may_load_cell, PassOnLemmas.learned_on}}
use Rattle.npf_cells.proofs.cells.Cells.load_cell_as.Goals as goal

pub load-requires : goal.load-requires
load-requires g c =
    let own = c.requires.own in
    let place : c.trie_place-word.result ≡ place_at c.args.self.now.table.shared.key c.args.place
    = c.trie_place-word.ensures ∙ ap (λ l. place_at l c.args.place) (sym c.args.self.now.laid) in
    rw (c.requires.aim.0, c.requires.aim.1, place) (
      own.same,
      omega (arith, own.words, place_reach c.args.self.now.table.shared.key c.args.place c.requires.place),
      may_load_cell g.L.Law.meaning g.H.KeyHash.digest c.args.self.now.table.shared.key _ _ _ c.args.place c.args.pass.now.seat.me own.place own.lives c.requires.place c.requires.locked,
    )

pub returns-clause-own : goal.returns-clause-own
returns-clause-own g c = learned_on c.args.self.now.table.shared.key _ _ _ _ _ _ _ _ c.requires.own c.load.ensures.0 c.load.ensures.2.is

pub returns-clause-next : goal.returns-clause-next
returns-clause-next g c = c.load.ensures.2.is ∙ ap (λ (p : Place). with_trie c.args.pass.now.seat.me (loading_cell p c.load.result c.args.pass.now.seat.me.0.trie)) c.requires.aim.1

pub returns-clause-exists : goal.returns-clause-exists
returns-clause-exists g c = λ three. subst (λ (l : Layout). c.load.result / 4 < l.nodes) c.requires.aim.0 (c.load.ensures.2.exists three)

pub returns-clause-stood : goal.returns-clause-stood
returns-clause-stood g c =
    let aim = c.requires.aim in
    subst (λ (y : Layout × Place). StoodSo g.L.Law.meaning g.H.KeyHash.digest y.0 c.args.pass.now.seat.me.0 (place_at y.0 y.1) c.load.result) (λ i. (aim.0 i, aim.1 i)) c.load.ensures.2.stood
