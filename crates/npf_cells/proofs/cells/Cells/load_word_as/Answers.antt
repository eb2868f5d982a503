use Rattle.std.proofs.Common.{◌≡◌, ℕ, ◌∙◌, sym, ap, subst, arith}
use Rattle.npf_cells_words.{specs.{declared.layout.{Layout.Layout, Pool.Pool}, Layout.field_at}, proofs.WordLemmas.field_reach}
use Rattle.npf_cells_rule.specs.Stood.{StoodSo}
use Rattle.npf_cells_turns.{specs.WordKinds.{ShowsByTurn, ShowsNote, ShowsPhase, ShowsStored}, proofs.WordKeepLemmas.{may_load_word, field_within}}
use Rattle.npf_cells.proofs.cells.Cells.load_word_as.Goals as goal

pub field_place-word-requires : goal.field_place-word-requires
field_place-word-requires g c = field_within c.args.pool c.args.field c.requires.field

pub load-requires : goal.load-requires
load-requires g c =
    let own = c.requires.own in
    let place : c.field_place-word.result ≡ field_at c.args.self.now.table.shared.key c.args.pool c.args.place c.args.field
    = c.field_place-word.ensures ∙ ap (λ l. field_at l c.args.pool c.args.place c.args.field) (sym c.args.self.now.laid) in
    let reach = field_reach c.args.self.now.table.shared.key c.args.pool c.args.place c.args.field c.requires.place (field_within c.args.pool c.args.field c.requires.field) in
    rw (c.requires.aim.0, c.requires.aim.1, c.requires.aim.2, c.requires.aim.3, place) (
      own.same,
      omega (arith, own.words, reach),
      may_load_word g.L.Law.meaning g.H.KeyHash.digest c.args.self.now.table.shared.key _ _ _ c.args.pool c.args.place c.args.field c.args.pass.now.seat.me own.lives,
    )

pub returns-clause-stored : goal.returns-clause-stored
returns-clause-stored g c =
    let aim = c.requires.aim in
    subst (λ (y : Layout × Pool × ℕ × ℕ). ShowsStored y.0 c.args.pass.now.seat.me.0.pools.stored y.1 y.2 y.3 c.load.result) (λ i. (aim.0 i, aim.1 i, aim.2 i, aim.3 i)) c.load.ensures.2.stored

pub returns-clause-noted : goal.returns-clause-noted
returns-clause-noted g c =
    let aim = c.requires.aim in
    subst (λ (y : Pool × ℕ × ℕ). ShowsNote c.args.pass.now.seat.me.0.pools.notes y.0 y.1 y.2 c.load.result) (λ i. (aim.1 i, aim.2 i, aim.3 i)) c.load.ensures.2.noted

pub returns-clause-phase : goal.returns-clause-phase
returns-clause-phase g c =
    let aim = c.requires.aim in
    subst (λ (y : Pool × ℕ × ℕ). ShowsPhase c.args.pass.now.seat.me.0.turn y.0 y.1 y.2 c.load.result) (λ i. (aim.1 i, aim.2 i, aim.3 i)) c.load.ensures.2.phase

pub returns-clause-by_turn : goal.returns-clause-by_turn
returns-clause-by_turn g c =
    let aim = c.requires.aim in
    subst (λ (y : Layout × Pool × ℕ × ℕ). ShowsByTurn g.L.Law.meaning g.H.KeyHash.digest y.0 c.args.pass.now.seat.me.0 y.1 y.2 y.3 c.load.result)
    (λ i. (aim.0 i, aim.1 i, aim.2 i, aim.3 i)) c.load.ensures.2.by_turn

pub returns-clause-stood : goal.returns-clause-stood
returns-clause-stood g c =
    let aim = c.requires.aim in
    subst (λ (y : Layout × Pool × ℕ × ℕ). StoodSo g.L.Law.meaning g.H.KeyHash.digest y.0 c.args.pass.now.seat.me.0 (field_at y.0 y.1 y.2 y.3) c.load.result)
    (λ i. (aim.0 i, aim.1 i, aim.2 i, aim.3 i)) c.load.ensures.2.stood
