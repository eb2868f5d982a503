use Rattle.std.proofs.Common.{◌≡◌, ℕ, ◌∙◌, sym, ap, subst, arith}
use Rattle.npf_types.specs.declared.key.Way.{Way}
use Rattle.npf_cells_words.specs.{declared.layout.{Layout.Layout, Pool.TheVariants.Slots}, Layout.{note_field, field_at}}
use Rattle.npf_cells_words.proofs.WordLemmas.{field_reach, note_soon}
use Rattle.npf_cells_rule.specs.Stood.{StoodSo}
use Rattle.npf_cells_turns.{specs.{NoteKinds.{ShowsKill, noting}, WordKinds.{ShowsByTurn, ShowsNote}}, proofs.NoteKeepLemmas.may_load_note}
use Rattle.npf_cells_turns.proofs.PassOnLemmas.{noted_on}
use Rattle.npf_cells.proofs.cells.Cells.load_note_as.Goals as goal

pub field_place-word-requires : goal.field_place-word-requires
field_place-word-requires g c = let soon = note_soon c.args.way in omega (arith, soon, c.note_field.ensures)

pub load-requires : goal.load-requires
load-requires g c =
    let own = c.requires.own in
    let place : c.field_place-word.result ≡ field_at c.args.self.now.table.shared.key Slots c.args.slot (note_field c.args.way)
    = c.field_place-word.ensures ∙ ap (λ f. field_at c.args.self.now.layout Slots c.args.slot f) c.note_field.ensures
    ∙ ap (λ l. field_at l Slots c.args.slot (note_field c.args.way)) (sym c.args.self.now.laid) in
    let reach = field_reach c.args.self.now.table.shared.key Slots c.args.slot (note_field c.args.way) c.requires.slot (note_soon c.args.way) in
    rw (c.requires.aim.0, c.requires.aim.1, c.requires.aim.2, place) (
      own.same,
      omega (arith, own.words, reach),
      may_load_note g.L.Law.meaning g.H.KeyHash.digest c.args.self.now.table.shared.key _ _ _ c.args.slot c.args.way c.args.pass.now.seat.me own.lives own.place c.requires.slot c.requires.turn,
    )

pub returns-clause-own : goal.returns-clause-own
returns-clause-own g c = noted_on c.args.self.now.table.shared.key _ _ _ _ _ _ _ _ c.requires.own c.load.ensures.0 c.load.ensures.2.is

pub returns-clause-next : goal.returns-clause-next
returns-clause-next g c = c.load.ensures.2.is ∙ ap (λ (way : Way). noting (note_field way) c.load.result c.args.pass.now.seat.me) c.requires.aim.2

pub returns-clause-noted : goal.returns-clause-noted
returns-clause-noted g c =
    let aim = c.requires.aim in
    subst (λ (y : ℕ × Way). ShowsNote c.args.pass.now.seat.me.0.pools.notes Slots y.0 (note_field y.1) c.load.result) (λ i. (aim.1 i, aim.2 i)) c.load.ensures.2.noted

pub returns-clause-by_turn : goal.returns-clause-by_turn
returns-clause-by_turn g c =
    let aim = c.requires.aim in
    subst (λ (y : Layout × ℕ × Way). ShowsByTurn g.L.Law.meaning g.H.KeyHash.digest y.0 c.args.pass.now.seat.me.0 Slots y.1 (note_field y.2) c.load.result)
    (λ i. (aim.0 i, aim.1 i, aim.2 i)) c.load.ensures.2.by_turn

pub returns-clause-by_kill : goal.returns-clause-by_kill
returns-clause-by_kill g c =
    let aim = c.requires.aim in
    subst (λ (y : Layout × ℕ × Way). ShowsKill g.L.Law.meaning y.0 c.args.pass.now.seat.me.0 y.1 y.2 c.load.result) (λ i. (aim.0 i, aim.1 i, aim.2 i)) c.load.ensures.2.by_kill

pub returns-clause-stood : goal.returns-clause-stood
returns-clause-stood g c =
    let aim = c.requires.aim in
    subst (λ (y : Layout × ℕ × Way). StoodSo g.L.Law.meaning g.H.KeyHash.digest y.0 c.args.pass.now.seat.me.0 (field_at y.0 Slots y.1 (note_field y.2)) c.load.result)
    (λ i. (aim.0 i, aim.1 i, aim.2 i)) c.load.ensures.2.stood
