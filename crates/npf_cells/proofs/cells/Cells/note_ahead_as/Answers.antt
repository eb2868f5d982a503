use Rattle.std.proofs.Common.{◌≡◌, ◌∙◌, sym, ap, arith}
use Rattle.npf_cells_words.{specs.{declared.layout.Pool.TheVariants.Slots, Layout.{note_field, field_at}}, proofs.WordLemmas.{field_reach, note_soon}}
use Rattle.npf_cells_takes.proofs.{PrivateKeepLemmas.may_store_ahead, SightLemmas.led_on}
use Rattle.npf_cells.proofs.cells.Cells.note_ahead_as.Goals as goal

pub field_place-word-requires : goal.field_place-word-requires
field_place-word-requires g c = let soon = note_soon c.args.way in omega (arith, soon, c.note_field.ensures)

pub store-requires : goal.store-requires
store-requires g c =
    let own = c.requires.own in
    let place : c.field_place-word.result ≡ field_at c.args.self.now.table.shared.key Slots c.args.slot (note_field c.args.way)
    = c.field_place-word.ensures ∙ ap (λ f. field_at c.args.self.now.layout Slots c.args.slot f) c.note_field.ensures
    ∙ ap (λ l. field_at l Slots c.args.slot (note_field c.args.way)) (sym c.args.self.now.laid) in
    let reach = field_reach c.args.self.now.table.shared.key Slots c.args.slot (note_field c.args.way) c.requires.slot (note_soon c.args.way) in
    rw (c.requires.aim, place) (
      own.same,
      omega (arith, own.words, reach),
      may_store_ahead g.L.Law.meaning g.H.KeyHash.digest c.args.self.now.table.shared.key _ _ _ c.args.slot c.args.way c.args.value c.args.pass.now.seat.me own.place c.requires.slot c.requires.may,
    )

pub returns-clause-own : goal.returns-clause-own
returns-clause-own g c = led_on c.args.self.now.table.shared.key _ _ _ _ _ _ _ _ c.requires.own c.store.ensures.0 c.store.ensures.2.is
