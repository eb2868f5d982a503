use Rattle.std.proofs.Common.{◌≡◌, ◌∙◌, sym, ap, arith}
use Rattle.npf_types.specs.declared.key.Way.TheVariants.{Forward}
use Rattle.npf_core.specs.declared.conn_id.ConnId.{ConnId}
use Rattle.npf_cells_words.{specs.{declared.layout.Pool.TheVariants.Slots, Layout.{notes_field, field_at}}, proofs.WordLemmas.{field_reach, note_soon}}
use Rattle.npf_cells_rule.{specs.Views.with_pools, proofs.PassLemmas.pools_on}
use Rattle.npf_cells_takes.{specs.PrivateKinds.clearing, proofs.ClearLemmas.may_clear}
use Rattle.npf_cells.proofs.cells.Cells.clear_note_as.Goals as goal

pub field_place-word-requires : goal.field_place-word-requires
field_place-word-requires g c = let soon = note_soon Forward in omega (arith, soon, c.note_field.ensures)

pub store-requires : goal.store-requires
store-requires g c =
    let own = c.requires.own in
    let place : c.field_place-word.result ≡ field_at c.args.self.now.table.shared.key Slots c.args.id.slot notes_field
    = c.field_place-word.ensures ∙ ap (λ f. field_at c.args.self.now.layout Slots c.args.id.slot f) c.note_field.ensures
    ∙ ap (λ l. field_at l Slots c.args.id.slot notes_field) (sym c.args.self.now.laid) in
    let reach = field_reach c.args.self.now.table.shared.key Slots c.args.id.slot notes_field c.requires.slot (omega arith) in
    rw (c.requires.aim, place) (
      own.same,
      omega (arith, own.words, reach),
      may_clear g.L.Law.meaning g.H.KeyHash.digest c.args.self.now.table.shared.key _ _ _ c.args.id c.args.pass.now.seat.me own.place c.requires.slot c.requires.may,
    )

pub returns-clause-own : goal.returns-clause-own
returns-clause-own g c = pools_on c.args.self.now.table.shared.key _ _ _ _ _ _ _ c.requires.own c.store.ensures.0 c.store.ensures.2.is

pub returns-clause-next : goal.returns-clause-next
returns-clause-next g c = c.store.ensures.2.is ∙ ap (λ (id : ConnId). with_pools c.args.pass.now.seat.me (clearing id c.args.pass.now.seat.me.0.pools)) c.requires.aim
