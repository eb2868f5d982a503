use Rattle.std.proofs.Common.{◌≡◌, ◌∙◌, sym, ap, subst, arith}
use Rattle.npf_cells_words.{specs.{declared.layout.Pool.TheVariants.Slots, Layout.{turn_field, field_at}}, proofs.WordLemmas.field_reach}
use Rattle.npf_cells_turns.{specs.EndKinds.TellsEnd, proofs.{EndKeepLemmas.may_end, PassOnLemmas.ended_on}}
use Rattle.npf_cells.proofs.cells.Cells.end_turn_as.Goals as goal

pub store-requires : goal.store-requires
store-requires g c =
    let own = c.requires.own in
    let place : c.field_place-word.result ≡ field_at c.args.self.now.table.shared.key Slots c.args.slot turn_field
    = c.field_place-word.ensures ∙ ap (λ l. field_at l Slots c.args.slot turn_field) (sym c.args.self.now.laid) in
    let reach = field_reach c.args.self.now.table.shared.key Slots c.args.slot turn_field c.requires.slot (omega arith) in
    rw (c.requires.aim, place) (
      own.same,
      omega (arith, own.words, reach),
      may_end g.L.Law.meaning g.H.KeyHash.digest c.args.self.now.table.shared.key _ _ _ c.args.slot c.args.act.now c.args.pass.now.seat.me own.lives own.theirs own.place c.requires.may,
    )

pub returns-clause-tells : goal.returns-clause-tells
returns-clause-tells g c = subst (λ act. TellsEnd g.L.Law.meaning act c.args.pass.now.seat.me c.store.new.seat.me) c.requires.aim c.store.ensures.2.tells

pub returns-clause-own : goal.returns-clause-own
returns-clause-own g c = ended_on g.L.Law.meaning c.args.self.now.table.shared.key _ _ _ _ c.args.act.now _ _ c.requires.own c.store.ensures.0 (returns-clause-tells g c)
