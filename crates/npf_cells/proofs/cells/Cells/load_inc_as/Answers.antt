use Rattle.std.proofs.Common.{◌≡◌, ◌∙◌, sym, ap, arith}
use Rattle.npf_cells_words.{specs.{declared.layout.Pool.TheVariants.Slots, Layout.{inc_field, field_at}}, proofs.WordLemmas.field_reach}
use Rattle.npf_cells_takes.proofs.PrivateKeepLemmas.{may_load_inc}
use Rattle.npf_cells.proofs.cells.Cells.load_inc_as.Goals as goal

pub load-requires : goal.load-requires
load-requires g c =
    let own = c.requires.own in
    let place : c.field_place-word.result ≡ field_at c.args.self.now.table.shared.key Slots c.args.slot inc_field
    = c.field_place-word.ensures ∙ ap (λ l. field_at l Slots c.args.slot inc_field) (sym c.args.self.now.laid) in
    let reach = field_reach c.args.self.now.table.shared.key Slots c.args.slot inc_field c.requires.slot (omega arith) in
    rw (c.requires.aim, place)
    (own.same, omega (arith, own.words, reach), may_load_inc g.L.Law.meaning g.H.KeyHash.digest c.args.self.now.table.shared.key _ _ _ c.args.slot c.args.pass.now.seat.me c.requires.slot)
