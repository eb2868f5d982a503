use Rattle.std.proofs.Common.{ap, ◌∙◌, refl, arith}
use Rattle.npf_cells_rule.specs.Views.{with_epochs}
use Rattle.npf_cells_pins.specs.Pinning.{pinning}
use Rattle.npf_cells_moves.proofs.KeepLemmas.{may_pin, pass_on}
use Rattle.npf_cells.proofs.cells.Cells.pin.Goals as goal

pub store-requires : goal.store-requires
store-requires g c =
    let own = c.requires.own in
    rw (c.reader_place-place.ensures, c.deref.ensures.0, own.owns) (
      own.same,
      omega (arith, own.words, own.reader),
      may_pin g.L.Law.meaning g.H.KeyHash.digest c.args.self.now.table.shared.key _ _ _ _ c.args.epoch c.args.pass.now.seat.me refl own.place c.requires.loaded.last c.requires.idle,
    )

pub returns-clause-own : goal.returns-clause-own
returns-clause-own g c = pass_on c.args.self.now.table.shared.key _ _ _ _ _ _ _ c.requires.own c.store.ensures.0 c.store.ensures.2.is c.requires.own.epoch (λ e. absurd cc) (λ e. absurd cc)

pub returns-clause-next : goal.returns-clause-next
returns-clause-next g c =
    c.store.ensures.2.is ∙ ap (λ e. with_epochs c.args.pass.now.seat.me (pinning c.args.pass.now.seat.me.0.epochs e)) c.requires.loaded.last
