use Rattle.std.proofs.Common.{ℕ, subst, ◌≡◌, ap, ◌∙◌, ◌+◌, refl, arith}
use Rattle.npf_cells_words.specs.{declared.layout.Layout.Layout, Layout.reader_at}
use Rattle.npf_cells_rule.specs.{Stood.StoodSo, Views.with_epochs}
use Rattle.npf_cells_pins.specs.Pinning.{scanning}
use Rattle.npf_cells_moves.proofs.KeepLemmas.{may_scan, pass_on}
use Rattle.npf_cells.proofs.cells.Cells.scan_reader_as.Goals as goal

pub load-requires : goal.load-requires
load-requires g c =
    let own = c.requires.own in
    rw (c.requires.aim, c.reader_place.ensures) (
      own.same,
      omega (arith, own.words, c.requires.reader),
      may_scan g.L.Law.meaning g.H.KeyHash.digest c.args.self.now.table.shared.key _ _ _ c.args.reader c.args.pass.now.seat.me refl own.lives own.place,
    )

pub returns-clause-own : goal.returns-clause-own
returns-clause-own g c =
    pass_on c.args.self.now.table.shared.key _ _ _ _ _ _ _ c.requires.own c.load.ensures.0 c.load.ensures.2.is c.requires.own.epoch c.requires.own.unanswered c.requires.own.unlocked

pub returns-clause-next : goal.returns-clause-next
returns-clause-next g c =
    let scan = c.load.ensures.2 in
    let there : c.reader_place.result ≡ 1 + scan.reader = scan.there in
    let same : scan.reader ≡ c.args.reader = (let place = c.reader_place.ensures in omega (arith, there, place)) in
    scan.is ∙ ap (λ r. with_epochs c.args.pass.now.seat.me (scanning c.args.pass.now.seat.me.0.epochs r c.load.result)) same

pub returns-clause-stood : goal.returns-clause-stood
returns-clause-stood g c =
    let scan = c.load.ensures.2 in
    let there : c.reader_place.result ≡ 1 + scan.reader = scan.there in
    let same : scan.reader ≡ c.args.reader = (let place = c.reader_place.ensures in omega (arith, there, place)) in
    subst (λ (y : Layout × ℕ). StoodSo g.L.Law.meaning g.H.KeyHash.digest y.0 c.args.pass.now.seat.me.0 (reader_at y.1) c.load.result) (λ i. (c.requires.aim i, same i)) scan.stood
