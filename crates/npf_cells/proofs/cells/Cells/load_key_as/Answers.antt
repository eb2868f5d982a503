use Rattle.std.proofs.Common.{◌≡◌, ◌∙◌, ◌+◌, sym, refl, arith}
use Rattle.npf_cells_words.{specs.{declared.layout.Pool.TheVariants.Slots, Layout.{key_field, field_at}}, proofs.WordLemmas.{field_reach, key_short}}
use Rattle.npf_cells_holds.proofs.LookKeepLemmas.{may_load_key}
use Rattle.npf_cells.proofs.OwnLemmas.{known_on}
use Rattle.npf_cells.proofs.cells.Cells.load_key_as.Goals as goal

pub load-requires : goal.load-requires
load-requires g c =
    let own = c.requires.own in
    let field : c.key_field.result ≡ key_field c.args.way + c.args.word = c.key_field.ensures in
    let place : c.field_place-place.result ≡ field_at c.args.self.now.table.shared.key Slots c.args.slot (key_field c.args.way + c.args.word)
    = c.field_place-place.ensures ∙ (λ i. field_at (sym c.args.self.now.laid i) Slots c.args.slot (field i)) in
    let short = key_short c.args.way c.args.word c.requires.word in
    let reach = field_reach c.args.self.now.table.shared.key Slots c.args.slot (key_field c.args.way + c.args.word) c.requires.slot (omega (arith, short)) in
    rw (c.requires.aim.0, c.requires.aim.1, c.requires.aim.2, c.requires.aim.3, place) (
      own.same,
      omega (arith, own.words, reach),
      may_load_key g.L.Law.meaning g.H.KeyHash.digest c.args.self.now.table.shared.key _ _ _ c.args.slot c.args.way c.args.word c.args.pass.now.seat.me own.lives own.place c.requires.word,
    )

pub returns-clause-own : goal.returns-clause-own
returns-clause-own g c = known_on c.args.self.now.table.shared.key _ _ _ _ c.args.pass.now.seat.me _ c.requires.own c.load.ensures.0 _ c.load.ensures.2.is refl refl refl
