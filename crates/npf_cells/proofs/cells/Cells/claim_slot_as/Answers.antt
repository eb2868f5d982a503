use Rattle.std.{proofs.Common.{◌≡◌, ◌≢◌, ℕ, ◌∙◌, ◌+◌, ◌/◌, ◌%◌, sym, ap, subst, refl, arith}, specs.Int.bit_at}
use Rattle.std.proofs.lemmas.Bool.Decides.{Decides-eqb, not_from_Decides}
use Rattle.npf_cells_words.specs.{declared.layout.{Layout.Layout, Pool.TheVariants.Slots}, Layout.{pool_at, place_word}}
use Rattle.npf_cells_takes.{specs.SlotKinds.HasSeenSlots, proofs.SlotKeepLemmas.may_claim_slot}
use Rattle.npf_cells.proofs.OwnLemmas.{claimed_on}
use Rattle.npf_cells.proofs.cells.Cells.claim_slot_as.Goals as goal

pub fetch_or-found-requires : goal.fetch_or-found-requires
fetch_or-found-requires g c =
    let own = c.requires.own in
    let place : c.pool_place-place.result ≡ place_word c.args.self.now.table.shared.key Slots c.args.slot
    = c.pool_place-place.ensures ∙ ap (λ l. pool_at l Slots + c.args.slot / 64) (sym c.args.self.now.laid) in
    rw (c.requires.aim.0, c.requires.aim.1, c.requires.aim.2, place, c.place_bit.ensures) (
      own.same,
      omega (arith, own.words, c.requires.slot),
      may_claim_slot g.L.Law.meaning g.H.KeyHash.digest c.args.self.now.table.shared.key _ _ _
          c.args.n c.args.slot _ c.args.pass.now.seat.me own.lives own.theirs own.place c.requires.protected c.requires.slot refl,
    )

pub returns-clause-loses : goal.returns-clause-loses
returns-clause-loses g c = λ no.
    let aim = c.requires.aim in
    let told = c.fetch_or-found.ensures.2 in
    let set : bit_at c.fetch_or-found.result (c.args.slot % 64) ≢ 0 = not_from_Decides _ (Decides-eqb (bit_at c.fetch_or-found.result (c.args.slot % 64)) 0) (sym c.is_clear.ensures ∙ no) in
    subst (λ (y : Layout × ℕ × ℕ). HasSeenSlots g.L.Law.meaning y.0 (y.1 / 64) y.2 c.args.pass.now.seat.me c.fetch_or-found.new.seat.me) (λ i. (aim.0 i, aim.1 i, sym told.finds i))
    (told.lost (λ e. set (ap (λ n. bit_at c.fetch_or-found.result (n % 64)) (sym aim.1) ∙ e)))

pub returns-clause-own : goal.returns-clause-own
returns-clause-own g c = claimed_on c.args.self.now.table.shared.key _ _ _ _ c.args.pass.now.seat.me _ c.requires.own c.fetch_or-found.ensures.0
    g.L.Law.meaning g.W.StepTold.told.layout g.W.StepTold.told.packet g.W.StepTold.told.number _ c.fetch_or-found.ensures.2.won c.fetch_or-found.ensures.2.lost c.requires.protected
