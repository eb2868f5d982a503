use Rattle.std.proofs.Common.{◌≡◌, ℕ, ◌∙◌, ◌+◌, ◌/◌, refl, sym, ap, subst, arith}
use Rattle.npf_core.specs.declared.conn_id.ConnId.{ConnId}
use Rattle.npf_cells_words.specs.{declared.layout.{Layout.Layout, Pool.TheVariants.Slots}, Layout.{pool_at, place_word}}
use Rattle.npf_cells_rule.specs.Stood.{StoodSo}
use Rattle.npf_cells_takes.{specs.SlotKinds.HasFreed, proofs.{FreeKeepLemmas.may_free_slot, SightLemmas.freed_on}}
use Rattle.npf_cells.proofs.cells.Cells.free_slot_as.Goals as goal

pub fetch_and-requires : goal.fetch_and-requires
fetch_and-requires g c =
    let own = c.requires.own in
    let word : c.pool_place-word.result ≡ place_word c.args.self.now.table.shared.key Slots c.args.id.slot
    = c.pool_place-word.ensures ∙ ap (λ l. pool_at l Slots + c.args.id.slot / 64) (sym c.args.self.now.laid) in
    rw (c.requires.aim.0, c.requires.aim.1, word, c.place_bit.ensures) (
      own.same,
      omega (arith, own.words, c.requires.slot),
      may_free_slot g.L.Law.meaning g.H.KeyHash.digest c.args.self.now.table.shared.key _ _ _ _ c.args.id c.args.pass.now.seat.me own.lives own.theirs own.place c.requires.slot c.requires.may refl,
    )

pub returns-clause-own : goal.returns-clause-own
returns-clause-own g c = freed_on g.L.Law.meaning c.args.self.now.table.shared.key _ _ _ _ _ _ _ _ c.requires.own c.fetch_and.ensures.0 c.fetch_and.ensures.2.freed

pub returns-clause-frees : goal.returns-clause-frees
returns-clause-frees g c =
    let freed = c.fetch_and.ensures.2.freed in
    let found = sym (ap (λ y. y.0.pools.found) freed.is) in
    subst (λ (y : ConnId × ℕ). HasFreed g.L.Law.meaning y.0 y.1 c.args.pass.now.seat.me c.fetch_and.new.seat.me) (λ i. (c.requires.aim.1 i, found i)) freed

pub returns-clause-stood : goal.returns-clause-stood
returns-clause-stood g c =
    let aim = c.requires.aim in
    let found = sym (ap (λ y. y.0.pools.found) c.fetch_and.ensures.2.freed.is) in
    subst (λ (y : Layout × ConnId × ℕ). StoodSo g.L.Law.meaning g.H.KeyHash.digest y.0 c.args.pass.now.seat.me.0 (place_word y.0 Slots y.1.slot) y.2)
    (λ i. (aim.0 i, aim.1 i, found i)) c.fetch_and.ensures.2.stood
