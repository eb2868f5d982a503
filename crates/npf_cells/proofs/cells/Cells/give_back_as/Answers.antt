use Rattle.std.proofs.Common.{◌≡◌, ℕ, ◌∙◌, ◌+◌, ◌/◌, sym, ap, subst, refl, arith}
use Rattle.npf_cells_words.specs.{declared.layout.{Layout.Layout, Pool.TheVariants.Nodes}, Layout.{pool_at, place_word}}
use Rattle.npf_cells_rule.{specs.{Views.with_pools, Stood.StoodSo}, proofs.PassLemmas.pools_on}
use Rattle.npf_cells_takes.{specs.PoolKinds.giving_back, proofs.PoolKeepLemmas.may_return_node}
use Rattle.npf_cells.proofs.cells.Cells.give_back_as.Goals as goal

pub fetch_and-requires : goal.fetch_and-requires
fetch_and-requires g c =
    let own = c.requires.own in
    let word : c.pool_place-word.result ≡ place_word c.args.self.now.table.shared.key Nodes c.args.place
    = c.pool_place-word.ensures
    ∙ (ap (λ l. pool_at l c.args.pool + c.args.place / 64) (sym c.args.self.now.laid) ∙ ap (λ p. pool_at c.args.self.now.table.shared.key p + c.args.place / 64) c.requires.pool) in
    rw (c.requires.aim.0, c.requires.aim.1, word, c.place_bit.ensures) (
      own.same,
      omega (arith, own.words, c.requires.place),
      may_return_node g.L.Law.meaning g.H.KeyHash.digest c.args.self.now.table.shared.key _ _ _ c.args.place _ c.args.pass.now.seat.me own.lives own.place c.requires.place c.requires.owned refl,
    )

pub returns-clause-own : goal.returns-clause-own
returns-clause-own g c = pools_on c.args.self.now.table.shared.key _ _ _ _ _ _ _ c.requires.own c.fetch_and.ensures.0 c.fetch_and.ensures.2.is

pub returns-clause-next : goal.returns-clause-next
returns-clause-next g c =
    let is = c.fetch_and.ensures.2.is in
    let found = sym (ap (λ y. y.0.pools.found) is) in
    is ∙ (λ i. with_pools c.args.pass.now.seat.me (giving_back (c.requires.aim.1 i) c.args.pass.now.seat.me.0.pools (found i)))

pub returns-clause-stood : goal.returns-clause-stood
returns-clause-stood g c =
    let aim = c.requires.aim in
    let found = sym (ap (λ y. y.0.pools.found) c.fetch_and.ensures.2.is) in
    subst (λ (y : Layout × ℕ × ℕ). StoodSo g.L.Law.meaning g.H.KeyHash.digest y.0 c.args.pass.now.seat.me.0 (place_word y.0 Nodes y.1) y.2)
    (λ i. (aim.0 i, aim.1 i, found i)) c.fetch_and.ensures.2.stood
