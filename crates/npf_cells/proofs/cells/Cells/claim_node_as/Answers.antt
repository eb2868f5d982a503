use Rattle.std.{proofs.{Common.{◌≡◌, ℕ, ◌∙◌, ◌+◌, ◌/◌, ◌%◌, sym, ap, subst, refl, arith}, lemmas.Bool.Decides.Decides-eqb}, specs.Int.bit_at}
use Rattle.npf_cells_words.specs.{declared.layout.{Layout.Layout, Pool.TheVariants.Nodes}, Layout.{pool_at, place_word}}
use Rattle.npf_cells_rule.{specs.{Views.with_pools, Stood.StoodSo}, proofs.PassLemmas.pools_on}
use Rattle.npf_cells_takes.{specs.PoolKinds.claiming_node, proofs.PoolKeepLemmas.{may_claim_node, not_owned}}
use Rattle.npf_cells.proofs.cells.Cells.claim_node_as.Goals as goal

pub fetch_or-found-requires : goal.fetch_or-found-requires
fetch_or-found-requires g c =
    let own = c.requires.own in
    let place : c.pool_place-place.result ≡ place_word c.args.self.now.table.shared.key Nodes c.args.node
    = c.pool_place-place.ensures ∙ ap (λ l. pool_at l Nodes + c.args.node / 64) (sym c.args.self.now.laid) in
    rw (c.requires.aim.0, c.requires.aim.1, place, c.place_bit.ensures) (
      own.same,
      omega (arith, own.words, c.requires.node),
      may_claim_node g.L.Law.meaning g.H.KeyHash.digest c.args.self.now.table.shared.key _ _ _ c.args.node _ c.args.pass.now.seat.me own.lives own.place c.requires.node refl,
    )

pub returns-clause-own : goal.returns-clause-own
returns-clause-own g c = pools_on c.args.self.now.table.shared.key _ _ _ _ _ _ _ c.requires.own c.fetch_or-found.ensures.0 c.fetch_or-found.ensures.2.is

pub returns-clause-next : goal.returns-clause-next
returns-clause-next g c =
    let is = c.fetch_or-found.ensures.2.is in
    let found = sym (ap (λ y. y.0.pools.found) is) in
    is ∙ (λ i. with_pools c.args.pass.now.seat.me (claiming_node (c.requires.aim.1 i) c.args.pass.now.seat.me.0.pools (found i)))

pub returns-clause-answers : goal.returns-clause-answers
returns-clause-answers g c =
    let found = ap (λ n. bit_at n (c.args.node % 64)) (ap (λ y. y.0.pools.found) c.fetch_or-found.ensures.2.is) in
    ((λ t. found ∙ (Decides-eqb _ _).0 (sym c.is_clear.ensures ∙ t)), (λ e. c.is_clear.ensures ∙ (Decides-eqb _ _).1 (sym found ∙ e)))

pub returns-clause-stood : goal.returns-clause-stood
returns-clause-stood g c =
    let aim = c.requires.aim in
    let found = sym (ap (λ y. y.0.pools.found) c.fetch_or-found.ensures.2.is) in
    subst (λ (y : Layout × ℕ × ℕ). StoodSo g.L.Law.meaning g.H.KeyHash.digest y.0 c.args.pass.now.seat.me.0 (place_word y.0 Nodes y.1) y.2)
    (λ i. (aim.0 i, aim.1 i, found i)) c.fetch_or-found.ensures.2.stood

pub returns-clause-unowned : goal.returns-clause-unowned
returns-clause-unowned g c = λ t owns.
    let clear : bit_at c.fetch_or-found.result (c.args.node % 64) ≡ 0 = (Decides-eqb _ _).0 (sym c.is_clear.ensures ∙ t) in
    let aim = c.requires.aim in
    let stood : StoodSo g.L.Law.meaning g.H.KeyHash.digest c.args.self.now.table.shared.key c.args.pass.now.seat.me.0
    (place_word c.args.self.now.table.shared.key Nodes c.args.node) c.fetch_or-found.result
    = subst (λ (y : Layout × ℕ). StoodSo g.L.Law.meaning g.H.KeyHash.digest y.0 c.args.pass.now.seat.me.0 (place_word y.0 Nodes y.1) c.fetch_or-found.result)
    (λ i. (aim.0 i, aim.1 i)) c.fetch_or-found.ensures.2.stood in
    not_owned g.L.Law.meaning g.H.KeyHash.digest c.args.self.now.table.shared.key c.args.pass.now.seat.me.0 c.args.node c.fetch_or-found.result c.requires.node stood clear owns
