use Rattle.std.proofs.Common.{◌≡◌, ℕ, ◌∙◌, ◌+◌, sym, ap, subst, arith}
use Rattle.npf_cells_words.{specs.{declared.layout.{Layout.Layout, Pool.Pool}, Layout.{pool_at, pool_words}}, proofs.WordLemmas.pool_reach}
use Rattle.npf_cells_rule.specs.{Stood.StoodSo, Views.with_pools}
use Rattle.npf_cells_takes.{specs.{PoolKinds.sweeping, SlotKinds.HasSeenSlots}, proofs.{PoolKeepLemmas.may_sweep, SightLemmas.swept_on}}
use Rattle.npf_cells.proofs.cells.Cells.load_pool_as.Goals as goal

pub load-requires : goal.load-requires
load-requires g c =
    let own = c.requires.own in
    let reach = pool_reach c.args.self.now.table.shared.key c.args.pool c.args.word c.requires.word in
    let place : c.pool_place-place.result ≡ pool_at c.args.self.now.table.shared.key c.args.pool + c.args.word
    = c.pool_place-place.ensures ∙ ap (λ l. pool_at l c.args.pool + c.args.word) (sym c.args.self.now.laid) in
    rw (c.requires.aim.0, c.requires.aim.1, c.requires.aim.2) (
      own.same,
      omega (arith, own.words, reach, place),
      may_sweep g.L.Law.meaning g.H.KeyHash.digest c.args.self.now.table.shared.key _ _ _ c.args.pool c.args.word _ c.args.pass.now.seat.me own.lives own.theirs own.place place,
    )

pub returns-clause-nodes : goal.returns-clause-nodes
returns-clause-nodes g c =
    let aim = c.requires.aim in
    λ e. c.load.ensures.2.nodes (aim.1 ∙ e) ∙ (λ i. with_pools c.args.pass.now.seat.me (sweeping (pool_words (aim.0 i).nodes) (aim.2 i) c.args.pass.now.seat.me.0.pools c.load.result))

pub returns-clause-slots : goal.returns-clause-slots
returns-clause-slots g c =
    let aim = c.requires.aim in
    λ e. subst (λ (y : Layout × ℕ). HasSeenSlots g.L.Law.meaning y.0 y.1 c.load.result c.args.pass.now.seat.me c.load.new.seat.me) (λ i. (aim.0 i, aim.2 i)) (c.load.ensures.2.slots (aim.1 ∙ e))

pub returns-clause-own : goal.returns-clause-own
returns-clause-own g c =
    swept_on g.L.Law.meaning c.args.self.now.table.shared.key _ _ _ _ c.args.word c.load.result _ _ _ c.args.pool c.requires.own c.load.ensures.0 (returns-clause-nodes g c) (returns-clause-slots g c)

pub returns-clause-stood : goal.returns-clause-stood
returns-clause-stood g c =
    let aim = c.requires.aim in
    subst (λ (y : Layout × Pool × ℕ). StoodSo g.L.Law.meaning g.H.KeyHash.digest y.0 c.args.pass.now.seat.me.0 (pool_at y.0 y.1 + y.2) c.load.result)
    (λ i. (aim.0 i, aim.1 i, aim.2 i)) c.load.ensures.2.stood
