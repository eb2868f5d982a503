use Rattle.std.proofs.Common.{◌≡◌, ℕ, ◌∙◌, sym, ap, arith}
use Rattle.npf_paths.specs.declared.place.Lock.TheVariants as Locking
use Rattle.npf_cells_words.{specs.Places.lock_at, proofs.WordLemmas.lock_reach}
use Rattle.npf_cells_rule.{specs.Views.with_pools, proofs.PassLemmas.pools_on}
use Rattle.npf_cells_returns.{specs.MarkKinds.freeing_node, proofs.FreeingKeepLemmas.may_free_node}
use Rattle.npf_cells.proofs.cells.Cells.free_node_as.Goals as goal

pub store-requires : goal.store-requires
store-requires g c =
    let own = c.requires.own in
    let place : c.lock_place-word.result ≡ lock_at c.args.self.now.table.shared.key (Locking.Node c.args.node)
    = c.lock_place-word.ensures ∙ ap (λ l. lock_at l (Locking.Node c.args.node)) (sym c.args.self.now.laid) in
    let reach = lock_reach c.args.self.now.table.shared.key (Locking.Node c.args.node) c.requires.exists in
    rw (c.requires.aim, place) (
      own.same,
      omega (arith, own.words, reach),
      may_free_node g.L.Law.meaning g.H.KeyHash.digest c.args.self.now.table.shared.key _ _ _ c.args.node c.args.pass.now.seat.me own.place c.requires.exists c.requires.regained,
    )

pub returns-clause-own : goal.returns-clause-own
returns-clause-own g c = pools_on c.args.self.now.table.shared.key _ _ _ _ _ _ _ c.requires.own c.store.ensures.0 c.store.ensures.2.is

pub returns-clause-next : goal.returns-clause-next
returns-clause-next g c = c.store.ensures.2.is ∙ ap (λ (node : ℕ). with_pools c.args.pass.now.seat.me (freeing_node node c.args.pass.now.seat.me.0.pools)) c.requires.aim
