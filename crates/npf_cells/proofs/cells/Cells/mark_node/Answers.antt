use Rattle.std.proofs.Common.{◌≡◌, ◌∙◌, sym, ap, arith}
use Rattle.npf_paths.specs.declared.place.Lock.TheVariants as Locking
use Rattle.npf_cells_words.{specs.Places.lock_at, proofs.WordLemmas.lock_reach}
use Rattle.npf_cells_returns.proofs.{MarkingKeepLemmas.may_mark_node, PassOnLemmas.marking_on}
use Rattle.npf_cells.proofs.cells.Cells.mark_node.Goals as goal

pub store-requires : goal.store-requires
store-requires g c =
    let own = c.requires.own in
    let place : c.lock_place-word.result ≡ lock_at c.args.self.now.table.shared.key (Locking.Node c.args.node)
    = c.lock_place-word.ensures ∙ ap (λ l. lock_at l (Locking.Node c.args.node)) (sym c.args.self.now.laid) in
    let reach = lock_reach c.args.self.now.table.shared.key (Locking.Node c.args.node) c.requires.exists in
    rw place (
      own.same,
      omega (arith, own.words, reach),
      may_mark_node g.L.Law.meaning g.H.KeyHash.digest c.args.self.now.table.shared.key _ _ _ c.args.node c.args.pass.now.seat.me own.place c.requires.exists c.requires.may,
    )

pub returns-clause-own : goal.returns-clause-own
returns-clause-own g c = marking_on c.args.self.now.table.shared.key _ _ _ _ c.args.node _ _ c.requires.own c.store.ensures.0 c.requires.may c.store.ensures.2.is
