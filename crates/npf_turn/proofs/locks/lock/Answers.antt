use Rattle.npf_turn.proofs.LockLemmas.{not_had}
use Rattle.std.{specs.List.Contains, proofs.Common.{sym, subst}}
use Rattle.atomic_table.specs.Table.{Me}
use Rattle.npf_cells_lives.specs.Turns.{Running}
use Rattle.npf_cells_rule.specs.declared.view.CellView.{CellView}
use Rattle.npf_turn.proofs.locks.lock.Goals as goal

pub returns-then-try_lock-clause-other : goal.returns-then-try_lock-clause-other
returns-then-try_lock-clause-other g c has =
    not_had g.L.Law.meaning g.H.KeyHash.digest c.args.cells.now.table.shared.key _ c.args.lock c.try_lock.result c.requires.lock c.try_lock.ensures.answers c.if-try_lock.true
    (subst (λ (y : Me (Running _) (CellView _ _ _)). Contains y.0.trie.locks c.args.lock) (sym c.loop.invariant.same) has)
