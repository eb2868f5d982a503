-- A pass knows the connection that its last look found.
use Rattle.std.{proofs.Common.{ℕ, Some, List, refl, sym, ap, subst, inl, arith}, specs.Prelude.Contains}
use Rattle.atomic_table.specs.Table.{Me}
use Rattle.npf_types.specs.declared.key.Key.{Key}
use Rattle.npf_core.specs.{declared.{conn_id.ConnId.ConnId, found.Found.Found}, Meaning.Meaning}
use Rattle.npf_connections.specs.Pass.{Knows}
use Rattle.npf_cells_rule.specs.{declared.view.CellView.CellView, Passes.cell_pass}
use Rattle.npf_trie.specs.LookUp.{LooksUpKey}

pub knows_found : {S A R F : Type 0} (m : Meaning S A R) (n : ℕ) (key : Key) (found : Found) (old now : Me F (CellView S A R)) →
    LooksUpKey m n key (Some found) old now → Knows (cell_pass now.0) found.id
knows_found {S} {A} {R} {F} m n key found old now looks = inl (subst (λ (ids : List ConnId). Contains ids found.id)
    (sym (ap (λ (y : Me F (CellView S A R)). y.0.trie.answered) looks.is)) (0, omega arith, refl))
