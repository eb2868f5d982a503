-- A connection is let go: the epoch is loaded, and stored in its first note.
use Rattle.std.{specs.List.Contains, proofs.Common.{◌≡◌, ℕ, ◌+◌, ◌-◌, ◌^◌, cond, eqb, refl, sym, ap, ◌∙◌, subst, inr, arith}}
use Rattle.atomic_table.specs.Table.{Me}
use Rattle.npf_core.specs.{declared.conn_id.ConnId.ConnId, Meaning.Meaning}
use Rattle.npf_cells_words.specs.{declared.layout.Pool.TheVariants.Slots, Layout.notes_field}
use Rattle.npf_cells_pins.specs.Pinning.{IsMet, loading}
use Rattle.npf_cells_lives.proofs.DeathLemmas.{epoch_note}
use Rattle.npf_cells_rule.specs.{declared.view.CellView.CellView, Views.{with_epochs, with_pools}}
use Rattle.npf_cells_takes.specs.PrivateKinds.{HasSeenBare, MayStore, letting_go, noted_in, stored_in}
use Rattle.npf_turn.specs.Done.{HasLetGo}

module _ {S A R F : Type 0} (m : Meaning S A R) (id : ConnId) (old now : Me F (CellView S A R)) (epoch : ℕ)
    (loads : now ≡ with_epochs old (loading old.0.epochs epoch)) (met : IsMet old.0.epochs epoch) where
  pub may_let_go : Contains old.0.pools.kills id → HasSeenBare m old.0 id → MayStore m now.0 Slots id.slot notes_field (2 ^ 63 + epoch)
  may_let_go killed bare = subst (λ (y : Me F (CellView S A R)). MayStore m y.0 Slots id.slot notes_field (2 ^ 63 + epoch)) (sym loads) (inr (inr (inr (record {
    id = id;
    killed = killed;
    there = refl;
    note = refl;
    bare = record { dead = bare.dead; keyless = bare.keyless };
    loaded = (let from = met.from in omega (arith, from));
    epoch = refl;
  }))))

  pub lets_go : (next : Me F (CellView S A R)) → next ≡ stored_in Slots id.slot notes_field (2 ^ 63 + epoch) now → HasLetGo id old next
  lets_go next stored = record {
    epoch = epoch;
    met = met;
    is = stored ∙ (ap (λ n. cond (eqb n 1) (with_pools now (letting_go id.slot (2 ^ 63 + epoch - 2 ^ 63) now.0.pools)) (noted_in id.slot notes_field (2 ^ 63 + epoch) now)) (epoch_note epoch)
        ∙ (ap (λ n. with_pools now (letting_go id.slot n now.0.pools)) (let same : 2 ^ 63 + epoch - 2 ^ 63 ≡ epoch = omega arith in same)
        ∙ ap (λ (y : Me F (CellView S A R)). with_pools y (letting_go id.slot epoch y.0.pools)) loads));
  }
