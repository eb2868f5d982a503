-- A load of the epoch, by a pass that killed connections: whoever rests on one of them is protected with that epoch or an earlier one.
use Rattle.std.proofs.{Common.{◌≡◌, ◌≢◌, ℕ, set, refl, sym, subst, ⊎_elim, arith}, lemmas.List.set-get_or}
use mathlib.Core.Option.{some}
use lib.ListN.{get_elem?}
use Rattle.atomic_table.{specs.Table.State, proofs.Lists.{at_map, at_set}}
use Rattle.npf_types.specs.declared.key.Key.{Key}
use Rattle.npf_core.specs.{declared.conn_id.ConnId.ConnId, History.state_of, Meaning.Meaning}
use Rattle.npf_cells_words.specs.{declared.layout.Layout.Layout, Layout.epoch_word}
use Rattle.npf_seats.{specs.Sums.occurs, proofs.SumLemmas.sum-set}
use Rattle.npf_cells_pins.specs.{declared.pin.Pin.{Pin, TheVariants.{Idle, Pinned, Protected}}, Epochs.PinAllows, Pinning.loading}
use Rattle.npf_cells_leaves.proofs.TrieLemmas.{knows_same}
use Rattle.npf_cells_lives.specs.{Deaths.{Rests, IsProtectedBy, slots_named, IsPast, Deaths}, Turns.Running}
use Rattle.npf_cells_lives.proofs.DeathLemmas.{spares_all, same_dates, deaths-set}
use Rattle.npf_cells_rule.specs.{declared.view.CellView.CellView, Cells.IsCells, Passes.IsProtected, Views.{reader_view, protecting_epoch, death_side}}
use Rattle.npf_cells_rule.proofs.DeathFrames.{rests_less, rests_on_none}

module _ {S A R : Type 0} (m : Meaning S A R) (digest : Key → ℕ) (layout : Layout) (s : State (Running S) (CellView S A R))
    (id : ℕ) (v : CellView S A R) (kept : IsCells m digest layout s) (at : get_elem? s.views id ≡ some v) where
  abbrev now : ℕ
  now = epoch_word s.words

  -- whoever rests on a connection is protected, with no later epoch than the table's
  rests_now : (j : ℕ) (u : CellView S A R) (conn : ConnId) → get_elem? s.views j ≡ some u → Rests (death_side u) conn → IsProtectedBy now (protecting_epoch u.epochs.pin)
  rests_now j u conn e rests = by_pin u.epochs.pin refl
    where
      walks : ¬ (IsProtected u.epochs.pin) → ⊥
      walks out = rests_on_none u ((kept.alone j u e).out out) conn rests

      by_pin : (pin : Pin) → u.epochs.pin ≡ pin → IsProtectedBy now (protecting_epoch pin)
      by_pin Idle is = absurd (walks (λ stays. subst IsProtected is stays))
      by_pin (Pinned pinned) is = absurd (walks (λ stays. subst IsProtected is stays))
      by_pin (Protected pinned epoch) is = (subst (λ (pin : Pin). PinAllows pin now) is (kept.epochs.each j (reader_view u) (at_map reader_view s.views j u e)).guards).1

  abbrev loader : CellView S A R
  loader = record v { epochs = loading v.epochs now }

  past_now : (conn : ConnId) → IsPast death_side now (set s.views id loader) conn now
  past_now conn = record {
    reached = omega arith;
    rested = λ j u e rests. ⊎_elim
        (λ (x : (j ≡ id) × (loader ≡ u)). subst (λ (y : CellView S A R). IsProtectedBy now (protecting_epoch y.epochs.pin)) x.1
        (rests_now id v conn at (subst (λ (y : CellView S A R). Rests (death_side y) conn) (sym x.1) rests)))
        (λ (x : (j ≢ id) × (get_elem? s.views j ≡ some u)). rests_now j u conn x.1 rests)
        (at_set s.views id j loader u e);
  }

  pub deaths_loading : Deaths death_side layout (state_of m kept.log) (set s.words 0 (epoch_word s.words)) (set s.views id loader)
  deaths_loading = subst (λ ws. Deaths death_side layout (state_of m kept.log) ws (set s.views id loader)) (sym (set-get_or s.words 0 0))
      (deaths-set death_side layout (state_of m kept.log) (state_of m kept.log) s.words s.words s.views id v loader kept.deaths at
      (spares_all (state_of m kept.log)) (omega arith) (rests_less (state_of m kept.log) v loader (knows_same v.trie) refl) refl refl
      (λ slot h. (let more = sum-set (λ (u : CellView S A R). occurs slot (slots_named u.pools.kills)) s.views id v loader at in let was = kept.deaths.counted slot h in omega (arith, more, was)))
      kept.deaths.reclaimed
      (λ conn c. record { dead = (kept.deaths.kills id v conn at c).dead; past = λ some' bare. past_now conn })
      (λ slot epoch h note. note)
      (same_dates death_side layout (state_of m kept.log) s.words s.words s.views id v loader kept.deaths at (omega arith) refl))
