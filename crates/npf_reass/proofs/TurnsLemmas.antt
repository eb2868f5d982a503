-- The part of the rule on turns stays where a pass without a turn changes or comes.
use Rattle.std.{proofs.Common.{◌≡◌, ◌≢◌, ℕ, List, [], ◌∷◌, ◌++◌, set, Option, Some, None, sym, ap, ◌∙◌, ⊎_elim, inl, inr}, specs.Prelude.slice_index}
use mathlib.Core.Option.{some}
use lib.ListN.{get_elem?}
use Rattle.atomic_table.proofs.Lists.{at_set, at_snoc, at_longer, set_else}
use Rattle.npf_seats.proofs.SumLemmas.{one_there}
use Rattle.npf_reass.specs.{declared.{offer.Offer.Offer, view.ReassView.ReassView}, Gathering.{HasClassHolder, ClassTurns}}

pub no_turn : {o : Option ℕ} {class : ℕ} → o ≡ None → o ≡ Some class → ⊥
no_turn e t = cc

pub one_turn : {o : Option ℕ} {class other : ℕ} → o ≡ Some class → o ≡ Some other → class ≡ other
one_turn e t = cc

-- the view of a place
pub turn_there : (views : List ReassView) (i j : ℕ) (v u : ReassView) → get_elem? views i ≡ some v → get_elem? views j ≡ some u → j ≡ i → v.turn ≡ u.turn
turn_there views i j v u at there e = ap (λ (y : ReassView). y.turn) (sym (one_there views i j v u at there e))

module _ (classes : ℕ) (words : List ℕ) (log : List Offer) (holder : ℕ → ℕ) where
  pub turns-set : (views : List ReassView) (id : ℕ) (v w : ReassView) → get_elem? views id ≡ some v → v.turn ≡ None → w.turn ≡ None
      → ClassTurns classes words log holder views → ClassTurns classes words log holder (set views id w)
  turns-set views id v w at rests still kept = record {
    busy = λ class h. ⊎_elim
        (λ (free : slice_index words class ≡ 0). inl free)
        (λ (has : HasClassHolder views (holder class) class). inr (record {
          view = has.view;
          there = set_else views id (holder class) w (λ e. no_turn rests (turn_there views id (holder class) v has.view at has.there e ∙ has.turn)) ∙ has.there;
          turn = has.turn;
        }))
        (kept.busy class h);
    turns = λ j class u e t. ⊎_elim
        (λ (x : (j ≡ id) × (w ≡ u)). absurd (no_turn (ap (λ (y : ReassView). y.turn) (sym x.1) ∙ still) t))
        (λ (x : (j ≢ id) × (get_elem? views j ≡ some u)). kept.turns j class u x.1 t)
        (at_set views id j w u e);
  }

  pub turns-push : (views : List ReassView) (w : ReassView) → w.turn ≡ None
      → ClassTurns classes words log holder views → ClassTurns classes words log holder (views ++ w ∷ [])
  turns-push views w still kept = record {
    busy = λ class h. ⊎_elim
        (λ (free : slice_index words class ≡ 0). inl free)
        (λ (has : HasClassHolder views (holder class) class). inr (record {
          view = has.view;
          there = at_longer views (w ∷ []) (holder class) has.view has.there;
          turn = has.turn;
        }))
        (kept.busy class h);
    turns = λ j class u e t. ⊎_elim
        (λ (x : get_elem? views j ≡ some u). kept.turns j class u x t)
        (λ (x : w ≡ u). absurd (no_turn (ap (λ (y : ReassView). y.turn) (sym x) ∙ still) t))
        (at_snoc views w u j e);
  }
