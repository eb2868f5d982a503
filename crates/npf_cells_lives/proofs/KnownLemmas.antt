-- The part on what killers know stays through steps that spare the dead.
use Rattle.std.{specs.List.Contains, proofs.Common.{◌≡◌, ◌≢◌, ℕ, List, [], ◌∷◌, ◌++◌, set, sym, ap, ◌∙◌, subst, ⊎_elim}}
use mathlib.Core.Option.{some}
use lib.ListN.{get_elem?}
use Rattle.atomic_table.proofs.Lists.{at_set, at_snoc}
use Rattle.npf_types.specs.declared.key.{Key.Key, Way.Way}
use Rattle.npf_core.specs.{declared.{conn_id.ConnId.ConnId, stage.Stage.TheVariants.Dead}, Machine.{Machine, stage_of, Holds}}
use Rattle.npf_seats.proofs.PrefixLemmas.{none_listed}
use Rattle.npf_cells_lives.{specs.{declared.pools.PoolSide.PoolSide, Known.{FitsKnown, Known}}, proofs.DeathLemmas.Spares}

-- who has seen all knows what is
pub known_now : {S : Type 0} (k : Machine S) (id : ConnId) → stage_of k id ≡ Dead → FitsKnown k k id
known_now k id dead = record { dead = dead; held = λ way key h. h; back = λ way key h. h }

-- what was known of a dead connection is so, where its keys are the same
pub known_on : {S : Type 0} (seen k k' : Machine S) (id : ConnId) → ((way : Way) (key : Key) → Holds k id way key → Holds k' id way key) →
    ((way : Way) (key : Key) → Holds k' id way key → Holds k id way key) → FitsKnown seen k id → FitsKnown seen k' id
known_on seen k k' id held back fits = record {
  dead = fits.dead;
  held = λ way key h. held way key (fits.held way key h);
  back = λ way key h. fits.back way key (back way key h);
}

module _ {S V : Type 0} (seen_of : V → Machine S) (side_of : V → PoolSide) where
  -- one view changes, which knows of its kills
  pub known-set : (k k' : Machine S) (views : List V) (i : ℕ) (w : V) → Known seen_of side_of k views →
      ((j : ℕ) (u : V) (id : ConnId) → j ≢ i → get_elem? views j ≡ some u → Contains (side_of u).kills id → (way : Way) (key : Key) → Holds k id way key → Holds k' id way key) →
      ((j : ℕ) (u : V) (id : ConnId) → j ≢ i → get_elem? views j ≡ some u → Contains (side_of u).kills id → (way : Way) (key : Key) → Holds k' id way key → Holds k id way key) →
      ((id : ConnId) → Contains (side_of w).kills id → FitsKnown (seen_of w) k' id) → Known seen_of side_of k' (set views i w)
  known-set k k' views i w kept held back mine j u id e c = ⊎_elim
      (λ (x : (j ≡ i) × (w ≡ u)). subst (λ (y : V). FitsKnown (seen_of y) k' id) x.1 (mine id (subst (λ (y : V). Contains (side_of y).kills id) (sym x.1) c)))
      (λ (x : (j ≢ i) × (get_elem? views j ≡ some u)). known_on (seen_of u) k k' id (held j u id x.0 x.1 c) (back j u id x.0 x.1 c) (kept j u id x.1 c))
      (at_set views i j w u e)

  -- the same, where the dead are spared
  pub known-spared : (k k' : Machine S) (views : List V) (i : ℕ) (w : V) → Known seen_of side_of k views → Spares k k' →
      ((j : ℕ) (u : V) (id : ConnId) → get_elem? views j ≡ some u → Contains (side_of u).kills id → stage_of k id ≡ Dead) →
      ((id : ConnId) → Contains (side_of w).kills id → FitsKnown (seen_of w) k' id) → Known seen_of side_of k' (set views i w)
  known-spared k k' views i w kept spares dead mine = known-set k k' views i w kept (λ j u id ne e c. spares.held id (dead j u id e c)) (λ j u id ne e c. spares.back id (dead j u id e c)) mine

  -- a view comes that killed nothing
  pub known-push : (k : Machine S) (views : List V) (w : V) → Known seen_of side_of k views → (side_of w).kills ≡ [] → Known seen_of side_of k (views ++ w ∷ [])
  known-push k views w kept none j u id e c = ⊎_elim
      (λ (there : get_elem? views j ≡ some u). kept j u id there c)
      (λ (x : w ≡ u). absurd (none_listed id (subst (λ ids. Contains ids id) (ap (λ (y : V). (side_of y).kills) (sym x) ∙ none) c)))
      (at_snoc views w u j e)
