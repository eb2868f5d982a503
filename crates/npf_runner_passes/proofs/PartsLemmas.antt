-- Passes that are split off one after the other.
use Rattle.std.{proofs.Common.{◌≡◌, ℕ, ◌-◌, ◌<◌, List, [], ◌∷◌, ◌++◌, length, refl, sym, ap, ◌∙◌, subst, arith, append-nil}, specs.List.Contains}
use Rattle.std.proofs.lemmas.List.{length_push, Elements.{All-nil, All-push}}
use Rattle.npf_core.specs.{declared.entry.Entry.Entry, History.by}
use Rattle.npf_connections.{specs.{Adding.Adds, Joining.{IsSplit, new_pass}, Pass.Pass}, proofs.AddLemmas.adds_more}
use Rattle.npf_runner_passes.specs.Parts.{IsGiven, Spreads, with_places}

module _ {S A R : Type 0} where
  pub spreads_none : (old : Pass (Entry S A R)) → Spreads old old []
  spreads_none old = record {
    adds = record { rest = []; goes_on = sym (append-nil old.history); own = refl; listed = λ n c. refl };
    enough = omega arith;
    left = let same : old.places ≡ old.places - 0 = omega arith in ap (λ places. with_places old old.history places) same;
    each = All-nil (IsGiven old);
  }

  spread_adds : (old mid now given : Pass (Entry S A R)) (before : List (Pass (Entry S A R))) → Spreads old mid before → IsSplit mid now given → Adds old now.history []
  spread_adds old mid now given before s split =
      adds_more old mid now.history [] [] (ap (λ (p : Pass (Entry S A R)). p.number) s.left) (ap (λ (p : Pass (Entry S A R)). p.joined) s.left) s.adds split.adds

  is_given : (old mid now given : Pass (Entry S A R)) (before : List (Pass (Entry S A R))) → Spreads old mid before → IsSplit mid now given → IsGiven old given
  is_given old mid now given before s split =
      let adds = spread_adds old mid now given before s split in
      let history : given.history ≡ now.history = ap (λ (p : Pass (Entry S A R)). p.history) split.gives in
      let slots : mid.slots ≡ old.slots = ap (λ (p : Pass (Entry S A R)). p.slots) s.left in
      let number : mid.number ≡ old.number = ap (λ (p : Pass (Entry S A R)). p.number) s.left in
      let joined : mid.joined ≡ old.joined = ap (λ (p : Pass (Entry S A R)). p.joined) s.left in
      record {
        begins = record { rest = adds.rest; goes_on = history ∙ adds.goes_on };
        another = λ same. split.another (same ∙ sym number);
        unlisted = λ listed. split.unlisted (subst (λ (js : List ℕ). Contains js given.number) (sym joined) listed);
        unused = ap (by given.number) history ∙ split.unused;
        rests = split.gives ∙ (ap (λ slots. new_pass slots given.number now.history) slots ∙ ap (λ history. new_pass old.slots given.number history) (sym history));
      }

  -- one more pass
  pub spreads_more : (old mid now given : Pass (Entry S A R)) (before : List (Pass (Entry S A R))) → Spreads old mid before → IsSplit mid now given →
      length before < old.places → Spreads old now (before ++ given ∷ [])
  spreads_more old mid now given before s split some =
      let less : (old.places - length before) - 1 ≡ old.places - length (before ++ given ∷ []) = omega (arith, length_push before given) in
      record {
        adds = spread_adds old mid now given before s split;
        enough = omega (arith, length_push before given, some);
        left = split.left ∙ (ap (λ (p : Pass (Entry S A R)). with_places p now.history (p.places - 1)) s.left ∙ ap (λ places. with_places old now.history places) less);
        each = All-push (IsGiven old) before given s.each (is_given old mid now given before s split);
      }

  -- a pass that gave up so many places has the rest
  pub spreads_places : (old now : Pass (Entry S A R)) (given : List (Pass (Entry S A R))) → Spreads old now given → now.places ≡ old.places - length given
  spreads_places old now given s = ap (λ (p : Pass (Entry S A R)). p.places) s.left

  pub spreads_entered : (old now : Pass (Entry S A R)) (given : List (Pass (Entry S A R))) → Spreads old now given → now.entered ≡ old.entered
  spreads_entered old now given s = ap (λ (p : Pass (Entry S A R)). p.entered) s.left
