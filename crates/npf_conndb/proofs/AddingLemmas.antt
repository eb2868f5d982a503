-- What further entries add to a pass's history.
use Rattle.std.proofs.Common.{◌≡◌, List, [], ◌∷◌, ◌++◌, refl, sym, ap, ◌∙◌, subst}
use Rattle.npf_core.specs.declared.entry.Entry.{Entry}
use Rattle.npf_connections.{specs.{Adding.{Adds, AddsOwn, EndsWith}, Pass.Pass}, proofs.AddLemmas.adds_more}

abbrev rest_of : {X : Type 0} → List X → List X
rest_of [] = []
rest_of (x ∷ xs) = xs

-- behind an entry the history ends with what was added then, or with that entry where nothing was
ends_behind : {E : Type 0} (mid new ys : List E) (x : E) → EndsWith mid (x ∷ []) → EndsWith new ys → (ys ≡ [] → new ≡ mid) → EndsWith new (x ∷ ys)
ends_behind mid new [] x first then same init last e = subst (λ h. (before : List _) × (h ≡ before ++ last ∷ [])) (sym (same refl)) (first init last e)
ends_behind mid new (y ∷ ys) x first then same [] last e = absurd (let no : y ∷ ys ≡ [] = ap rest_of e in cc)
ends_behind mid new (y ∷ ys) x first then same (i ∷ init) last e = then init last (ap rest_of e)

pub adds_behind : {S A R : Type 0} (old mid : Pass (Entry S A R)) (new : List (Entry S A R)) (entry : Entry S A R) (mine : List (Entry S A R)) → mid.number ≡ old.number → mid.joined ≡ old.joined →
    AddsOwn old mid.history (entry ∷ []) → AddsOwn mid new mine → (mine ≡ [] → new ≡ mid.history) → AddsOwn old new (entry ∷ mine)
adds_behind old mid new entry mine number joined first then same = record {
  adds = adds_more old mid new (entry ∷ []) mine number joined first.adds then.adds;
  ends = ends_behind mid.history new mine entry first.ends then.ends same;
}

-- lists that end with one item each end with one
last_same : {X : Type 0} (xs ys : List X) (x y : X) → xs ++ x ∷ [] ≡ ys ++ y ∷ [] → x ≡ y
last_same [] [] x y e = cc
last_same [] (b ∷ []) x y e = absurd cc
last_same [] (b ∷ (c ∷ ys)) x y e = absurd cc
last_same (a ∷ []) [] x y e = absurd cc
last_same (a ∷ (c ∷ xs)) [] x y e = absurd cc
last_same (a ∷ xs) (b ∷ ys) x y e = last_same xs ys x y cc

-- an entry more ends what was added
pub adds_one : {S A R : Type 0} (old mid : Pass (Entry S A R)) (new mine : List (Entry S A R)) (entry : Entry S A R) → mid.number ≡ old.number → mid.joined ≡ old.joined → Adds old mid.history mine →
    AddsOwn mid new (entry ∷ []) → AddsOwn old new (mine ++ entry ∷ [])
adds_one {S} {A} {R} old mid new mine entry number joined first then = record {
  adds = adds_more old mid new mine (entry ∷ []) number joined first then.adds;
  ends = λ init last e.
      let end = then.ends [] entry refl in
      (end.0, end.1 ∙ ap (λ (x : Entry S A R). end.0 ++ x ∷ []) (last_same mine init entry last e));
}
