-- What walks a chain makes one, and from a place there is one chain.
use Rattle.std.{proofs.Common.{◌≡◌, Option, Some, None, List, [], ◌∷◌, ◌++◌, refl, sym, ap, ◌∙◌, subst, append_assoc}, specs.Prelude.IsSomeAnd}
use Rattle.npf_packet.specs.Chain.{IsChain}

-- a chain from here on, behind what was passed, is one from the first on
pub record HasPassed {A : Type 0} (next : A → Option A) (first : A) (passed : List A) (here : A) : Type 0 where
  pub onward : (rest : List A) (last : A) → IsChain next here rest last → IsChain next first (passed ++ rest) last

pub passes_none : {A : Type 0} (next : A → Option A) (first : A) → HasPassed next first [] first
passes_none next first = record { onward = λ rest last chain. chain }

pub passes_one : {A : Type 0} (next : A → Option A) (first : A) (passed : List A) (here there : A) →
    HasPassed next first passed here → next here ≡ Some there → HasPassed next first (passed ++ here ∷ []) there
passes_one next first passed here there before e =
    record { onward = λ rest last chain. rw append_assoc (before.onward (here ∷ rest) last (refl, rw e chain)) }

pub ends_at : {A : Type 0} (next : A → Option A) (first : A) (passed : List A) (here : A) → HasPassed next first passed here → next here ≡ None → IsChain next first (passed ++ []) here
ends_at next first passed here before e = before.onward [] here (refl, e)

some_for_both : {A : Type 0} (o : Option A) (P Q : A → Type 0) → IsSomeAnd o P → IsSomeAnd o Q → (x : A) × (P x × Q x)
some_for_both (Some x) P Q p q = (x, (p, q))
some_for_both None P Q p q = absurd p

pub is_some_and : {A : Type 0} (o : Option A) (P : A → Type 0) → IsSomeAnd o P → (x : A) × ((o ≡ Some x) × P x)
is_some_and (Some x) P p = (x, (refl, p))
is_some_and None P p = absurd p

not_none : {A : Type 0} (o : Option A) (P : A → Type 0) → o ≡ None → IsSomeAnd o P → ⊥
not_none o P e p = rw e at p

-- from a place there is one chain
pub same_chain : {A : Type 0} (next : A → Option A) (first : A) (xs ys : List A) (last last' : A) → IsChain next first xs last → IsChain next first ys last' → (xs ≡ ys) × (last ≡ last')
same_chain next first [] [] last last' p q = (refl, p.0 ∙ sym q.0)
same_chain next first [] (y ∷ ys) last last' p q = absurd (not_none (next first) _ p.1 q.1)
same_chain next first (x ∷ xs) [] last last' p q = absurd (not_none (next first) _ q.1 p.1)
same_chain next first (x ∷ xs) (y ∷ ys) last last' p q =
    let on = some_for_both (next first) (λ second. IsChain next second xs last) (λ second. IsChain next second ys last') p.1 q.1 in
    let same = same_chain next on.0 xs ys last last' on.1.0 on.1.1 in
    (ap (λ z. z ∷ xs) (p.0 ∙ sym q.0) ∙ ap (λ zs. y ∷ zs) same.0, same.1)

-- what holds of the first and stays from each to the next holds of the last
pub chain_keeps : {A : Type 0} (next : A → Option A) (P : A → Type 0)
    → ((x y : A) → P x → next x ≡ Some y → P y)
    → (first : A) (xs : List A) (last : A) → IsChain next first xs last → P first → P last
chain_keeps next P step first [] last chain here = subst P (sym chain.0) here
chain_keeps next P step first (x ∷ xs) last chain here =
    let on = is_some_and (next first) (λ second. IsChain next second xs last) chain.1 in
    chain_keeps next P step on.0 xs last on.1.1 (step first on.0 here on.1.0)
