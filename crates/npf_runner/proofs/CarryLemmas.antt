-- Which numbers the entries of histories carry.
use Rattle.std.{proofs.Common.{◌≡◌, ℕ, Bool, true, false, List, [], ◌∷◌, ◌++◌, cond, refl, sym, subst, ◌∙◌, ⊎_elim}, specs.List.{Contains, filter}}
use Rattle.std.proofs.lemmas.List.Elements.{Contains-append_cases}
use Rattle.npf_shelf.proofs.ListLemmas.{Contains-first, Contains-later, Contains-nil, Contains-cons_cases}
use Rattle.npf_core.specs.declared.act.Act.TheVariants.{Free}
use Rattle.npf_connections.specs.Said.{under}
use Rattle.npf_engine_opening.specs.Saying.{FlowSaid}
use Rattle.npf_engine.specs.{Handles.carried, Histories.{FlowAct, FlowEntry, History, carries}}

-- none of the entries carries one of these numbers
abbrev pub CarryNone : (ℕ → Type 0) → History → Type 0
CarryNone Ns entries = (entry : FlowEntry) (n : ℕ) → Contains entries entry → Ns n → carries n entry.act ≡ false

pub none_in_both : (Ns : ℕ → Type 0) (xs ys : History) → CarryNone Ns xs → CarryNone Ns ys → CarryNone Ns (xs ++ ys)
none_in_both Ns xs ys p q entry n c is = ⊎_elim (λ d. p entry n d is) (λ d. q entry n d is) (Contains-append_cases xs ys entry c)

pub none_carried : (Ns : ℕ → Type 0) (xs : History) (n : ℕ) → CarryNone Ns xs → Ns n → carried n xs ≡ []
none_carried Ns [] n p is = refl
none_carried Ns (x ∷ xs) n p is =
    let here : carries n x.act ≡ false = p x n (Contains-first x xs) is in
    rw here (none_carried Ns xs n (λ entry m c. p entry m (Contains-later x entry xs c)) is)

pub not_both : (test : Bool) → test ≡ true → test ≡ false → ⊥
not_both test p q = let both : true ≡ false = sym p ∙ q in absurd cc

-- what an entry of said ones says
pub record IsUnder (seat : ℕ) (said : List FlowSaid) (entry : FlowEntry) : Type 0 where
  pub what : FlowSaid
  pub stands : Contains said what
  pub is : entry ≡ record { seat = seat; act = what.act; reply = what.reply }

pub is_under : (seat : ℕ) (said : List FlowSaid) (entry : FlowEntry) → Contains (under seat said) entry → IsUnder seat said entry
is_under seat [] entry c = absurd (Contains-nil entry c)
is_under seat (x ∷ xs) entry c = ⊎_elim
    (λ (e : record { seat = seat; act = x.act; reply = x.reply } ≡ entry). record { what = x; stands = Contains-first x xs; is = sym e })
    (λ d. let rest = is_under seat xs entry d in record { what = rest.what; stands = Contains-later x rest.what xs rest.stands; is = rest.is })
    (Contains-cons_cases (record { seat = seat; act = x.act; reply = x.reply }) entry (under seat xs) c)

-- an entry that carries no number
pub frees_carry_none : (n : ℕ) (act : FlowAct) (id : _) → act ≡ Free id → carries n act ≡ false
frees_carry_none n act id is = rw is refl

pub in_filter : {X : Type 0} (p : X → Bool) (xs : List X) (x : X) → Contains (filter p xs) x → Contains xs x
in_filter p [] x c = c
in_filter {X} p (y ∷ ys) x c = by_test (p y) (λ d. in_filter p ys x d) c
  where
    by_test : (test : Bool) → (Contains (filter p ys) x → Contains ys x) → Contains (cond test (y ∷ filter p ys) (filter p ys)) x → Contains (y ∷ ys) x
    by_test true rest d = ⊎_elim (λ (e : y ≡ x). subst (λ (z : X). Contains (y ∷ ys) z) e (Contains-first y ys)) (λ l. Contains-later y x ys (rest l)) (Contains-cons_cases y x (filter p ys) d)
    by_test false rest d = Contains-later y x ys (rest d)
