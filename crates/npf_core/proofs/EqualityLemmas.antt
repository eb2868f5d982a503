-- The tests of the definitions decide equality.
use Rattle.std.{proofs.Common.{◌≡◌, ℕ, true, ◌==◌, refl, ap, sym, List, [], ◌∷◌}, specs.{Prelude.nat_eq, Bool.Decides}}
use Rattle.std.{proofs.lemmas.Bool.Decides.{Decides-and, Decides-eqb, Decides-like}, specs.Cmp.Lexicographic.{pointwise, same_text}}
use Rattle.npf_types.specs.declared.key.{Key.Key, Way.{Way, TheVariants.{Forward, Backward, Port}}}
use Rattle.npf_core.specs.{declared.{conn_id.ConnId.ConnId, found.Found.Found}, Machine.is_key, NextState.{is_way, is_id, is_found}}

pub same_conn_id : (a b : ConnId) → (a.slot ≡ b.slot) × (a.inc ≡ b.inc) → a ≡ b
same_conn_id a b e = λ i. record { slot = e.0 i; inc = e.1 i }

pub is_id-Decides : (a b : ConnId) → Decides (is_id a b) (a ≡ b)
is_id-Decides a b =
    Decides-like _ (same_conn_id a b) (λ e. (ap (λ (x : ConnId). x.slot) e, ap (λ (x : ConnId). x.inc) e))
    (Decides-and _ _ (Decides-eqb a.slot b.slot) (Decides-eqb a.inc b.inc))

is_way-true : (a b : Way) → is_way a b ≡ true → a ≡ b
is_way-true Forward Forward _ = refl
is_way-true Backward Backward _ = refl
is_way-true Port Port _ = refl
is_way-true _ _ e = cc

is_way-same : (a : Way) → is_way a a ≡ true
is_way-same Forward = refl
is_way-same Backward = refl
is_way-same Port = refl

pub is_way-Decides : (a b : Way) → Decides (is_way a b) (a ≡ b)
is_way-Decides a b = (is_way-true a b, λ e. rw (← e) (is_way-same a))

same_found : (a b : Found) → (a.id ≡ b.id) × (a.way ≡ b.way) → a ≡ b
same_found a b e = λ i. record { id = e.0 i; way = e.1 i }

pub is_found-Decides : (a b : Found) → Decides (is_found a b) (a ≡ b)
is_found-Decides a b =
    Decides-like _ (same_found a b) (λ e. (ap (λ (x : Found). x.id) e, ap (λ (x : Found). x.way) e))
    (Decides-and _ _ (is_id-Decides a.id b.id) (is_way-Decides a.way b.way))

same_key : (a b : Key) → a.0 ≡ b.0 → a ≡ b
same_key a b e = λ i. record { 0 = e i }

pointwise_self : (xs : List ℕ) → pointwise nat_eq xs xs ≡ true
pointwise_self [] = refl
pointwise_self (x ∷ xs) = let same : (x == x) ≡ true = (Decides-eqb x x).1 refl in rw same (pointwise_self xs)

pub is_key-Decides : (a b : Key) → Decides (is_key a b) (a ≡ b)
is_key-Decides a b = (λ e. same_key a b (same_text a.0 b.0 (sym e)), λ e. rw (← e) (pointwise_self a.0))
