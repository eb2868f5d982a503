-- Which names some tokens give, place by place.
use Rattle.std.proofs.Common.{◌≡◌, ◌<◌, ◌+◌, ◌||◌, ℕ, zero, suc, Bool, Option, List, [], ◌∷◌, drop, length, refl, arith}
use Rattle.npf_faults.specs.declared.fault.Fault.{Fault}
use Rattle.npf_lexer.specs.declared.token.Token.{Token}
use Rattle.npf_ctl_why.specs.LeftOut.{gives_name, is_same_word, name_of_statement}

gives_more : (fault : Fault) (name : List ℕ) (gone : List Token) (i : ℕ) → i < length gone →
    gives_name fault name (drop i gone) ≡ (is_same_word name (name_of_statement fault (drop i gone)) || gives_name fault name (drop (i + 1) gone))
gives_more fault name [] i within = let none : ⊥ = omega (arith, within) in absurd none
gives_more fault name (token ∷ gone) zero within = refl
gives_more fault name (token ∷ gone) (suc i) within =
    let e : suc i + 1 ≡ suc (i + 1) = omega arith in
    rw e (gives_more fault name gone i (omega (arith, within)))

pub gives_here : (fault : Fault) (name : List ℕ) (gone : List Token) (i : ℕ) → i < length gone → (rest : List Token) → rest ≡ drop i gone → (other : Option (List ℕ)) →
    other ≡ name_of_statement fault rest → (same : Bool) → same ≡ is_same_word name other →
    gives_name fault name (drop i gone) ≡ (same || gives_name fault name (drop (i + 1) gone))
gives_here fault name gone i within rest at other is same so = let more = gives_more fault name gone i within in cc
