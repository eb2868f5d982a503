-- Keys that are taken into a set.
use Rattle.std.proofs.Common.{◌≡◌, ◌≢◌, ◌<◌, ◌+◌, ◌↔◌, ℕ, Bool, true, false, not, cond, Option, Some, None, List, [], ◌∷◌, ◌++◌, Contains, length, get_or}
use Rattle.std.{proofs.Common.{refl, sym, ap, subst, ◌∙◌, ◌||◌, true≢false, append-nil, append_assoc, inl, inr, arith}, specs.{Prelude.◌⊎◌, Cmp.IsEquivalence}}
use Rattle.std.{specs.{List.{AllPairs, list_any}, Str.bytes_eq}, proofs.lemmas.List.{get_or_append_left, get_or_push, length-append, get_or_default}}
use Rattle.std.proofs.lemmas.List.{Elements.{Contains-append_left, Contains-push, Contains-push_cases}, Quantifiers.all_pairs_push}
use Rattle.std.proofs.lemmas.{Map.Views.{Contains-from_any, list_any-from_Contains}, Slice.Eq.bytes_eq-Decides}
use Rattle.npf_types.specs.{declared.key.Key.Key, contracts.key.KeyEq.TheImpl.Laws.laws-law}
use Rattle.npf_types.specs.contracts.key.KeyPartialEq.TheImpl as key_eq
use Rattle.npf_saved_file.specs.Conns.{AreDistinct, HasKeys, TakesKeys, key_list}

-- keys are told apart by `==`
abbrev pub same_key : Key → Key → Bool
same_key = (key_eq.ghosts).eq

abbrev pub has_key : List Key → Key → Bool
has_key keys key = list_any (same_key key) keys

same_key_laws : IsEquivalence same_key
same_key_laws = laws-law

same_key_tells : (one other : Key) → same_key one other ≡ true → one ≡ other
same_key_tells one other same = let e = (bytes_eq-Decides one.0 other.0).0 same in λ i. record { 0 = e i }

pub key_there : (keys : List Key) (key : Key) → has_key keys key ≡ true → Contains keys key
key_there keys key = Contains-from_any same_key_tells key keys

pub key_found : (keys : List Key) (key : Key) → Contains keys key → has_key keys key ≡ true
key_found keys key = list_any-from_Contains same_key_laws key keys

-- a front of different keys has different keys
pub distinct_front : (keys more : List Key) → AreDistinct (keys ++ more) → AreDistinct keys
distinct_front keys more all i j d before within =
    let long = length-append keys more in
    let far : j < length (keys ++ more) = omega (arith, long, within) in
    let near : i < length keys = omega (arith, before, within) in
    λ same. all i j d before far (get_or_append_left keys more d i near ∙ same ∙ sym (get_or_append_left keys more d j within))

-- a key that is there is not another
pub not_again : (keys : List Key) (key : Key) → Contains keys key → ¬ AreDistinct (keys ++ key ∷ [])
not_again keys key (k, within, is) all =
    let long = length-append keys (key ∷ []) in
    let far : length keys < length (keys ++ key ∷ []) = omega (arith, long) in
    all k (length keys) key within far (get_or_append_left keys (key ∷ []) key k within ∙ is ∙ sym (get_or_push keys key key (length keys) refl))

pub one_more : (keys : List Key) (key : Key) → AreDistinct keys → ¬ Contains keys key → AreDistinct (keys ++ key ∷ [])
one_more keys key all new =
    all_pairs_push (λ one other. one ≢ other) keys key all (λ k d within same. new (k, within, get_or_default keys k key d within ∙ same))

-- what a set answers to a key says whether it had it
pub key_taken : (set new known : List Key) (key : Key) (added : Bool) → HasKeys set known → AreDistinct known
    → ((q : Key) → has_key new q ≡ cond (same_key key q) true (has_key set q)) → added ≡ not (has_key set key) → TakesKeys known (key_list (Some key)) new added
key_taken set new known key added has all put answered = by added answered where
  held : (q : Key) → Contains new q → Contains (known ++ key ∷ []) q
  held q there = at (same_key key q) refl where
    at : (b : Bool) → same_key key q ≡ b → Contains (known ++ key ∷ []) q
    at true is = subst (Contains (known ++ key ∷ [])) (same_key_tells key q is) (Contains-push known key)
    at false is =
        let old = sym (put q ∙ ap (λ b. cond b true (has_key set q)) is) ∙ key_found new q there in
        Contains-append_left known (key ∷ []) q ((has q).0 (key_there set q old))

  kept : (q : Key) → Contains (known ++ key ∷ []) q → Contains new q
  kept q there = at (same_key key q) refl where
    at : (b : Bool) → same_key key q ≡ b → Contains new q
    at true is = key_there new q (put q ∙ ap (λ b. cond b true (has_key set q)) is)
    at false is = from (Contains-push_cases known key q there) where
      from : Contains known q ⊎ (key ≡ q) → Contains new q
      from (inl old) = key_there new q (put q ∙ ap (λ b. cond b true (has_key set q)) is ∙ key_found set q ((has q).1 old))
      from (inr last) = absurd (true≢false (sym (same_key_laws.refl key) ∙ ap (same_key key) last ∙ is))

  by : (b : Bool) → b ≡ not (has_key set key) → TakesKeys known (key ∷ []) new b
  by true is = (one_more known key all (λ there. true≢false (sym (key_found set key ((has key).1 there)) ∙ off (has_key set key) (sym is))), λ q. (held q, kept q)) where
    off : (b : Bool) → not b ≡ true → b ≡ false
    off true e = cc
    off false e = refl
  by false is = not_again known key ((has key).0 (key_there set key (on (has_key set key) (sym is)))) where
    on : (b : Bool) → not b ≡ false → b ≡ true
    on true e = refl
    on false e = cc

-- keys are taken one behind the other
pub no_key_taken : (set known : List Key) → HasKeys set known → AreDistinct known → TakesKeys known (key_list None) set true
no_key_taken set known has all = (subst AreDistinct (sym (append-nil known)) all, subst (HasKeys set) (sym (append-nil known)) has)

pub not_taken : (known keys more : List Key) (set other : List Key) → TakesKeys known keys set false → TakesKeys known (keys ++ more) other false
not_taken known keys more set other again all = again (distinct_front (known ++ keys) more (subst AreDistinct (sym (append_assoc known keys more)) all))

pub more_taken : (known keys more set : List Key) (taken : Bool) → TakesKeys (known ++ keys) more set taken → TakesKeys known (keys ++ more) set taken
more_taken known keys more set true takes =
    (subst AreDistinct (append_assoc known keys more) takes.0, subst (HasKeys set) (append_assoc known keys more) takes.1)
more_taken known keys more set false again = λ all. again (subst AreDistinct (sym (append_assoc known keys more)) all)
