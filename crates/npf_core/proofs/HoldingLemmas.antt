-- Lists of holdings.
use Rattle.std.proofs.Common.{◌≡◌, Bool, true, false, ◌||◌, not, List, [], ◌∷◌, ◌++◌, Option, Some, None, cond, refl, ap, sym, ◌∙◌}
use Rattle.std.{specs.{Prelude.{IsTrue, is_none, option_map, find, filter}, List.list_any}, proofs.lemmas.Bool.{Decides.not_from_Decides, and_parts}}
use Rattle.npf_types.specs.declared.key.Key.{Key}
use Rattle.npf_core.specs.{declared.{found.Found.Found, hold.Holding.Holding}, Hold.{holder_in, is_each_once}, Machine.is_key}
use Rattle.npf_core.{specs.NextState.{is_found, holder_or, given_up}, proofs.EqualityLemmas.is_key-Decides}

-- the first of a list holds its key, and hides no other
holder_in-cons : (x : Holding) (xs : List Holding) (key : Key) → holder_in (x ∷ xs) key ≡ cond (is_key x.key key) (Some x.found) (holder_in xs key)
holder_in-cons x xs key = by_test (is_key x.key key)
  where
    by_test : (b : Bool) → option_map (λ (holding : Holding). holding.found) (cond b (Some x) (find (λ (holding : Holding). is_key holding.key key) xs)) ≡ cond b (Some x.found) (holder_in xs key)
    by_test true = refl
    by_test false = refl

pushed_first : (here there : Bool) (x h : Found) (rest : Option Found) (whole : Option Found) → whole ≡ cond there (holder_or rest h) rest →
    cond here (Some x) whole ≡ cond there (holder_or (cond here (Some x) rest) h) (cond here (Some x) rest)
pushed_first true true x h rest whole e = refl
pushed_first true false x h rest whole e = refl
pushed_first false there x h rest whole e = e

-- a holding at the end serves a key that has none before
pub holder_in-push : (xs : List Holding) (h : Holding) (key : Key) → holder_in (xs ++ h ∷ []) key ≡ cond (is_key h.key key) (holder_or (holder_in xs key) h.found) (holder_in xs key)
holder_in-push [] h key = holder_in-cons h [] key
holder_in-push (x ∷ xs) h key =
    rw (holder_in-cons x (xs ++ h ∷ []) key, holder_in-cons x xs key)
    (pushed_first (is_key x.key key) (is_key h.key key) x.found h.found (holder_in xs key) (holder_in (xs ++ h ∷ []) key) (holder_in-push xs h key))

none_is : (x : Option Found) → is_none x ≡ true → x ≡ None
none_is None e = refl
none_is (Some found) e = absurd cc

-- of a list with each key once: the first key has no other holding, and the rest has each once
pub first_once : (x : Holding) (xs : List Holding) → is_each_once (x ∷ xs) ≡ true → (holder_in xs x.key ≡ None) × (is_each_once xs ≡ true)
first_once x xs e = let parts = and_parts (is_none (holder_in xs x.key)) (is_each_once xs) e in (none_is (holder_in xs x.key) parts.0, parts.1)

cons_once : (x : Holding) (xs : List Holding) → holder_in xs x.key ≡ None → is_each_once xs ≡ true → is_each_once (x ∷ xs) ≡ true
cons_once x xs n e = rw (n, e) refl

-- a key without a holder: its first holding is another's, and the rest has none
not_first : (x : Holding) (xs : List Holding) (key : Key) → holder_in (x ∷ xs) key ≡ None → (is_key x.key key ≡ false) × (holder_in xs key ≡ None)
not_first x xs key e = by_test (is_key x.key key) refl (rw holder_in-cons at e)
  where
    by_test : (b : Bool) → is_key x.key key ≡ b → cond b (Some x.found) (holder_in xs key) ≡ None → (is_key x.key key ≡ false) × (holder_in xs key ≡ None)
    by_test true t e = absurd cc
    by_test false t e = (t, e)

is_key-sym : (a b : Key) → is_key a b ≡ false → is_key b a ≡ false
is_key-sym a b e = by_test (is_key b a) refl
  where
    by_test : (r : Bool) → is_key b a ≡ r → r ≡ false
    by_test false t = refl
    by_test true t = absurd (not_from_Decides _ (is_key-Decides a b) e (sym ((is_key-Decides b a).0 t)))

pub each_once-push : (xs : List Holding) (h : Holding) → is_each_once xs ≡ true → holder_in xs h.key ≡ None → is_each_once (xs ++ h ∷ []) ≡ true
each_once-push [] h e n = refl
each_once-push (x ∷ xs) h e n =
    let first = first_once x xs e in
    let apart = not_first x xs h.key n in
    let other = is_key-sym x.key h.key apart.0 in
    cons_once x (xs ++ h ∷ []) (holder_in-push xs h x.key ∙ rw (other, first.0) refl) (each_once-push xs h first.1 apart.1)

-- a key without a holder has none in a part of the list
none-filter : (p : Holding → Bool) (xs : List Holding) (key : Key) → holder_in xs key ≡ None → holder_in (filter p xs) key ≡ None
none-filter p [] key e = refl
none-filter p (x ∷ xs) key e =
    let first = not_first x xs key e in
    let rest = none-filter p xs key first.1 in
    by_test (p x) first.0 rest
  where
    by_test : (keep : Bool) → is_key x.key key ≡ false → holder_in (filter p xs) key ≡ None → holder_in (cond keep (x ∷ filter p xs) (filter p xs)) key ≡ None
    by_test true t rest = rw (holder_in-cons x (filter p xs) key, t) rest
    by_test false t rest = rest

pub each_once-filter : (p : Holding → Bool) (xs : List Holding) → is_each_once xs ≡ true → is_each_once (filter p xs) ≡ true
each_once-filter p [] e = refl
each_once-filter p (x ∷ xs) e =
    let first = first_once x xs e in
    by_test (p x) (none-filter p xs x.key first.0) (each_once-filter p xs first.1)
  where
    by_test : (keep : Bool) → holder_in (filter p xs) x.key ≡ None → is_each_once (filter p xs) ≡ true → is_each_once (cond keep (x ∷ filter p xs) (filter p xs)) ≡ true
    by_test true n rest = cons_once x (filter p xs) n rest
    by_test false n rest = rest

-- the holdings that aren't this one
abbrev pub is_other : Found → Holding → Bool
is_other found holding = not (is_found holding.found found)

module _ (found : Found) (x : Holding) (xs : List Holding) (key : Key) (alone : holder_in xs x.key ≡ None)
    (rest : holder_in (filter (is_other found) xs) key ≡ given_up (holder_in xs key) found) where
  filtered : (same here : Bool) → is_found x.found found ≡ same → is_key x.key key ≡ here →
      holder_in (cond (not same) (x ∷ filter (is_other found) xs) (filter (is_other found) xs)) key ≡ given_up (cond here (Some x.found) (holder_in xs key)) found
  filtered true true s h =
      let none : holder_in xs key ≡ None = rw ((is_key-Decides x.key key).0 h) at alone in
      rest ∙ rw (none, s) refl
  filtered true false s h = rest
  filtered false true s h = rw (holder_in-cons x (filter (is_other found) xs) key, h, s) refl
  filtered false false s h = rw (holder_in-cons x (filter (is_other found) xs) key, h) rest

-- taking back what is held so takes it back at each key
pub holder_in-filter : (found : Found) (xs : List Holding) (key : Key) → is_each_once xs ≡ true → holder_in (filter (is_other found) xs) key ≡ given_up (holder_in xs key) found
holder_in-filter found [] key e = refl
holder_in-filter found (x ∷ xs) key e =
    let first = first_once x xs e in
    rw (holder_in-cons x xs key) (filtered found x xs key first.0 (holder_in-filter found xs key first.1) (is_found x.found found) (is_key x.key key) refl refl)

-- some holder passes a test where some key's holder does
pub record IsHeld (p : Found → Bool) (xs : List Holding) : Type 0 where
  pub key : Key
  pub found : Found
  pub held : holder_in xs key ≡ Some found
  pub passes : p found ≡ true

is_key-self : (key : Key) → is_key key key ≡ true
is_key-self key = (is_key-Decides key key).1 refl

held_more : (p : Found → Bool) (x : Holding) (xs : List Holding) → holder_in xs x.key ≡ None → IsHeld p xs → IsHeld p (x ∷ xs)
held_more p x xs alone h = record { key = h.key; found = h.found; held = by_test (is_key x.key h.key) refl; passes = h.passes }
  where
    by_test : (here : Bool) → is_key x.key h.key ≡ here → holder_in (x ∷ xs) h.key ≡ Some h.found
    by_test true e = let none : holder_in xs h.key ≡ None = rw ((is_key-Decides x.key h.key).0 e) at alone in let held = h.held in absurd cc
    by_test false e = rw (holder_in-cons x xs h.key, e) h.held

pub held_by_any : (p : Found → Bool) (xs : List Holding) → is_each_once xs ≡ true → list_any (λ holding. p holding.found) xs ≡ true → IsHeld p xs
held_by_any p [] e h = absurd cc
held_by_any p (x ∷ xs) e h =
    let first = first_once x xs e in by_test (p x.found) refl (held_by_any p xs first.1) first.0 h
  where
    by_test : (here : Bool) → p x.found ≡ here → (list_any (λ holding. p holding.found) xs ≡ true → IsHeld p xs) → holder_in xs x.key ≡ None →
        (here || list_any (λ holding. p holding.found) xs) ≡ true → IsHeld p (x ∷ xs)
    by_test true t rest alone h = record { key = x.key; found = x.found; held = rw (holder_in-cons x xs x.key, is_key-self x.key) refl; passes = t }
    by_test false t rest alone h = held_more p x xs alone (rest h)

or_true : (a b : Bool) → b ≡ true → (a || b) ≡ true
or_true true b e = refl
or_true false b e = e

pub any_by_held : (p : Found → Bool) (xs : List Holding) → IsHeld p xs → list_any (λ holding. p holding.found) xs ≡ true
any_by_held p [] h = let held = h.held in absurd cc
any_by_held p (x ∷ xs) h = by_test (any_by_held p xs) (is_key x.key h.key) (rw holder_in-cons at h.held)
  where
    by_test : (IsHeld p xs → list_any (λ holding. p holding.found) xs ≡ true) → (here : Bool) →
        cond here (Some x.found) (holder_in xs h.key) ≡ Some h.found → list_any (λ holding. p holding.found) (x ∷ xs) ≡ true
    by_test rest true held = let same : x.found ≡ h.found = cc in let here : p x.found ≡ true = ap p same ∙ h.passes in rw here refl
    by_test rest false held = or_true (p x.found) _ (rest (record { key = h.key; found = h.found; held = held; passes = h.passes }))

-- a push that may fail
pub each_once-pushed : (ok : Bool) (xs ys : List Holding) (h : Holding) → ys ≡ cond ok (xs ++ h ∷ []) xs → IsTrue (is_each_once xs) → holder_in xs h.key ≡ None → IsTrue (is_each_once ys)
each_once-pushed true xs ys h e once none = rw e (each_once-push xs h once none)
each_once-pushed false xs ys h e once none = rw e once
