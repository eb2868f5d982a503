-- How the first fault of a list is found piece by piece, and that it is the first.
use Rattle.std.proofs.Common.{◌≡◌, ℕ, ◌<◌, ◌≤◌, ◌+◌, suc, inl, inr, Bool, true, false, Option, Some, None, List, [], ◌∷◌, ◌++◌, All, Contains}
use Rattle.std.proofs.{Common.{length, get_or, drop, refl, sym, ap, subst, ◌∙◌, arith, if◌then◌else◌}, lemmas.List.{drop_more, drop_all}}
use Rattle.std.{proofs.lemmas.{List.Elements.{All-cons, All-nil, All-weaker}, Grind.common_steps}, specs.List.flat_map}
use Rattle.npf_faults.specs.{declared.fault.ConfFault.ConfFault, First.{precedes, earlier, first_fault, NotBefore, IsFirstFaultOf}}

precedes_on : (f g h : ConfFault) → precedes h g ≡ true → precedes g f ≡ true → precedes h f ≡ true
precedes_on f g h a b = grind (arith, common_steps)

precedes_off : (f g h : ConfFault) → precedes h g ≡ false → precedes g f ≡ false → precedes h f ≡ false
precedes_off f g h a b = grind (arith, common_steps)

three : (f g h : ConfFault) (gf hg : Bool) → precedes g f ≡ gf → precedes h g ≡ hg
    → earlier (Some (if gf then g else f)) (Some h) ≡ earlier (Some f) (Some (if hg then h else g))
three f g h true true a b = let c = precedes_on f g h b a in rw (b, c) refl
three f g h true false a b = rw (b, a) refl
three f g h false true a b = refl
three f g h false false a b = let c = precedes_off f g h b a in rw (c, a) refl

pub earlier-assoc : (a b c : Option ConfFault) → earlier (earlier a b) c ≡ earlier a (earlier b c)
earlier-assoc None b c = refl
earlier-assoc (Some f) None c = refl
earlier-assoc (Some f) (Some g) None = refl
earlier-assoc (Some f) (Some g) (Some h) = three f g h (precedes g f) (precedes h g) refl refl

pub earlier-none : (a : Option ConfFault) → earlier a None ≡ a
earlier-none None = refl
earlier-none (Some f) = refl

pub none_of_earlier : (a b : Option ConfFault) → earlier a b ≡ None → a ≡ None
none_of_earlier None b h = refl
none_of_earlier (Some f) None h = cc
none_of_earlier (Some f) (Some g) h = cc

-- the first fault of two lists, one behind the other
pub first_fault-append : (xs ys : List ConfFault) → first_fault (xs ++ ys) ≡ earlier (first_fault xs) (first_fault ys)
first_fault-append [] ys = refl
first_fault-append (x ∷ xs) ys = ap (earlier (Some x)) (first_fault-append xs ys) ∙ sym (earlier-assoc (Some x) (first_fault xs) (first_fault ys))

some_of_earlier : (f : ConfFault) (o : Option ConfFault) → earlier (Some f) o ≡ None → ⊥
some_of_earlier f None h = cc
some_of_earlier f (Some g) h = cc

-- a list without a first fault has none
pub no_first_fault : (fs : List ConfFault) → first_fault fs ≡ None → fs ≡ []
no_first_fault [] h = refl
no_first_fault (f ∷ fs) h = absurd (some_of_earlier f (first_fault fs) h)

-- a turn of a loop that keeps the first fault of what each item has, and the loop's end
pub each_step : {X : Type 0} (f : X → List ConfFault) (whole now next : Option ConfFault) (xs : List X) (i : ℕ) (d : X) → i < length xs
    → whole ≡ earlier now (first_fault (flat_map f (drop i xs))) → next ≡ earlier now (first_fault (f (get_or xs i d)))
    → whole ≡ earlier next (first_fault (flat_map f (drop (i + 1) xs)))
each_step f whole now next xs i d below so_far is =
    let left = first_fault (flat_map f (drop (i + 1) xs)) in
    so_far ∙ ap (λ rest. earlier now (first_fault (flat_map f rest))) (drop_more xs i d below)
    ∙ ap (earlier now) (first_fault-append (f (get_or xs i d)) (flat_map f (drop (i + 1) xs)))
    ∙ sym (earlier-assoc now (first_fault (f (get_or xs i d))) left) ∙ ap (λ front. earlier front left) (sym is)

pub each_end : {X : Type 0} (f : X → List ConfFault) (whole now : Option ConfFault) (xs : List X) (i : ℕ) → length xs ≤ i
    → whole ≡ earlier now (first_fault (flat_map f (drop i xs))) → whole ≡ now
each_end f whole now xs i past so_far = so_far ∙ ap (λ rest. earlier now (first_fault (flat_map f rest))) (drop_all i xs past) ∙ earlier-none now

not_before-trans : (f g h : ConfFault) → NotBefore f g → NotBefore g h → NotBefore f h
not_before-trans f g h (inl a) (inl b) = inl (omega (arith, a, b))
not_before-trans f g h (inl a) (inr b) = inl (omega (arith, a, b.0))
not_before-trans f g h (inr a) (inl b) = inl (omega (arith, a.0, b))
not_before-trans f g h (inr a) (inr b) = inr (a.0 ∙ b.0, omega (arith, a.1, b.1))

if_precedes : (g f : ConfFault) → precedes g f ≡ true → NotBefore g f
if_precedes g f h = grind (arith, common_steps)

unless_precedes : (g f : ConfFault) → precedes g f ≡ false → NotBefore f g
unless_precedes g f h = grind (arith, common_steps)

alone : (f : ConfFault) (fs : List ConfFault) → All (NotBefore f) fs → IsFirstFaultOf (f ∷ fs) f
alone f fs others = record { listed = (0, omega arith, refl); first = All-cons (NotBefore f) f fs (inr (refl, omega arith)) others }

behind : (g x : ConfFault) (gs : List ConfFault) (b : Bool) → precedes x g ≡ b → IsFirstFaultOf gs x → IsFirstFaultOf (g ∷ gs) (if b then x else g)
behind g x gs true h is = record {
  listed = (suc is.listed.0, omega (arith, is.listed.1), is.listed.2);
  first = All-cons (NotBefore x) g gs (if_precedes x g h) is.first;
}
behind g x gs false h is = alone g gs (All-weaker (NotBefore x) (NotBefore g) (λ y. not_before-trans g x y (unless_precedes x g h)) gs is.first)

by_rest : (g f : ConfFault) (gs : List ConfFault) (o : Option ConfFault) → first_fault gs ≡ o → earlier (Some g) o ≡ Some f
    → ((x : ConfFault) → first_fault gs ≡ Some x → IsFirstFaultOf gs x) → IsFirstFaultOf (g ∷ gs) f
by_rest g f gs None h e rest =
    let same : g ≡ f = cc in
    subst (λ l. IsFirstFaultOf (g ∷ l) f) (sym (no_first_fault gs h)) (subst (IsFirstFaultOf (g ∷ [])) same (alone g [] (All-nil (NotBefore g))))
by_rest g f gs (Some x) h e rest =
    let same : (if precedes x g then x else g) ≡ f = cc in
    subst (IsFirstFaultOf (g ∷ gs)) same (behind g x gs (precedes x g) refl (rest x h))

-- what the search finds is the first fault
pub is_first_fault : (fs : List ConfFault) (f : ConfFault) → first_fault fs ≡ Some f → IsFirstFaultOf fs f
is_first_fault [] f h = absurd (let e : None ≡ Some f = h in cc)
is_first_fault (g ∷ gs) f h = by_rest g f gs (first_fault gs) refl h (is_first_fault gs)

pub not_before : (faults : List ConfFault) (fault other : ConfFault) → IsFirstFaultOf faults fault → Contains faults other → NotBefore fault other
not_before faults fault other is there = subst (NotBefore fault) there.2 (is.first there.0 other there.1)

-- first faults of one list stand at one place and have one number
pub no_first : (faults : List ConfFault) (fault : ConfFault) → faults ≡ [] → ¬ IsFirstFaultOf faults fault
no_first faults fault none is =
    let below : is.listed.0 < length faults = is.listed.1 in
    let empty = ap length none in
    omega arith
