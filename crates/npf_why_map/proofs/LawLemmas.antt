-- A fault of a map that can't be has a reason, and a reason has a map.
use Rattle.std.proofs.Common.{◌≡◌, ◌⊎◌, ◌==◌, ℕ, zero, suc, Bool, true, false, cond, if◌then◌else◌, Option, Some, None, is_some, List, [], ◌∷◌, zip}
use Rattle.std.{proofs.Common.{refl, ap, subst, ◌∙◌, inl, inr, ⊎_elim, arith}, specs.{List.{Contains, find, flat_map}, Option.option_or}}
use Rattle.std.proofs.lemmas.{Bool.{eqb-true, eq-eqb}, List.Elements.{Contains-append_cases, Contains-append_right}}
use Rattle.npf_shelf.proofs.ListLemmas.{Contains-nil}
use Rattle.npf_faults.specs.{declared.fault.{ConfFault.ConfFault, Fault.TheVariants.BadMap}, First.fault_if}
use Rattle.npf_model.specs.declared.map.Map.{Map}
use Rattle.npf_check.specs.{Map.{bad_map}, Name.no_text, Unbuilt.is_built_kind, WrittenMap.{WrittenMap, written_maps}}
use Rattle.npf_why_map.specs.declared.reason.MapReason.{MapReason}
use Rattle.npf_why_map.specs.{Laws.{EachBadMapHasReason, EachReasonIsOfMap, IsOfMapAt}, Place.{first_reason, first_some, reason_of}, Reason.{is_reason, map_reason, reasons}}
use Rattle.npf_why_map.proofs.ReasonLemmas.{reasons_are_of_bad_maps_lem}

some_left : {X : Type 0} (o p : Option X) → is_some o ≡ true → is_some (option_or o p) ≡ true
some_left None p is = cc
some_left (Some x) p is = refl

some_right : {X : Type 0} (o p : Option X) → is_some p ≡ true → is_some (option_or o p) ≡ true
some_right None p is = is
some_right (Some x) p is = refl

is_only : {X : Type 0} (y x : X) → Contains (y ∷ []) x → y ≡ x
is_only y x (zero, below, is) = is
is_only y x (suc k, below, is) = absurd (omega (arith, below))

reason_here : (fault : ConfFault) (w : WrittenMap) (m : Map) → Contains (bad_map (w, m)) fault → is_some (reason_of fault.span.at (w, m)) ≡ true
reason_here fault w m there = by _ (reasons_are_of_bad_maps_lem w.by_table w.kind m) there where
  reason : Option MapReason
  reason = map_reason w.by_table w.kind m

  by : (bad : Bool) → is_some reason ≡ bad → Contains (fault_if bad w.span BadMap) fault → is_some (reason_of fault.span.at (w, m)) ≡ true
  by false is here = absurd (Contains-nil fault here)
  by true is here =
      subst (λ (f : ConfFault). is_some (reason_of f.span.at (w, m)) ≡ true) (is_only (record { span = w.span; fault = BadMap }) fault here)
      (ap (λ same. is_some (if same then reason else None)) (eq-eqb w.span.at w.span.at refl) ∙ is)

reason_among : (fault : ConfFault) (pairs : List (WrittenMap × Map)) → Contains (flat_map bad_map pairs) fault → is_some (first_reason fault.span.at pairs) ≡ true
reason_among fault [] there = absurd (Contains-nil fault there)
reason_among fault ((w, m) ∷ pairs) there =
    let here = reason_of fault.span.at (w, m) in
    let behind = first_reason fault.span.at pairs in
    ⊎_elim (λ this. some_left here behind (reason_here fault w m this)) (λ others. some_right here behind (reason_among fault pairs others))
    (Contains-append_cases (bad_map (w, m)) (flat_map bad_map pairs) fault there)

pub each_bad_map_has_reason_lem : EachBadMapHasReason
each_bad_map_has_reason_lem tree model fault there = reason_among fault (zip (written_maps no_text tree.stmts) model.maps) there

if_found : {X : Type 0} (b : Bool) (here x : X) (behind : Option X) → cond b (Some here) behind ≡ Some x → ((b ≡ true) × (here ≡ x)) ⊎ (behind ≡ Some x)
if_found true here x behind is = inl (refl, cc)
if_found false here x behind is = inr is

find_so : {X : Type 0} (test : X → Bool) (xs : List X) (x : X) → find test xs ≡ Some x → test x ≡ true
find_so test [] x is = cc
find_so {X} test (y ∷ ys) x is =
    ⊎_elim (λ this. subst (λ (z : X). test z ≡ true) this.1 this.0) (λ behind. find_so test ys x behind) (if_found (test y) y x (find test ys) is)

if_some : {X : Type 0} (b : Bool) (o : Option X) (x : X) → (if b then o else None) ≡ Some x → (b ≡ true) × (o ≡ Some x)
if_some true o x is = (refl, is)
if_some false o x is = cc

or_some : {X : Type 0} (o p : Option X) (x : X) → option_or o p ≡ Some x → (o ≡ Some x) ⊎ (p ≡ Some x)
or_some None p x is = inr is
or_some (Some y) p x is = inl is

-- what answers first
first_asked : {A B : Type 0} (ask : A → Option B) (xs : List A) (b : B) → first_some ask xs ≡ Some b → (x : A) × Contains xs x × (ask x ≡ Some b)
first_asked ask [] b is = cc
first_asked ask (x ∷ xs) b is =
    ⊎_elim (λ here. (x, (0, omega arith, refl), here))
    (λ behind. let found = first_asked ask xs b behind in (found.0, Contains-append_right (x ∷ []) xs found.0 found.1, found.2))
    (or_some (ask x) (first_some ask xs) b is)

of_map : (at : ℕ) (maps : List (WrittenMap × Map)) (reason : MapReason) (pair : WrittenMap × Map) → Contains maps pair → (pair.0.span.at == at) ≡ true
    → map_reason pair.0.by_table pair.0.kind pair.1 ≡ Some reason → IsOfMapAt at maps reason
of_map at maps reason pair there place told =
    let w = pair.0 in
    record { written = w; meant = pair.1; there = there; place = eqb-true w.span.at at place; so = find_so (is_reason w.by_table (is_built_kind w.kind) pair.1) reasons reason told }

pub each_reason_is_of_map_lem : EachReasonIsOfMap
each_reason_is_of_map_lem at tree model reason is =
    let maps = zip (written_maps no_text tree.stmts) model.maps in
    let found = first_asked (reason_of at) maps reason is in
    let w = found.0.0 in
    let parts = if_some (w.span.at == at) (map_reason w.by_table w.kind found.0.1) reason found.2 in
    of_map at maps reason found.0 found.1 parts.0 parts.1
