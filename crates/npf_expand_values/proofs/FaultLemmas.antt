-- The first fault of two lists of faults.
use Rattle.std.proofs.Common.{◌≡◌, true, false, is_some, Option, Some, None, List, [], ◌∷◌, ◌++◌, refl, sym, ap, ◌∙◌, true≢false}
use Rattle.std.specs.Prelude.{Result, Ok, Err, OnErr, OnOk}
use Rattle.npf_faults.{specs.{declared.fault.ConfFault.ConfFault, First.{earlier, first_fault}}, proofs.FirstLemmas.{first_fault-append, no_first_fault}}
use Rattle.npf_model.specs.declared.iface.Iface.{Iface}
use Rattle.npf_expand_values.{specs.{Atom.Atom, Use.then_faults, Variable.unless_refused}, proofs.PlaceLemmas.none_there}

pub first_of_both : (xs ys : List ConfFault) (a b : Option ConfFault) → a ≡ first_fault xs → b ≡ first_fault ys → earlier a b ≡ first_fault (xs ++ ys)
first_of_both xs ys a b one other = ap (λ o. earlier o b) one ∙ ap (earlier (first_fault xs)) other ∙ sym (first_fault-append xs ys)

refused_by : (ifaces : List Iface) (faults : List ConfFault) (atoms : List Atom) → is_some (first_fault faults) ≡ true → [] ≡ unless_refused ifaces faults atoms
refused_by ifaces [] atoms some = cc
refused_by ifaces (_ ∷ _) atoms some = refl

pub refused : (ifaces : List Iface) (faults : List ConfFault) (fault : Option ConfFault) (atoms : List Atom) → fault ≡ first_fault faults → is_some fault ≡ true
    → [] ≡ unless_refused ifaces faults atoms
refused ifaces faults fault atoms is some = refused_by ifaces faults atoms (sym (ap is_some is) ∙ some)

pub not_refused : (ifaces : List Iface) (faults : List ConfFault) (fault : Option ConfFault) (atoms : List Atom) → fault ≡ first_fault faults → is_some fault ≡ false
    → atoms ≡ unless_refused ifaces faults atoms
not_refused ifaces faults fault atoms is none = sym (ap (λ fs. unless_refused ifaces fs atoms) (no_first_fault faults (sym is ∙ none_there fault none)))

pub some_or_none : {X : Type 0} (o : Option X) → is_some o ≡ true → o ≡ None → ⊥
some_or_none None some none = true≢false (sym some)
some_or_none (Some x) some none = true≢false (ap is_some none)

-- of faults behind which others are told only where there are none
pub none_before : (xs ys : List ConfFault) → then_faults xs ys ≡ [] → xs ≡ []
none_before [] ys none = refl
none_before (x ∷ xs) ys none = none

pub first_told : (xs ys : List ConfFault) (fault : ConfFault) → first_fault xs ≡ Some fault → first_fault (then_faults xs ys) ≡ Some fault
first_told [] ys fault is = cc
first_told (x ∷ xs) ys fault is = is

pub others_told : (xs ys : List ConfFault) → first_fault xs ≡ None → first_fault (then_faults xs ys) ≡ first_fault ys
others_told xs ys none = ap (λ fs. first_fault (then_faults fs ys)) (no_first_fault xs none)

pub both_faults : (xs ys : List ConfFault) → first_fault (xs ++ ys) ≡ earlier (first_fault xs) (first_fault ys)
both_faults xs ys = first_fault-append xs ys

-- what follows both where a call goes well and where it doesn't
pub either_way : {T E : Type 0} (P Q R : Type 0) (r : Result T E) → (P → R) → (Q → R) → OnOk r P → OnErr r Q → R
either_way P Q R (Ok v) well ill is other = well is
either_way P Q R (Err e) well ill is other = ill other
