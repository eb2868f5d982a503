-- One more name in front of the others.
use Rattle.std.proofs.Common.{◌≡◌, Bool, Option, List, ◌∷◌, ℕ, sym, ap, ◌∙◌}
use mathlib.Core.Path.{fun_ext}
use Rattle.npf_faults.specs.{declared.fault.{ConfFault.ConfFault, Fault.TheVariants.DuplicateName}, First.{earlier, fault_if, first_fault}}
use Rattle.npf_faults.proofs.FirstLemmas.{earlier-assoc, first_fault-append}
use Rattle.npf_check.specs.{Duplicate.repeated, Name.{NameAt, with_text}}

pub repeated_step : (known after : List ℕ → Bool) (given : NameAt) (names : List NameAt) (first next : Option ConfFault)
    → ((text : List ℕ) → after text ≡ with_text given.name known text)
    → next ≡ earlier first (first_fault (fault_if (known given.name) given.span DuplicateName))
    → earlier first (first_fault (repeated known (given ∷ names))) ≡ earlier next (first_fault (repeated after names))
repeated_step known after given names first next more is =
    let here = fault_if (known given.name) given.span DuplicateName in
    let others = repeated (with_text given.name known) names in
    ap (earlier first) (first_fault-append here others)
    ∙ sym (earlier-assoc first (first_fault here) (first_fault others))
    ∙ ap (λ front. earlier front (first_fault others)) (sym is)
    ∙ ap (λ texts. earlier next (first_fault (repeated texts names))) (sym (fun_ext more))
