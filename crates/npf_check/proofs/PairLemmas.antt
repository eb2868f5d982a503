-- The first fault of pairs, one pair on and at the end.
use Rattle.std.{proofs.{Common.{◌≡◌, Option, List, [], ◌∷◌, ◌++◌, length, zip, refl, sym, ap, ◌∙◌}, lemmas.List.nil_from_length}, specs.List.flat_map}
use Rattle.npf_faults.{specs.{declared.fault.ConfFault.ConfFault, First.{earlier, first_fault}}, proofs.FirstLemmas.{earlier-assoc, first_fault-append}}
use Rattle.npf_check.specs.Pair.{first_beside}

module _ {A B : Type 0} (f : A × B → List ConfFault) where
  -- one more on the left, beside the first on the right
  pub pairs_step : (now next : Option ConfFault) (given : List A) (a : A) (left : List A) (b : B) (right whole : List B)
      → given ≡ a ∷ [] → whole ≡ b ∷ right → next ≡ earlier now (first_fault (f (a, b)))
      → first_beside f now (given ++ left) whole ≡ first_beside f next left right
  pairs_step now next given a left b right whole one parts is =
      let rest = first_fault (flat_map f (zip left right)) in
      ap (λ front. first_beside f now (front ++ left) whole) one
      ∙ ap (first_beside f now (a ∷ left)) parts
      ∙ ap (earlier now) (first_fault-append (f (a, b)) (flat_map f (zip left right)))
      ∙ sym (earlier-assoc now (first_fault (f (a, b))) rest)
      ∙ ap (λ front. earlier front rest) (sym is)

  none_beside : (now : Option ConfFault) (left : List A) → first_beside f now left [] ≡ earlier now (first_fault [])
  none_beside now [] = refl
  none_beside now (a ∷ left) = refl

  -- nothing on the right
  pub pairs_past : (now : Option ConfFault) (given left : List A) (right : List B) → length right ≡ 0
      → first_beside f now (given ++ left) right ≡ first_beside f now left right
  pairs_past now given left right empty =
      let none = nil_from_length right empty in
      ap (first_beside f now (given ++ left)) none
      ∙ none_beside now (given ++ left) ∙ sym (none_beside now left)
      ∙ ap (first_beside f now left) (sym none)
