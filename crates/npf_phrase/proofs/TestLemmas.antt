-- What can be tested of a grammar, and what follows.
use Rattle.std.proofs.Common.{◌≡◌, Bool, true, ◌&&◌, not, Option, Some, is_some, List, [], ◌∷◌, refl, ap, ◌∙◌}
use Rattle.npf_phrase.{specs.Grammar.{Grammar, token, pure, both, making, either, any_number, fitted, meaning}, proofs.ReadingLemmas.and_true}

-- nothing that may be empty is repeated
abbrev pub advances : {T A : Type 0} → Grammar T A → Bool
advances (token test example) = true
advances (pure a) = true
advances (both g h) = advances g && advances h
advances (making f g) = advances g
advances (either test g h) = advances g && advances h
advances (any_number g) = advances g && not (meaning g).nullable
advances (fitted fits g) = advances g

-- what stands first of one phrase doesn't go on with another
abbrev pub stands_apart : {T : Type 0} → (Option T → Bool) → List T → Bool
stands_apart more [] = true
stands_apart more (t ∷ _) = not (more (Some t))

-- each example is one, and one token of sight tells it from what stands before it
abbrev pub fine : {T A : Type 0} → Grammar T A → Bool
fine (token test example) = is_some (test example)
fine (pure a) = true
fine (both g h) = (fine g && fine h) && stands_apart (meaning g).more (meaning h).example
fine (making f g) = fine g
fine (either test g h) = (fine g && fine h) && stands_apart test (meaning h).example
fine (any_number g) = fine g && not (meaning g).nullable
fine (fitted fits g) = fine g

-- the second test asks more
pub fine_advances : {T A : Type 0} (g : Grammar T A) → fine g ≡ true → advances g ≡ true
fine_advances (token test example) is = refl
fine_advances (pure a) is = refl
fine_advances (both g h) is = let parts = and_true (and_true is).0 in ap (λ b. b && advances h) (fine_advances g parts.0) ∙ fine_advances h parts.1
fine_advances (making f g) is = fine_advances g is
fine_advances (either test g h) is = let parts = and_true (and_true is).0 in ap (λ b. b && advances h) (fine_advances g parts.0) ∙ fine_advances h parts.1
fine_advances (any_number g) is = let parts : (fine g ≡ true) × (not (meaning g).nullable ≡ true) = and_true is in ap (λ b. b && not (meaning g).nullable) (fine_advances g parts.0) ∙ parts.1
fine_advances (fitted fits g) is = fine_advances g is
