-- The name that stands for texts that are none.
use Rattle.std.proofs.Common.{◌≡◌, ℕ, Bool, true, false, List, [], ◌∷◌, refl}
use Rattle.npf_types.{specs.{NameText.is_name, Named.{named, name_where}}, proofs.NameLemmas.Name-same}

pub no_name : (text : List ℕ) → is_name text ≡ false → named text ≡ named (97 ∷ [])
no_name text off = by (is_name text) refl off where
  by : (answer : Bool) (told : is_name text ≡ answer) → answer ≡ false → name_where text answer told ≡ named (97 ∷ [])
  by false told never = Name-same (name_where text false told) (named (97 ∷ [])) refl refl
  by true told never = cc
