-- What the code keeps, and no part of what the language means: names by their first places in a text.
use Rattle.std.specs.Prelude.{◌≡◌, ℕ, List, length}
use Rattle.std.specs.Str.{bytes_eq}
use Rattle.std.specs.HashMap.{get_by}
use Rattle.npf_model.specs.Verdict.{first_where}
use Rattle.npf_expand_values.specs.declared.place.Places.{Places}

-- the places of these names, counted from 0
pub record ArePlaces (places : Places) (names : List (List ℕ)) : Type 0 where
  pub counted : places.count ≡ length names
  pub found : (text : List ℕ) → get_by (λ name. bytes_eq text name.now) places.first ≡ first_where (bytes_eq text) 0 names
