-- The first ruleset of each name, with one more.
use Rattle.std.proofs.Common.{◌≡◌, Bool, true, false, ℕ, Option, Some, None, List, [], ◌∷◌, ◌++◌, is_some, if◌then◌else◌, option_map, refl, sym, ap, subst, ◌∙◌, append-nil}
use Rattle.std.{specs.Str.bytes_eq, proofs.lemmas.Slice.Eq.bytes_eq-Decides}
use Rattle.npf_types.specs.{declared.name.Name.Name, Name.name_bytes}
use Rattle.npf_config_changes.specs.Rulesets.{Ruleset}
use Rattle.npf_config_reload.specs.Taken.{first_of}

first_stays : (xs ys : List Ruleset) → is_some (first_of xs) ≡ true → first_of xs ≡ first_of (xs ++ ys)
first_stays [] ys is = cc
first_stays (x ∷ xs) ys is = refl

first_behind : (xs ys : List Ruleset) → is_some (first_of xs) ≡ false → first_of ys ≡ first_of (xs ++ ys)
first_behind [] ys is = refl
first_behind (x ∷ xs) ys is = cc

pub some_mapped : {X Y : Type 0} (f : X → Y) (o : Option X) → is_some (option_map f o) ≡ is_some o
some_mapped f None = refl
some_mapped f (Some x) = refl

pub chosen_mapped : {X Y : Type 0} (f : X → Y) (b : Bool) (o p : Option X) → option_map f (if b then o else p) ≡ (if b then option_map f o else option_map f p)
chosen_mapped f true o p = refl
chosen_mapped f false o p = refl

-- what is found by its bytes, where the first of each name is found
module _ (old new : List ℕ → Option Ruleset) (before : Name → List Ruleset) (finds : (other : Name) → old (name_bytes other) ≡ first_of (before other))
    (name : List ℕ) (dynamic : Ruleset) where
  abbrev behind : Bool → List Ruleset
  behind same = if same then dynamic ∷ [] else []

  -- one of the name is there
  pub first_kept : is_some (old name) ≡ true → (other : Name) → old (name_bytes other) ≡ first_of (before other ++ behind (bytes_eq name (name_bytes other)))
  first_kept there other = by (bytes_eq name (name_bytes other)) refl where
    by : (same : Bool) → bytes_eq name (name_bytes other) ≡ same → old (name_bytes other) ≡ first_of (before other ++ behind same)
    by true is =
        let some = subst (λ (text : List ℕ). is_some (old text) ≡ true) ((bytes_eq-Decides name (name_bytes other)).0 is) there in
        finds other ∙ first_stays (before other) (dynamic ∷ []) (ap is_some (sym (finds other)) ∙ some)
    by false is = finds other ∙ ap first_of (sym (append-nil (before other)))

  -- it is the first of its name
  pub first_put : is_some (old name) ≡ false → ((text : List ℕ) → new text ≡ (if bytes_eq name text then Some dynamic else old text))
      → (other : Name) → new (name_bytes other) ≡ first_of (before other ++ behind (bytes_eq name (name_bytes other)))
  first_put none put other = put (name_bytes other) ∙ by (bytes_eq name (name_bytes other)) refl where
    by : (same : Bool) → bytes_eq name (name_bytes other) ≡ same → (if same then Some dynamic else old (name_bytes other)) ≡ first_of (before other ++ behind same)
    by true is =
        let absent = subst (λ (text : List ℕ). is_some (old text) ≡ false) ((bytes_eq-Decides name (name_bytes other)).0 is) none in
        first_behind (before other) (dynamic ∷ []) (ap is_some (sym (finds other)) ∙ absent)
    by false is = finds other ∙ ap first_of (sym (append-nil (before other)))
