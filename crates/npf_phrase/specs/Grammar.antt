-- Grammars: phrases as they are written down, from single tokens up.
use Rattle.std.specs.Prelude.{◌≡◌, ◌⊎◌, Bool, false, Option, Some, None, List, [], ◌∷◌}
use Rattle.npf_phrase.specs.Phrase as P
use Rattle.npf_phrase.specs.Phrase.{Phrase, Test}

pub data Grammar (T : Type 0) : Type 0 → Type 1 where
  token : {A : Type 0} → Test T A → T → Grammar T A
  pure : {A : Type 0} → A → Grammar T A
  both : {A B : Type 0} → Grammar T A → Grammar T B → Grammar T (A × B)
  making : {A B : Type 0} → (List T → A → B) → Grammar T A → Grammar T B
  either : {A : Type 0} → (Option T → Bool) → Grammar T A → Grammar T A → Grammar T A
  any_number : {A : Type 0} → Grammar T A → Grammar T (List A)
  fitted : {A : Type 0} → (A → Bool) → Grammar T A → Grammar T A

-- what a grammar says
abbrev pub meaning : {T A : Type 0} → Grammar T A → Phrase T A
meaning (token test example) = P.token test example
meaning (pure a) = P.pure a
meaning (both g h) = P.in_turn (meaning g) (meaning h)
meaning (making f g) = P.making f (meaning g)
meaning (either test g h) = P.either test (meaning g) (meaning h)
meaning (any_number g) = P.any_number (meaning g)
meaning (fitted fits g) = P.fitted fits (meaning g)

-- the grammar without its tests of values
abbrev pub loose : {T A : Type 0} → Grammar T A → Grammar T A
loose (token test example) = token test example
loose (pure a) = pure a
loose (both g h) = both (loose g) (loose h)
loose (making f g) = making f (loose g)
loose (either test g h) = either test (loose g) (loose h)
loose (any_number g) = any_number (loose g)
loose (fitted fits g) = loose g

-- these tokens, before this one, are a phrase whose value doesn't fit where the grammar tests it
abbrev pub IsUnfit : {T A : Type 0} → Grammar T A → List T → Option T → Type 0
IsUnfit (token test example) unfit n = ⊥
IsUnfit (pure a) unfit n = ⊥
IsUnfit (both g h) unfit n = IsUnfit g unfit n ⊎ IsUnfit h unfit n
IsUnfit (making f g) unfit n = IsUnfit g unfit n
IsUnfit (either test g h) unfit n = IsUnfit g unfit n ⊎ IsUnfit h unfit n
IsUnfit (any_number g) unfit n = IsUnfit g unfit n
IsUnfit (fitted {A} fits g) unfit n = IsUnfit g unfit n ⊎ ((a : A) × (meaning g).Is unfit a n × (fits a ≡ false))

infixr 5 ◌&◌
-- one phrase and another behind it
abbrev pub ◌&◌ : {T A B : Type 0} → Grammar T A → Grammar T B → Grammar T (A × B)
g & h = both g h

infixr 4 ◌or◌
-- one phrase where it begins, and else another
abbrev pub ◌or◌ : {T A : Type 0} → Grammar T A → Grammar T A → Grammar T A
g or h = either (meaning g).starts g h

-- a part that is left out where it doesn't begin
abbrev pub optional : {T A : Type 0} → Grammar T A → Grammar T (Option A)
optional g = making (λ _ a. Some a) g or pure None

-- a part that is left out exactly where one of these tokens stands
abbrev pub unless : {T A : Type 0} → (Option T → Bool) → Grammar T A → Grammar T (Option A)
unless test g = either test (pure None) (making (λ _ a. Some a) g)

-- a phrase of which the second part means something
abbrev pub preceded : {T A B : Type 0} → Grammar T A → Grammar T B → Grammar T B
preceded g h = making (λ _ ab. ab.1) (g & h)

-- a phrase of which the first part means something
abbrev pub terminated : {T A B : Type 0} → Grammar T A → Grammar T B → Grammar T A
terminated g h = making (λ _ ab. ab.0) (g & h)

-- a phrase, and others of its kind with a separator before each
abbrev pub separated : {T A S : Type 0} → Grammar T S → Grammar T A → Grammar T (List A)
separated separator g = making (λ _ ab. ab.0 ∷ ab.1) (g & any_number (preceded separator g))

abbrev pub those_there : {A : Type 0} → List (Option A) → List A
those_there [] = []
those_there (Some a ∷ items) = a ∷ those_there items
those_there (None ∷ items) = those_there items

-- items that are there, of those between separators
abbrev pub sparse_list : {T A S : Type 0} → Grammar T S → Grammar T (Option A) → Grammar T (List A)
sparse_list separator entry = making (λ _ items. those_there items) (separated separator entry)

-- items of which any may be left out: where one of these tokens stands, none does
abbrev pub block_of : {T A S : Type 0} → Grammar T S → (Option T → Bool) → Grammar T A → Grammar T (List A)
block_of separator closes g = sparse_list separator (unless closes g)

-- one item at least, with separators between
abbrev pub list_of : {T A S : Type 0} → Grammar T S → Grammar T A → Grammar T (List A)
list_of separator g = sparse_list separator (making (λ _ a. Some a) g)
