-- What holds of a tree whose tokens are those of a text.
use Rattle.std.proofs.Common.{◌≡◌, ◌<◌, Bool, true, Option, Some, None, List, [], ◌∷◌, ◌++◌, length, refl, sym, subst, arith}
use Rattle.npf_lexer.specs.declared.token.Token.{Token}
use Rattle.npf_phrase.specs.Phrase.{Test, are_items}
use Rattle.npf_phrase.specs.Grammar.{Grammar, meaning, token, pure, both, making, either, any_number, fitted, preceded, terminated, optional, list_of, block_of, unless, those_there}
use Rattle.npf_phrase.proofs.ReadingLemmas.{by_choice}
use Rattle.npf_show_law.specs.Sound.{IsSoundKind, AreSoundTokens}

pub sound_parts : (one other : List Token) → AreSoundTokens (one ++ other) → AreSoundTokens one × AreSoundTokens other
sound_parts [] other sound = (tt, sound)
sound_parts (t ∷ one) other sound = let rest = sound_parts one other sound.1 in ((sound.0, rest.0), rest.1)

-- every value of a grammar, of such tokens
pub record Gives {A : Type 0} (g : Grammar Token A) (P : A → Type 0) : Type 0 where
  pub gives : (ts : List Token) (a : A) (n : Option Token) → AreSoundTokens ts → (meaning g).Is ts a n → P a

-- each element of a list
abbrev pub Every : {A : Type 0} → (A → Type 0) → List A → Type 0
Every P [] = Unit {0}
Every P (a ∷ rest) = P a × Every P rest

pub anything : {A : Type 0} {g : Grammar Token A} → Gives g (λ _. Unit {0})
anything = record { gives = λ ts a n sound is. tt }

pub token_gives : {A : Type 0} {test : Test Token A} {example : Token} {P : A → Type 0} → ((t : Token) (a : A) → IsSoundKind t.kind → test t ≡ Some a → P a) → Gives (token test example) P
token_gives holds = record { gives = λ ts a n sound is. holds is.0 a (subst AreSoundTokens is.1 sound).0 is.2 }

pub pure_gives : {A : Type 0} {a : A} {P : A → Type 0} → P a → Gives (pure a) P
pure_gives {P = P} holds = record { gives = λ ts b n sound is. subst P (sym is.1) holds }

pub both_gives : {A B : Type 0} {g : Grammar Token A} {h : Grammar Token B} {P : A → Type 0} {Q : B → Type 0} → Gives g P → Gives h Q → Gives (both g h) (λ ab. P ab.0 × Q ab.1)
both_gives one other = record {
  gives = λ ts ab n sound is.
      let parts = sound_parts is.one is.other (subst AreSoundTokens is.parts sound) in
      (one.gives is.one ab.0 _ parts.0 is.first, other.gives is.other ab.1 n parts.1 is.second);
}

pub making_gives : {A B : Type 0} {f : List Token → A → B} {g : Grammar Token A} {P : A → Type 0} {Q : B → Type 0} → ((ts : List Token) (a : A) → P a → Q (f ts a)) → Gives g P → Gives (making f g) Q
making_gives {Q = Q} step one = record { gives = λ ts b n sound is. subst Q (sym is.2) (step ts is.0 (one.gives ts is.0 n sound is.1)) }

pub either_gives : {A : Type 0} {test : Option Token → Bool} {g h : Grammar Token A} {P : A → Type 0} → Gives g P → Gives h P → Gives (either test g h) P
either_gives {g = g} {h = h} {P = P} one other = record {
  gives = λ ts a n sound. by_choice _ ((meaning g).Is ts a n) ((meaning h).Is ts a n) (P a) (one.gives ts a n sound) (other.gives ts a n sound);
}

pub fitted_gives : {A : Type 0} {fits : A → Bool} {g : Grammar Token A} {P : A → Type 0} → Gives g P → Gives (fitted fits g) (λ a. P a × (fits a ≡ true))
fitted_gives one = record { gives = λ ts a n sound is. (one.gives ts a n sound is.0, is.1) }

items_give : {A : Type 0} (g : Grammar Token A) (P : A → Type 0) → Gives g P → (items : List A) (ts : List Token) (n : Option Token) →
    AreSoundTokens ts → are_items (meaning g) ts items n → Every P items
items_give g P one [] ts n sound is = tt
items_give g P one (a ∷ items) ts n sound (first, other, parts, begins, is, onward) =
    let both = sound_parts first other (subst AreSoundTokens parts sound) in
    (one.gives first a _ both.0 is, items_give g P one items other n both.1 onward)

pub number_gives : {A : Type 0} {g : Grammar Token A} {P : A → Type 0} → Gives g P → Gives (any_number g) (Every P)
number_gives {g = g} {P = P} one = record { gives = λ ts items n sound is. items_give g P one items ts n sound is }

pub weaken : {A : Type 0} {g : Grammar Token A} {P Q : A → Type 0} → ((a : A) → P a → Q a) → Gives g P → Gives g Q
weaken step one = record { gives = λ ts a n sound is. step a (one.gives ts a n sound is) }

pub behind_gives : {A B : Type 0} {g : Grammar Token A} {h : Grammar Token B} {Q : B → Type 0} → Gives h Q → Gives (preceded g h) Q
behind_gives other = making_gives (λ ts ab both. both.1) (both_gives anything other)

pub before_gives : {A B : Type 0} {g : Grammar Token A} {h : Grammar Token B} {P : A → Type 0} → Gives g P → Gives (terminated g h) P
before_gives one = making_gives (λ ts ab both. both.0) (both_gives one anything)

-- what is there
abbrev pub IfThere : {A : Type 0} → (A → Type 0) → Option A → Type 0
IfThere P None = Unit {0}
IfThere P (Some a) = P a

pub optional_gives : {A : Type 0} {g : Grammar Token A} {P : A → Type 0} → Gives g P → Gives (optional g) (IfThere P)
optional_gives one = either_gives (making_gives (λ ts a is. is) one) (pure_gives tt)

pub optional_behind : {A B : Type 0} (h : Grammar Token A) {g : Grammar Token B} {P : B → Type 0} → Gives g P → Gives (optional (preceded h g)) (IfThere P)
optional_behind h one = optional_gives (behind_gives {g = h} one)

there_every : {A : Type 0} (P : A → Type 0) (items : List (Option A)) → Every (IfThere P) items → Every P (those_there items)
there_every P [] every = tt
there_every P (Some a ∷ items) every = (every.0, there_every P items every.1)
there_every P (None ∷ items) every = there_every P items every.1

-- items of a block
pub block_gives : {A S : Type 0} {separator : Grammar Token S} {closes : Option Token → Bool} {g : Grammar Token A} {P : A → Type 0} → Gives g P → Gives (block_of separator closes g) (Every P)
block_gives {P = P} one =
    making_gives (λ ts items every. there_every P items every)
    (making_gives (λ ts ab every. every) (both_gives (entry one) (number_gives (behind_gives (entry one))))) where
      entry : {A : Type 0} {closes : Option Token → Bool} {g : Grammar Token A} {P : A → Type 0} → Gives g P → Gives (unless closes g) (IfThere P)
      entry one = either_gives (pure_gives tt) (making_gives (λ ts a is. is) one)

-- a list of one at least
abbrev IsSome : {A : Type 0} → (A → Type 0) → Option A → Type 0
IsSome P None = ⊥
IsSome P (Some a) = P a

every_some : {A : Type 0} (P : A → Type 0) (items : List (Option A)) → Every (IsSome P) items → Every P (those_there items)
every_some P [] every = tt
every_some P (Some b ∷ items) every = (every.0, every_some P items every.1)
every_some P (None ∷ items) every = absurd every.0

some_every : {A : Type 0} (P : A → Type 0) (o : Option A) (items : List (Option A)) → IsSome P o → Every (IsSome P) items → (0 < length (those_there (o ∷ items))) × Every P (those_there (o ∷ items))
some_every P None items is every = absurd is
some_every P (Some a) items is every = (omega arith, (is, every_some P items every))

abbrev pub IsListOf : {A : Type 0} → (A → Type 0) → List A → Type 0
IsListOf P items = (0 < length items) × Every P items

pub list_gives : {A S : Type 0} {separator : Grammar Token S} {g : Grammar Token A} {P : A → Type 0} → Gives g P → Gives (list_of separator g) (IsListOf P)
list_gives {A = A} {P = P} one =
    making_gives {P = λ items. (o : Option A) × (rest : List (Option A)) × (items ≡ o ∷ rest) × IsSome P o × Every (IsSome P) rest}
    (λ ts items q. subst (λ items. IsListOf P (those_there items)) (sym q.2) (some_every P q.0 q.1 q.3 q.4))
    (making_gives (λ ts ab q. (ab.0, ab.1, refl, q.0, q.1)) (both_gives (making_gives (λ ts a is. is) one) (number_gives (behind_gives (making_gives (λ ts a is. is) one)))))
