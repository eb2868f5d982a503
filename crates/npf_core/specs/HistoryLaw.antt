-- How histories go on: by an entry that may follow, to the next state.
use Rattle.std.specs.Prelude.{◌≡◌, ℕ, ◌↔◌, List, [], ◌∷◌, ◌++◌}
use Rattle.npf_core.specs.declared.entry.Entry.{Entry}
use Rattle.npf_core.specs.History.{MayFollow, after, Legal, state_of, IsPrefix, by}
use Rattle.npf_core.specs.Meaning.{Meaning}
use Rattle.npf_core.specs.Replays.{asked_in}

-- a prefix of a legal history is legal
abbrev pub PrefixesAreLegal : {S A R : Type 0} → Meaning S A R → ℕ → Type 0
PrefixesAreLegal {S} {A} {R} m slots =
    (earlier history : List (Entry S A R)) → IsPrefix earlier history → Legal m slots history → Legal m slots earlier

-- a history is legal with one more entry exactly where it is legal and the entry may follow
abbrev pub GoesOnLegally : {S A R : Type 0} → Meaning S A R → ℕ → Type 0
GoesOnLegally {S} {A} {R} m slots =
    (history : List (Entry S A R)) (entry : Entry S A R) →
    Legal m slots (history ++ entry ∷ []) ↔ (Legal m slots history × MayFollow m slots (state_of m history) entry)

-- and the state is then the next one
abbrev pub GoesOnTo : {S A R : Type 0} → Meaning S A R → Type 0
GoesOnTo {S} {A} {R} m =
    (history : List (Entry S A R)) (entry : Entry S A R) → state_of m (history ++ entry ∷ []) ≡ after m (state_of m history) entry

-- the entries of a number in two lists, one behind the other
abbrev pub ByAppend : (S A R : Type 0) → Type 0
ByAppend S A R = (number : ℕ) (xs ys : List (Entry S A R)) → by number (xs ++ ys) ≡ by number xs ++ by number ys

-- prefixes of prefixes are prefixes
abbrev pub PrefixesNest : (S A R : Type 0) → Type 0
PrefixesNest S A R = (first second third : List (Entry S A R)) → IsPrefix first second → IsPrefix second third → IsPrefix first third

-- two legal histories of the same acts are one: the replies follow from the acts
abbrev pub ActsDecide : {S A R : Type 0} → Meaning S A R → ℕ → Type 0
ActsDecide {S} {A} {R} m slots =
    (history other : List (Entry S A R)) → Legal m slots history → Legal m slots other → asked_in history ≡ asked_in other → history ≡ other
