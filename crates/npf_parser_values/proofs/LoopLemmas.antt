-- What a loop over tokens knows at each of its turns, and what it has to show.
use Rattle.std.{proofs.Common.{◌≡◌, true, false, Some, None, Ok, Err, List, [], ◌∷◌, ◌++◌, refl, ap, ◌∙◌}, specs.{Bool.⊤, Borrow.Bor}}
use Rattle.npf_lexer.specs.declared.token.Token.{Token}
use Rattle.npf_phrase.specs.{Phrase.{Reading, ◌>>=◌, with_item}, Grammar.{Grammar, meaning, making, any_number, preceded, list_of}}
use Rattle.npf_phrase.proofs.{GrammarLemmas.settled, ListLemmas.{extend, goes_on, ends_with, fails_at}, TestLemmas.advances, NumberLemmas.number_step}
use Rattle.npf_parser_values.specs.{declared.stop.Stop.{Stop, TheVariants.{Before, NoMemory}}, Answer.{Answers, Begins}}

nothing_kept : (r : Reading Token (List ⊤)) → (with_item tt r >>= (λ a. Ok (tt {0}, a.1))) ≡ (r >>= (λ a. Ok (tt {0}, a.1)))
nothing_kept (Ok r) = refl
nothing_kept (Err at) = refl

-- as many of a kind as stand there, of which nothing is kept
module _ (g : Grammar Token ⊤) (is : advances g ≡ true) (full : (meaning g).nullable ≡ false) where
  abbrev pub passing : Grammar Token ⊤
  passing = making (λ _ _. tt) (any_number g)

  pub pass_goes : (ts : List Token) (vs : Bor (List Token)) → Begins g ts (Some vs) → (meaning passing).read ts ≡ (meaning passing).read vs.now
  pass_goes ts vs begins =
      ap (λ r. r >>= (λ a. Ok (tt {0}, a.1)))
      (number_step (meaning g) (settled g is) full ts true begins.0 ∙ ap (λ r. r >>= (λ a. with_item a.0 ((meaning (any_number g)).read a.1))) begins.1)
      ∙ nothing_kept ((meaning (any_number g)).read vs.now)

  pub pass_ends : (ts : List Token) → Begins g ts None → (meaning passing).read ts ≡ Ok (tt, ts)
  pass_ends ts begins = ap (λ r. r >>= (λ a. Ok (tt {0}, a.1))) (number_step (meaning g) (settled g is) full ts false begins.0)

-- a list with a sign between its items
module _ {A : Type 0} (sep : Grammar Token ⊤) (g : Grammar Token A) (is : advances (preceded sep (making (λ _ a. Some a) g)) ≡ true) (full : (meaning sep).nullable ≡ false)
    (all : Reading Token (List A)) (done : List A) (ts : List Token) (so_far : all ≡ extend done ((meaning (list_of sep g)).read ts)) where
  there : (r : Reading Token A) → (meaning g).read ts ≡ r → (meaning (making (λ _ a. Some a) g)).read ts ≡ (r >>= (λ a. Ok (Some a.0, a.1)))
  there r reads = ap (λ r. r >>= (λ a. Ok (Some a.0, a.1))) reads

  pub list_goes : (a : A) (us vs : Bor (List Token)) → (meaning g).read ts ≡ Ok (a, us.now) → Begins sep us.now (Some vs) → all ≡ extend (done ++ a ∷ []) ((meaning (list_of sep g)).read vs.now)
  list_goes a us vs reads begins = goes_on sep (making (λ _ a. Some a) g) is full all done ts so_far (Some a) us.now vs.now tt (there (Ok (a, us.now)) reads) begins.0 begins.1

  pub list_ends : (a : A) (us : Bor (List Token)) → (meaning g).read ts ≡ Ok (a, us.now) → Begins sep us.now None → all ≡ Ok (done ++ a ∷ [], us.now)
  list_ends a us reads lacks = ends_with sep (making (λ _ a. Some a) g) is full all done ts so_far (Some a) us.now (there (Ok (a, us.now)) reads) lacks.0

  pub list_fails : (stop : Stop) → Answers ((meaning g).read ts) (Err stop) → Answers all (Err stop)
  list_fails (Before at) fails = fails_at sep (making (λ _ a. Some a) g) is full all done ts so_far at.now (there (Err at.now) fails)
  list_fails NoMemory fails = tt
