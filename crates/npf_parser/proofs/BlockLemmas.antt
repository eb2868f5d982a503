-- What a loop over the items of a block knows at each of its turns, and what it has to show.
use Rattle.std.{proofs.Common.{◌≡◌, Bool, true, false, Option, Some, None, Ok, Err, List, [], ◌∷◌, ◌++◌, refl, sym, ap, ◌∙◌, append-nil}, specs.Borrow.Bor}
use Rattle.npf_lexer.specs.declared.token.Token.{Token}
use Rattle.npf_phrase.specs.{Phrase.{Reading, head}, Grammar.{Grammar, meaning, preceded, unless, block_of}}
use Rattle.npf_phrase.proofs.{ListLemmas.{extend, goes_on, ends_with, fails_at, left_out, not_left_out}, TestLemmas.advances}
use Rattle.npf_parser_values.specs.{declared.stop.Stop.{Stop, TheVariants.{Before, NoMemory}}, Answer.{Answers, Begins}, Token.separator}

-- a block, whose items may be empty
module _ {A : Type 0} (closes : Option Token → Bool) (g : Grammar Token A) (is : advances (preceded separator (unless closes g)) ≡ true)
    (all : Reading Token (List A)) (done : List A) (ts : List Token) (so_far : all ≡ extend done ((meaning (block_of separator closes g)).read ts)) where
  pub block_skips : (vs : Bor (List Token)) → true ≡ closes (head ts) → Begins separator ts (Some vs) → all ≡ extend done ((meaning (block_of separator closes g)).read vs.now)
  block_skips vs closed begins =
      goes_on separator (unless closes g) is refl all done ts so_far None ts vs.now tt (left_out closes g ts (sym closed)) begins.0 begins.1
      ∙ ap (λ items. extend items ((meaning (block_of separator closes g)).read vs.now)) (append-nil done)

  pub block_closes : true ≡ closes (head ts) → Begins separator ts None → all ≡ Ok (done, ts)
  block_closes closed lacks = ends_with separator (unless closes g) is refl all done ts so_far None ts (left_out closes g ts (sym closed)) lacks.0 ∙ ap (λ items. Ok (items, ts)) (append-nil done)

  pub block_goes : (a : A) (us vs : Bor (List Token)) → false ≡ closes (head ts) → (meaning g).read ts ≡ Ok (a, us.now) →
      Begins separator us.now (Some vs) → all ≡ extend (done ++ a ∷ []) ((meaning (block_of separator closes g)).read vs.now)
  block_goes a us vs stands reads begins =
      goes_on separator (unless closes g) is refl all done ts so_far (Some a) us.now vs.now tt (not_left_out closes g ts (Ok (a, us.now)) (sym stands) reads) begins.0 begins.1

  pub block_ends : (a : A) (us : Bor (List Token)) → false ≡ closes (head ts) → (meaning g).read ts ≡ Ok (a, us.now) → Begins separator us.now None → all ≡ Ok (done ++ a ∷ [], us.now)
  block_ends a us stands reads lacks = ends_with separator (unless closes g) is refl all done ts so_far (Some a) us.now (not_left_out closes g ts (Ok (a, us.now)) (sym stands) reads) lacks.0

  pub block_fails : (stop : Stop) → false ≡ closes (head ts) → Answers ((meaning g).read ts) (Err stop) → Answers all (Err stop)
  block_fails (Before at) stands fails = fails_at separator (unless closes g) is refl all done ts so_far at.now (not_left_out closes g ts (Err at.now) (sym stands) fails)
  block_fails NoMemory stands fails = tt
