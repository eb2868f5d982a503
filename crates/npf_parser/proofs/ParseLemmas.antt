-- What a parser answers, of any grammar in which nothing that may be empty is repeated and whose examples stand apart.
use Rattle.std.proofs.Common.{◌≡◌, ◌⊎◌, inl, inr, true, false, None, Ok, Err, List, [], ◌++◌, refl, sym, ap, ◌∙◌}
use Rattle.npf_types.specs.declared.span.Span.{Span}
use Rattle.npf_lexer.specs.declared.token.Token.{Token}
use Rattle.npf_phrase.specs.{Phrase.Reading, Grammar.{Grammar, meaning, loose}}
use Rattle.npf_phrase.proofs.GrammarLemmas.{settled, read_takes, read_stopped, one_meaning, one_stop, never_both, hopeless, halts_unfit}
use Rattle.npf_phrase.proofs.{SettledLemmas.{Outcome, Settled}, TestLemmas.{advances, fine}, LooseLemmas.viable}
use Rattle.npf_parser_values.specs.{declared.stop.Stop.{Stop, TheVariants.{Before, NoMemory}}, Answer.{Answers, refused_by}, Token.place_of}
use Rattle.npf_parser.specs.Parse.{Means, HasMeaning, HaltsAt, StopsAt, OnFault, AnswersUnlessMemory, FaultsUnlessMemory}

module _ {A : Type 0} (g : Grammar Token A) (is : advances g ≡ true) where
  it : Settled (meaning g)
  it = settled g is

  pub one_thing : (tokens : List Token) (a b : A) → Means g tokens a → Means g tokens b → a ≡ b
  one_thing tokens a b means or_that = one_meaning (meaning g) it tokens a b means.0 or_that.0 means.1 or_that.1

  pub one_place : (tokens : List Token) (one other : Span) → HaltsAt g tokens one → HaltsAt g tokens other → one ≡ other
  one_place tokens one other here there = here.place ∙ ap place_of (one_stop (meaning g) it tokens here.at there.at here.halts there.halts) ∙ sym there.place

  pub not_both : (tokens : List Token) (span : Span) → HasMeaning g tokens → ¬ HaltsAt g tokens span
  not_both tokens span means halts = never_both (meaning g) it tokens means.0 means.1.0 halts.at means.1.1 halts.halts

  by_outcome : (tokens : List Token) (r : Reading Token A) → Outcome (meaning g) tokens r → HasMeaning g tokens ⊎ ((span : Span) × HaltsAt g tokens span)
  by_outcome tokens (Ok r) taken = inl (r.0, (r.1, taken))
  by_outcome tokens (Err at) stopped = inr (place_of at, record { at = at; halts = stopped; place = refl })

  pub one_or_other : (tokens : List Token) → HasMeaning g tokens ⊎ ((span : Span) × HaltsAt g tokens span)
  one_or_other tokens = by_outcome tokens ((meaning g).read tokens) (it.outcome tokens)

  module _ (tokens : List Token) where
    pub means : (a : A) (rest : List Token) → (meaning g).read tokens ≡ Ok (a, rest) → Means g tokens a
    means a rest reads = (rest, read_takes (meaning g) it tokens a rest reads)

    pub halts : (stop : Stop) → Answers ((meaning g).read tokens) (Err stop) → OnFault {A = A} (Err (refused_by stop)) (λ fault. HaltsAt g tokens fault.span)
    halts (Before at) reads = record { at = at.now; halts = read_stopped (meaning g) it tokens at.now reads; place = refl }
    halts NoMemory reads = tt

    pub refused : (stop : Stop) → Answers ((meaning g).read tokens) (Err stop) → OnFault {A = A} (Err (refused_by stop)) (λ fault. ¬ HasMeaning g tokens)
    refused (Before at) reads = λ has. not_both tokens (place_of at.now) has (halts (Before at) reads)
    refused NoMemory reads = tt

    pub complete : (stop : Stop) → Answers ((meaning g).read tokens) (Err stop) → (a : A) → Means g tokens a → AnswersUnlessMemory a (Err (refused_by stop))
    complete (Before at) reads a that = refused (Before at) reads (a, that)
    complete NoMemory reads a that = tt

    pub exactly : (stop : Stop) → Answers ((meaning g).read tokens) (Err stop) → (span : Span) → HaltsAt g tokens span → FaultsUnlessMemory {A = A} span (Err (refused_by stop))
    exactly (Before at) reads span there = one_place tokens (place_of at.now) span (halts (Before at) reads) there
    exactly NoMemory reads span there = tt

  module _ (apart : fine (loose g) ≡ true) (ends : (meaning (loose g)).more None ≡ false) where
    pub stops_there : (tokens : List Token) (span : Span) → HaltsAt g tokens span → StopsAt g tokens span
    stops_there tokens span there =
        let it_stops = there.halts in
        let finished = viable g apart ends it_stops.front it_stops.unfit _ it_stops.halts in
        record {
          front = it_stops.front;
          unfit = it_stops.unfit;
          behind = it_stops.behind;
          parts = it_stops.parts ∙ ap (λ us. it_stops.front ++ us) it_stops.place;
          place = there.place ∙ ap place_of it_stops.place;
          fault = halts_unfit g it_stops.front it_stops.unfit _ it_stops.halts;
          viable = (finished.0, (finished.1, ([], finished.2)));
          hopeless = λ other alike has. hopeless (meaning g) it it_stops.front it_stops.unfit it_stops.behind other has.0 has.1.0 it_stops.halts alike has.1.1;
        }

    pub stops : (tokens : List Token) (stop : Stop) → Answers ((meaning g).read tokens) (Err stop) → OnFault {A = A} (Err (refused_by stop)) (λ fault. StopsAt g tokens fault.span)
    stops tokens (Before at) reads = stops_there tokens (place_of at.now) (halts tokens (Before at) reads)
    stops tokens NoMemory reads = tt
