-- What the code answers.
use Rattle.std.specs.Prelude.{◌≡◌, ⊤, true, false, Option, Some, None, Result, Ok, Err, List}
use Rattle.std.specs.Borrow.{Bor}
use Rattle.npf_faults.specs.declared.fault.Fault.TheVariants.{Expected}
use Rattle.npf_faults.specs.declared.fault.Refused.{Refused}
use Rattle.npf_lexer.specs.declared.token.Token.{Token}
use Rattle.npf_phrase.specs.Phrase.{Reading, head}
use Rattle.npf_phrase.specs.Grammar.{Grammar, meaning}
use Rattle.npf_parser_values.specs.declared.stop.Stop.{Stop}
use Rattle.npf_parser_values.specs.declared.stop.Stop.TheVariants.{Before, NoMemory}
use Rattle.npf_parser_values.specs.Token.{place_of}

-- what was read, or where reading stops; want of memory says nothing
abbrev pub Answers : {A : Type 0} → Reading Token A → Result (A × Bor (List Token)) Stop → Type 0
Answers reading (Ok read) = reading ≡ Ok (read.0, read.1.now)
Answers reading (Err (Before at)) = reading ≡ Err at.now
Answers reading (Err NoMemory) = ⊤

-- the same, where no memory is taken and none can be wanted
abbrev pub AnswersAlone : {A : Type 0} → Reading Token A → Result (A × Bor (List Token)) Stop → Type 0
AnswersAlone reading (Ok read) = reading ≡ Ok (read.0, read.1.now)
AnswersAlone reading (Err (Before at)) = reading ≡ Err at.now
AnswersAlone reading (Err NoMemory) = ⊥

-- the tokens behind what has to stand first
abbrev pub GoesOn : Reading Token ⊤ → Result (Bor (List Token)) Stop → Type 0
GoesOn reading (Ok rest) = reading ≡ Ok (tt, rest.now)
GoesOn reading (Err (Before at)) = reading ≡ Err at.now
GoesOn reading (Err NoMemory) = ⊥

-- the tokens behind a phrase, if it begins here
abbrev pub Begins : Grammar Token ⊤ → List Token → Option (Bor (List Token)) → Type 0
Begins g ts (Some rest) = ((meaning g).starts (head ts) ≡ true) × ((meaning g).read ts ≡ Ok (tt, rest.now))
Begins g ts None = ((meaning g).starts (head ts) ≡ false) × ((meaning g).read ts ≡ Err ts)

-- what a phrase says and the tokens behind it, if it begins here
abbrev pub Finds : {A : Type 0} → Grammar Token A → List Token → Option (A × Bor (List Token)) → Type 0
Finds g ts (Some read) = ((meaning g).starts (head ts) ≡ true) × ((meaning g).read ts ≡ Ok (read.0, read.1.now))
Finds g ts None = ((meaning g).starts (head ts) ≡ false) × ((meaning g).read ts ≡ Err ts)

abbrev pub refused_by : Stop → Refused
refused_by (Before at) = Refused.Fault (record { span = place_of at.now; fault = Expected })
refused_by NoMemory = Refused.NoMemory
