-- What is said of a fault below the line of the text, by the text.
use Rattle.std.specs.Prelude.{◌≡◌, ℕ, if◌then◌else◌, Ok, Err, List, [], ◌∷◌, ◌++◌, drop}
use Rattle.npf_types.specs.Reading.{IsOnly}
use Rattle.npf_types.specs.declared.span.Span.{Span}
use Rattle.npf_faults.specs.declared.fault.ConfFault.{ConfFault}
use Rattle.npf_faults.specs.declared.fault.Fault.{Fault}
use Rattle.npf_faults.specs.declared.fault.Fault.TheVariants.{BadByte, BadMap, Expected}
use Rattle.npf_lexer.specs.Lexer.{IsLexed}
use Rattle.npf_lexer.specs.declared.token.Token.{Token}
use Rattle.npf_lexer.specs.declared.token.TokenKind.{TokenKind}
use Rattle.npf_model.specs.declared.iface.Iface.{Iface}
use Rattle.npf_parser.specs.Parse.{HasMeaning, Parses}
use Rattle.npf_parser.specs.Stmt.{file}
use Rattle.npf_syntax.specs.declared.stmt.Tree.{Tree}
use Rattle.npf_why.specs.declared.sentence.Sentence.{Sentence}
use Rattle.npf_why.specs.declared.sentence.Sentence.TheVariants as Say
use Rattle.npf_why.specs.Candidate.{candidate_kinds}
use Rattle.npf_why.specs.Halt.{sentence_at}
use Rattle.npf_why.specs.Sentence.{sentence_of}
use Rattle.npf_why.specs.Stand.{ThoseThatStand, before}
use Rattle.npf_why.specs.Tokens.{tokens_at}
use Rattle.npf_ctl_why.specs.Listed.{standing_text}
use Rattle.npf_ctl_why.specs.Map.{ExplainsMap}
use Rattle.npf_ctl_why.specs.Names.{near_text}
use Rattle.npf_ctl_why.specs.Sentences.{is_hardware_address, sentence_text, shown_at}

-- something of which this holds was added to what stood there
abbrev pub PutsBehind : (List ℕ → Type 0) → List ℕ → List ℕ → Type 0
PutsBehind Holds old new = (out : List ℕ) × (new ≡ old ++ out) × Holds out

abbrev pub byte_sentence : List ℕ → Sentence
byte_sentence bytes = if is_hardware_address bytes then Say.HardwareAddress else Say.NoToken

-- the sentence on the first of these tokens
abbrev pub halt_sentence : List Token → List TokenKind → Sentence
halt_sentence [] kinds = Say.TextEnds
halt_sentence (token ∷ _) kinds = sentence_at token.kind kinds

-- where the grammar halts: the sentence on the token there, and what could stand instead of it
abbrev pub ExplainsHalt : List ℕ → List Token → Span → List ℕ → Type 0
ExplainsHalt text tokens span out =
    (kinds : List TokenKind) × ThoseThatStand (before span.at tokens) candidate_kinds kinds
    × (out ≡ sentence_text (halt_sentence (tokens_at span.at tokens) kinds) (shown_at text span) ++ standing_text kinds)

-- what is said of a place where something else was expected: the value of a variable is unfit, where the grammar has no halt
pub data ExplainsExpected (text : List ℕ) (span : Span) (out : List ℕ) : Type 0 where
  value : (tokens : List Token) (tree : Tree) → IsOnly IsLexed text (Ok tokens) → Parses tokens tree → out ≡ sentence_text Say.VariableUnfit (shown_at text span) →
      ExplainsExpected text span out
  halt : (tokens : List Token) → IsOnly IsLexed text (Ok tokens) → ¬ HasMeaning file tokens → ExplainsHalt text tokens span out → ExplainsExpected text span out
  no_tokens : (fault : ConfFault) → IsOnly IsLexed text (Err fault) → out ≡ sentence_text Say.NoToken [] → ExplainsExpected text span out

-- the line of near names, where the text has a tree, and else nothing
pub data NamesNear (ifaces : List Iface) (text : List ℕ) (fault : ConfFault) (out : List ℕ) : Type 0 where
  read : (tokens : List Token) (tree : Tree) → IsOnly IsLexed text (Ok tokens) → Parses tokens tree → out ≡ near_text ifaces tokens tree fault → NamesNear ifaces text fault out
  halted : (tokens : List Token) → IsOnly IsLexed text (Ok tokens) → ¬ HasMeaning file tokens → out ≡ [] → NamesNear ifaces text fault out
  no_tokens : (other : ConfFault) → IsOnly IsLexed text (Err other) → out ≡ [] → NamesNear ifaces text fault out

-- the sentence on the fault, and near names
abbrev pub ExplainsNamed : List Iface → List ℕ → ConfFault → List ℕ → Type 0
ExplainsNamed ifaces text fault out =
    (names : List ℕ) × (out ≡ sentence_text (sentence_of fault.fault) (shown_at text fault.span) ++ names) × NamesNear ifaces text fault names

abbrev pub ExplainsBy : Fault → List Iface → List ℕ → ConfFault → List ℕ → Type 0
ExplainsBy BadByte ifaces text fault out = out ≡ sentence_text (byte_sentence (drop fault.span.at text)) []
ExplainsBy Expected ifaces text fault out = ExplainsExpected text fault.span out
ExplainsBy BadMap ifaces text fault out = ExplainsMap ifaces text fault.span.at out
ExplainsBy _ ifaces text fault out = ExplainsNamed ifaces text fault out

-- what is said of a fault
abbrev pub ExplainsFault : List Iface → List ℕ → ConfFault → List ℕ → Type 0
ExplainsFault ifaces text fault out = ExplainsBy fault.fault ifaces text fault out
