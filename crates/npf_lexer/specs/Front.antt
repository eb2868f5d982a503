-- What begins at a place of a text of npf.conf(5): one case for each class of byte.
use Rattle.std.specs.Prelude.{◌≡◌, ◌≤◌, ℕ, ◌+◌, ◌-◌, ◌==◌, ⊤, MatchBool, Option, Some, None, if◌then◌else◌, List, [], ◌∷◌, length, take, drop, slice_index}
use Rattle.std.specs.List.{prefix_len}
use Rattle.npf_types.specs.declared.limits.TheConstants.{MAX_TEXT_BYTES}
use Rattle.npf_lexer.specs.declared.byte_class.ByteClass.{ByteClass}
use Rattle.npf_lexer.specs.declared.byte_class.ByteClass.TheVariants.{Blank, LineFeed, Semicolon, Backslash, Comment, Quote, Dollar, Run, Other}
use Rattle.npf_faults.specs.declared.fault.Fault.{Fault}
use Rattle.npf_faults.specs.declared.fault.Fault.TheVariants.{BadByte, OpenString, NumberTooLarge}
use Rattle.npf_lexer.specs.declared.front.Front.{Front}
use Rattle.npf_lexer.specs.declared.front.Front.TheVariants.{End, Skipped, Found, Faulty}
use Rattle.npf_lexer.specs.declared.place.TextPlace.{TextPlace}
use Rattle.npf_lexer.specs.declared.run.RunKind.{RunKind as RunType}
use Rattle.npf_lexer.specs.declared.run.RunKind.TheVariants as Runs
use Rattle.npf_lexer.specs.declared.token.Sign.{Sign}
use Rattle.npf_lexer.specs.declared.token.Sign.TheVariants.{Colon}
use Rattle.npf_lexer.specs.declared.token.TokenKind.{TokenKind}
use Rattle.npf_lexer.specs.declared.token.TokenKind.TheVariants as Kind
use Rattle.npf_lexer.specs.ByteClass.{byte_class, is_line_byte, is_string_byte, is_variable_start, is_variable_byte}
use Rattle.npf_lexer.specs.Place.{along, over_line, span_of}
use Rattle.npf_lexer.specs.Run.{run_len, ReadsRun}
use Rattle.npf_lexer.specs.Sign.{sign_text, sign_at}

-- `n` bytes of this line that are no token
abbrev pub skipped : ℕ → TextPlace → Front
skipped n p = Skipped n (along n p)

-- a token of `n` bytes
abbrev pub token_front : TokenKind → ℕ → TextPlace → Front
token_front kind n p = Found (record { kind = kind; span = span_of n p }) n (along n p)

-- a line feed, which is a token and ends its line
abbrev pub line_feed : TextPlace → Front
line_feed p = Found (record { kind = Kind.LineFeed; span = span_of 1 p }) 1 (over_line 1 p)

-- a fault of `n` bytes
abbrev pub faulty : Fault → ℕ → TextPlace → Front
faulty fault n p = Faulty (record { span = span_of n p; fault = fault })

-- a backslash directly before a line feed parts tokens
abbrev pub backslash_front : TextPlace → List ℕ → Front
backslash_front p text = if slice_index text 1 == 10 then Skipped 2 (over_line 2 p) else faulty BadByte 1 p

-- a string goes on to the next quote of its line, which has to be there
abbrev pub string_front : TextPlace → List ℕ → Front
string_front p text =
    let n = prefix_len is_string_byte (drop 1 text) in
    if slice_index (drop 1 text) n == 34 then token_front (Kind.Str (take n (drop 1 text))) (n + 2) p else faulty OpenString 1 p

-- a variable is a `$` and a name, a letter or `_` first
abbrev pub variable_front : TextPlace → List ℕ → Front
variable_front p text =
    let n = prefix_len is_variable_byte (drop 1 text) in
    if is_variable_start (slice_index text 1) then token_front (Kind.Var (take n (drop 1 text))) (n + 1) p else faulty BadByte 1 p

-- a sign, or nothing
abbrev pub sign_front : TextPlace → Option Sign → Front
sign_front p (Some sign) = token_front (Kind.Sign sign) (length (sign_text sign)) p
sign_front p None = faulty BadByte 1 p

-- a run of `n` bytes
abbrev pub run_front : ℕ → TextPlace → RunType → Front
run_front n p (Runs.Kind kind) = token_front kind n p
run_front n p Runs.TooLarge = faulty NumberTooLarge n p
run_front n p Runs.Nothing = faulty BadByte 1 p

-- a run, or where it has no byte but its last `:` that sign
abbrev pub IsRunFront : TextPlace → List ℕ → Front → Type 0
IsRunFront p text front =
    MatchBool (run_len text == 0)
    (front ≡ token_front (Kind.Sign Colon) 1 p)
    ((run : RunType) × ReadsRun (take (run_len text) text) run × (front ≡ run_front (run_len text) p run))

abbrev pub BeginsWith : ByteClass → TextPlace → List ℕ → Front → Type 0
BeginsWith Blank p text front = front ≡ skipped 1 p
BeginsWith LineFeed p text front = front ≡ line_feed p
BeginsWith Semicolon p text front = front ≡ token_front Kind.Semicolon 1 p
BeginsWith Backslash p text front = front ≡ backslash_front p text
BeginsWith Comment p text front = front ≡ skipped (prefix_len is_line_byte text) p
BeginsWith Quote p text front = front ≡ string_front p text
BeginsWith Dollar p text front = front ≡ variable_front p text
BeginsWith Run p text front = IsRunFront p text front
BeginsWith Other p text front = front ≡ sign_front p (sign_at text)

-- what begins at this place, where the text goes on like this
abbrev pub Begins : TextPlace → List ℕ → Front → Type 0
Begins p [] front = front ≡ End
Begins p (b ∷ bs) front = BeginsWith (byte_class b) p (b ∷ bs) front

-- the text from this place on is short enough to be counted
pub record Fits (p : TextPlace) (len : ℕ) : Type 0 where
  pub bytes : p.at + len ≤ MAX_TEXT_BYTES
  pub line : p.line ≤ p.at + 1
  pub col : p.col ≤ p.at + 1

-- a step goes over a byte at least
pub record Advances (n : ℕ) (q : TextPlace) (len : ℕ) : Type 0 where
  pub some : 1 ≤ n
  pub within : n ≤ len
  pub counted : Fits q (len - n)

abbrev pub AdvancesWithin : ℕ → Front → Type 0
AdvancesWithin len (Skipped n q) = Advances n q len
AdvancesWithin len (Found _ n q) = Advances n q len
AdvancesWithin _ _ = ⊤
