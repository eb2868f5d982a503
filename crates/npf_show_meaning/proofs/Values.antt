-- Values as they are written: addresses, tables and ports.
use Rattle.std.proofs.Common.{◌≡◌, ◌≤◌, ◌<◌, ◌^◌, ℕ, ◌==◌, nat_lt, nat_le, Bool, true, false, if◌then◌else◌, Option, Some, None}
use Rattle.std.proofs.{Common.{unwrap_or, List, [], ◌∷◌, ◌++◌, codes, refl, sym, ap, subst, ◌∙◌, arith}, lemmas.Bool.Decides.nat_tests}
use Rattle.npf_types.specs.{declared.{address.Addr.Addr, prefix.Prefix.Prefix, span.Span.Span}, Address.width, NameText.is_name}
use Rattle.npf_lexer.specs.declared.token.{Sign.Sign, Token.Token, TokenKind.TokenKind}
use Rattle.npf_lexer.specs.declared.token.Sign.TheVariants as Signs
use Rattle.npf_lexer.specs.declared.token.TokenKind.TheVariants as Kind
use Rattle.npf_syntax.specs.declared.{value.Value.Value, word.{Address.Address, Number.Number, Word.Word}}
use Rattle.npf_model.specs.declared.iface.Iface.{Iface}
use Rattle.npf_phrase.specs.Grammar.{Grammar, meaning, both, fitted, any_number, preceded, terminated, ◌or◌}
use Rattle.npf_parser_values.specs.Token.{sign, number, address, word, line_feed, gap, spaced, span_of}
use Rattle.npf_parser_values.specs.Value.{number_behind, number_value, address_value, table_value, word_value, function_value, function, variable_value}
use Rattle.npf_parser_values.specs.Value.{string_value, written, value, is_range, is_prefix, is_port, is_port_end, can_stand}
use Rattle.npf_expand_values.specs.Variable.{length_of_block}
use Rattle.npf_show.specs.{Ends.{prefix_pieces, length_pieces, angled, range_pieces, last_pieces}, Piece.{Piece, glued}}
use Rattle.npf_show.specs.Piece as Pieces
use Rattle.npf_show_tokens.proofs.Values.{values_come_back_lem}
use Rattle.npf_show_meaning.proofs.Goes.{Goes, Sees, HeadIn, Anything, at, sees_first, sees_none, token_goes, both_goes, making_goes, preceded_goes, terminated_goes, fitted_goes}
use Rattle.npf_show_meaning.proofs.{Goes.{none_goes, first_goes, second_goes, pure_goes, absent_goes, present_goes, sign_goes, weaker}, Lists.{onto, comma}}
use Rattle.npf_show_meaning.proofs.Says.{SaysNet, SaysTable, SaysRange}

abbrev pub keyword : List ℕ → TokenKind
keyword text = Kind.Word text

-- what stands behind a value
abbrev pub value_stops : Bool → List TokenKind
value_stops true = comma ∷ Kind.Sign Signs.CloseBrace ∷ []
value_stops false = keyword (codes "port") ∷ keyword (codes "to") ∷ keyword (codes "pass") ∷ keyword (codes "apply") ∷
    Kind.LineFeed ∷ Kind.Sign Signs.Right ∷ Kind.Sign Signs.Left ∷ Kind.Sign Signs.Both ∷ []

abbrev pub Behind : Bool → List TokenKind → Type 0
Behind inside to = HeadIn (value_stops inside) to

-- no line feed lies behind a token where it would be passed over
abbrev pub NoGap : Bool → List TokenKind → Type 0
NoGap true to = Sees false (meaning line_feed).starts to
NoGap false to = Unit {0}

pub no_gap : (inside : Bool) (k : TokenKind) (ks : List TokenKind) → ((s : Span) → (meaning line_feed).starts (Some (at k s)) ≡ false) → NoGap inside (k ∷ ks)
no_gap true k ks is = sees_first (meaning line_feed).starts false k ks is
no_gap false k ks is = tt

behind_gap : (inside : Bool) (to : List TokenKind) → Behind inside to → NoGap inside to
behind_gap true to here = sees_none (meaning line_feed).starts (value_stops true) to (λ s. refl) here
behind_gap false to here = tt

gap_goes : (inside : Bool) (to : List TokenKind) → NoGap inside to → Goes (gap inside) Anything to to
gap_goes true to none = making_goes (λ _ _. tt) (any_number line_feed) Anything Anything to to (λ ts a is. tt) (none_goes line_feed refl refl Anything to none tt)
gap_goes false to none = pure_goes tt Anything to tt

pub spaced_goes : {A : Type 0} (inside : Bool) (g : Grammar Token A) (P : A → Type 0) (from to : List TokenKind) → NoGap inside to → Goes g P from to → Goes (spaced inside g) P from to
spaced_goes inside g P from to none goes = terminated_goes g (gap inside) P Anything from to to goes (gap_goes inside to none)

-- a number, or nothing, behind a sign
abbrev pub IsNumber : ℕ → Number → Type 0
IsNumber n number = number.value ≡ n

pub number_goes : (n : ℕ) (to : List TokenKind) → Goes number (IsNumber n) (Kind.Number n ∷ to) to
number_goes n to = token_goes _ _ (IsNumber n) (Kind.Number n) to (λ s. record { value = n; span = s }) (λ s. refl) (λ s. refl)

signed_goes : (joining : Sign) (inside : Bool) (n : ℕ) (to : List TokenKind) (P : Option Number → Type 0)
    → ((s : Span) → (meaning line_feed).starts (Some (at (Kind.Number n) s)) ≡ false)
    → ((s : Span) → (meaning (preceded (spaced inside (sign joining)) (spaced inside number))).starts (Some (at (Kind.Sign joining) s)) ≡ true) → NoGap inside to
    → ((number : Number) → number.value ≡ n → P (Some number)) → Goes (number_behind joining inside) P (Kind.Sign joining ∷ Kind.Number n ∷ to) to
signed_goes joining inside n to P plain begins none holds =
    let first = preceded (spaced inside (sign joining)) (spaced inside number) in
    present_goes first P (Kind.Sign joining ∷ Kind.Number n ∷ to) to (sees_first (meaning first).starts true (Kind.Sign joining) (Kind.Number n ∷ to) begins)
    (weaker first (IsNumber n) (λ a. P (Some a)) (Kind.Sign joining ∷ Kind.Number n ∷ to) to holds
    (preceded_goes (spaced inside (sign joining)) (spaced inside number) Anything (IsNumber n) (Kind.Sign joining ∷ Kind.Number n ∷ to) (Kind.Number n ∷ to) to
    (spaced_goes inside (sign joining) Anything (Kind.Sign joining ∷ Kind.Number n ∷ to) (Kind.Number n ∷ to) (no_gap inside (Kind.Number n) to plain) (sign_goes joining (Kind.Number n ∷ to)))
    (spaced_goes inside number (IsNumber n) (Kind.Number n ∷ to) to none (number_goes n to))))

-- the length of a prefix, left out where it is the full one
abbrev IsLength : Addr → ℕ → Option Number → Type 0
IsLength addr len None = len ≡ width addr
IsLength addr len (Some number) = number.value ≡ len

length_value : (addr : Addr) (len : ℕ) (o : Option Number) → IsLength addr len o → unwrap_or (length_of_block o) (width addr) ≡ len
length_value addr len None is = sym is
length_value addr len (Some number) is = is

is_prefix_by : (a : Address) (len : ℕ) (o : Option Number) → len ≤ width a.addr → IsLength a.addr len o → is_prefix (a, o) ≡ true
is_prefix_by a len None short is = refl
is_prefix_by a len (Some number) short is = rw is (grind (arith, nat_tests))

length_goes : (inside : Bool) (addr : Addr) (len : ℕ) (full : Bool) → (len == width addr) ≡ full → (to : List TokenKind) → Behind inside to
    → Goes (number_behind Signs.Slash inside) (IsLength addr len) (onto (if full then [] else glued (Pieces.Sign (codes "/")) ++ glued (Pieces.Number len)) to) to
length_goes true addr len true is to here =
    absent_goes (preceded (spaced true (sign Signs.Slash)) (spaced true number)) (IsLength addr len) to (sees_none _ (value_stops true) to (λ s. refl) here) (grind (arith, nat_tests))
length_goes false addr len true is to here =
    absent_goes (preceded (spaced false (sign Signs.Slash)) (spaced false number)) (IsLength addr len) to (sees_none _ (value_stops false) to (λ s. refl) here) (grind (arith, nat_tests))
length_goes inside addr len false is to here =
    signed_goes Signs.Slash inside len to (IsLength addr len) (λ s. refl) (λ s. refl) (behind_gap inside to here) (λ number same. same)

abbrev IsAddress : Addr → Address → Type 0
IsAddress addr a = a.addr ≡ addr

pub address_goes : (addr : Addr) (to : List TokenKind) → Goes address (IsAddress addr) (Kind.Address addr ∷ to) to
address_goes addr to = token_goes _ _ (IsAddress addr) (Kind.Address addr) to (λ s. record { addr = addr; span = s }) (λ s. refl) (λ s. refl)

-- behind an address no line feed stands inside braces
length_gap : (inside : Bool) (len : ℕ) (full : Bool) (to : List TokenKind) → Behind inside to
    → NoGap inside (onto (if full then [] else glued (Pieces.Sign (codes "/")) ++ glued (Pieces.Number len)) to)
length_gap inside len true to here = behind_gap inside to here
length_gap inside len false to here = no_gap inside (Kind.Sign Signs.Slash) (Kind.Number len ∷ to) (λ s. refl)

module _ (ifaces : List Iface) where
  net_says : (prefix : Prefix) (a : Address) (o : Option Number) (span : Span) → a.addr ≡ prefix.addr → IsLength prefix.addr prefix.len o → SaysNet ifaces prefix (Value.Address a o span)
  net_says prefix a o span same is = record {
    address = a;
    written = o;
    span = span;
    form = refl;
    block = rw (same, length_value prefix.addr prefix.len o is) (values_come_back_lem.prefix prefix);
  }

  address_value_goes : (inside : Bool) (prefix : Prefix) (to : List TokenKind) → Behind inside to
      → Goes (address_value inside) (SaysNet ifaces prefix) (onto (prefix_pieces prefix) to) to
  unfolding address_value
  address_value_goes inside prefix to here =
      let behind = onto (length_pieces prefix) to in
      making_goes (λ ts a. Value.Address a.0 a.1 (span_of ts)) (fitted is_prefix (both (spaced inside address) (number_behind Signs.Slash inside)))
      (λ a. IsAddress prefix.addr a.0 × IsLength prefix.addr prefix.len a.1) (SaysNet ifaces prefix) (Kind.Address prefix.addr ∷ behind) to
      (λ ts a is. net_says prefix a.0 a.1 (span_of ts) is.0 is.1)
      (fitted_goes is_prefix (both (spaced inside address) (number_behind Signs.Slash inside)) (λ a. IsAddress prefix.addr a.0 ×
      IsLength prefix.addr prefix.len a.1) (Kind.Address prefix.addr ∷ behind) to
      (λ a is. is_prefix_by a.0 prefix.len a.1 (subst (λ addr. prefix.len ≤ width addr) (sym is.0) prefix.short) (subst (λ addr. IsLength addr prefix.len a.1) (sym is.0) is.1))
      (both_goes (spaced inside address) (number_behind Signs.Slash inside) (IsAddress prefix.addr) (IsLength prefix.addr prefix.len) (Kind.Address prefix.addr ∷ behind) behind to
      (spaced_goes inside address (IsAddress prefix.addr) (Kind.Address prefix.addr ∷ behind) behind
      (length_gap inside prefix.len (prefix.len == width prefix.addr) to here) (address_goes prefix.addr behind))
      (length_goes inside prefix.addr prefix.len (prefix.len == width prefix.addr) refl to here)))

  pub net_goes : (role : _) → ((a : Address) (o : Option Number) (span : Span) → can_stand role (Value.Address a o span) ≡ true) →
      (inside : Bool) (prefix : Prefix) (to : List TokenKind) → Behind inside to
      → Goes (value role inside) (SaysNet ifaces prefix) (onto (prefix_pieces prefix) to) to
  unfolding value written number_value address_value
  net_goes role stands inside prefix to here =
      let from = onto (prefix_pieces prefix) to in
      fitted_goes (can_stand role) (written inside) (SaysNet ifaces prefix) from to (λ v is. ap (can_stand role) is.form ∙ stands is.address is.written is.span)
      (second_goes (meaning (number_value inside)).starts (number_value inside)
      (address_value inside or word_value inside or variable_value inside or string_value inside or table_value inside) (SaysNet ifaces prefix) from to
      (sees_first (meaning (number_value inside)).starts false (Kind.Address prefix.addr) (onto (length_pieces prefix) to) (λ s. refl))
      (first_goes (meaning (address_value inside)).starts (address_value inside)
      (word_value inside or variable_value inside or string_value inside or table_value inside) (SaysNet ifaces prefix) from to
      (sees_first (meaning (address_value inside)).starts true (Kind.Address prefix.addr) (onto (length_pieces prefix) to) (λ s. refl))
      (address_value_goes inside prefix to here)))

  abbrev IsWord : List ℕ → Word → Type 0
  IsWord text w = w.text ≡ text

  a_word_goes : (text : List ℕ) (to : List TokenKind) → Goes word (IsWord text) (Kind.Word text ∷ to) to
  a_word_goes text to = token_goes _ _ (IsWord text) (Kind.Word text) to (λ s. record { text = text; span = s }) (λ s. refl) (λ s. refl)

  table_says : (name : List ℕ) (w : Word) (span : Span) → IsWord name w → SaysTable ifaces name (Value.Table w span)
  table_says name w span is = record { word = w; span = span; form = refl; same = is }

  table_value_goes : (inside : Bool) (name : List ℕ) (to : List TokenKind) → is_name name ≡ true → Behind inside to
      → Goes (table_value inside) (SaysTable ifaces name) (onto (angled name) to) to
  unfolding table_value
  table_value_goes inside name to is here =
      let closing = Kind.Sign Signs.Greater ∷ to in
      let behind = Kind.Word name ∷ closing in
      let from = Kind.Sign Signs.Less ∷ behind in
      let ended = terminated (spaced inside word) (spaced inside (sign Signs.Greater)) in
      let inner = preceded (spaced inside (sign Signs.Less)) ended in
      making_goes (λ ts name. Value.Table name (span_of ts)) (fitted (λ name. is_name name.text) inner) (IsWord name) (SaysTable ifaces name) from to (λ ts w same. table_says name w (span_of ts) same)
      (fitted_goes (λ name. is_name name.text) inner (IsWord name) from to (λ w same. ap is_name same ∙ is)
      (preceded_goes (spaced inside (sign Signs.Less)) ended Anything (IsWord name) from behind to
      (spaced_goes inside (sign Signs.Less) Anything from behind (no_gap inside (Kind.Word name) closing (λ s. refl)) (sign_goes Signs.Less behind))
      (terminated_goes (spaced inside word) (spaced inside (sign Signs.Greater)) (IsWord name) Anything behind closing to
      (spaced_goes inside word (IsWord name) behind closing (no_gap inside (Kind.Sign Signs.Greater) to (λ s. refl)) (a_word_goes name closing))
      (spaced_goes inside (sign Signs.Greater) Anything closing to (behind_gap inside to here) (sign_goes Signs.Greater to)))))

  pub table_goes : (role : _) → ((w : Word) (span : Span) → can_stand role (Value.Table w span) ≡ true) → (inside : Bool) (name : List ℕ) (to : List TokenKind) → is_name name ≡ true → Behind inside to
      → Goes (value role inside) (SaysTable ifaces name) (onto (angled name) to) to
  unfolding value written number_value address_value function_value function
  table_goes role stands inside name to is here =
      let from = onto (angled name) to in
      let rest = Kind.Word name ∷ Kind.Sign Signs.Greater ∷ to in
      let none : (test : Option Token → Bool) → ((s : Span) → test (Some (at (Kind.Sign Signs.Less) s)) ≡ false) → Sees false test from = λ test. sees_first test false (Kind.Sign Signs.Less) rest in
      fitted_goes (can_stand role) (written inside) (SaysTable ifaces name) from to (λ v says. ap (can_stand role) says.form ∙ stands says.word says.span)
      (second_goes (meaning (number_value inside)).starts (number_value inside)
      (address_value inside or word_value inside or variable_value inside or string_value inside or table_value inside) (SaysTable ifaces name) from to (none _ (λ s. refl))
      (second_goes (meaning (address_value inside)).starts (address_value inside)
      (word_value inside or variable_value inside or string_value inside or table_value inside) (SaysTable ifaces name) from to (none _ (λ s. refl))
      (second_goes (meaning (word_value inside)).starts (word_value inside) (variable_value inside or string_value inside or table_value inside) (SaysTable ifaces name) from to (none _ (λ s. refl))
      (second_goes (meaning (variable_value inside)).starts (variable_value inside) (string_value inside or table_value inside) (SaysTable ifaces name) from to (none _ (λ s. refl))
      (second_goes (meaning (string_value inside)).starts (string_value inside) (table_value inside) (SaysTable ifaces name) from to (none _ (λ s. refl))
      (table_value_goes inside name to is here))))))

  -- ports
  abbrev IsLast : ℕ × ℕ → Option Number → Type 0
  IsLast range None = range.0 ≡ range.1
  IsLast range (Some number) = number.value ≡ range.1

  pub record IsRange (range : ℕ × ℕ) : Type 0 where
    pub first : range.0 < 2 ^ 16
    pub last : range.1 < 2 ^ 16
    pub forward : range.0 ≤ range.1

  fits_port : (n : ℕ) → n < 2 ^ 16 → nat_lt 65535 n ≡ false
  fits_port n small = grind (arith, nat_tests)

  is_a_port : (n : ℕ) → n < 2 ^ 16 → nat_le n 65535 ≡ true
  is_a_port n small = grind (arith, nat_tests)

  is_range_by : (range : ℕ × ℕ) (first : Number) (o : Option Number) → range.0 ≤ range.1 → IsNumber range.0 first → IsLast range o → is_range (first, o) ≡ true
  is_range_by range first None forward one is = refl
  is_range_by range first (Some last) forward one is = rw (one, is) (grind (arith, nat_tests))

  range_says : (range : ℕ × ℕ) → IsRange range → (first : Number) (o : Option Number) (span : Span) → IsNumber range.0 first → IsLast range o → SaysRange ifaces range (Value.Number first o span)
  range_says range is first None span one same = record {
    first = first;
    last = None;
    span = span;
    form = refl;
    port = rw one (is_a_port range.0 is.first);
    last_port = refl;
    faults = λ values rest. rw (one, fits_port range.0 is.first, rest) refl;
    side = rw (one, fits_port range.0 is.first) refl;
    ports = rw (one, fits_port range.0 is.first) (ap (λ n. Some (range.0, n)) same);
    one = refl;
  }
  range_says range is first (Some last) span one same = record {
    first = first;
    last = Some last;
    span = span;
    form = refl;
    port = rw one (is_a_port range.0 is.first);
    last_port = rw same (is_a_port range.1 is.last);
    faults = λ values rest. rw (one, same, fits_port range.0 is.first, fits_port range.1 is.last, rest) refl;
    side = rw (one, same, fits_port range.0 is.first, fits_port range.1 is.last) refl;
    ports = rw (one, same, fits_port range.0 is.first, fits_port range.1 is.last) refl;
    one = refl;
  }

  last_goes : (inside : Bool) (range : ℕ × ℕ) (same : Bool) → (range.0 == range.1) ≡ same → (to : List TokenKind) → Behind inside to
      → Goes (number_behind Signs.Dash inside) (IsLast range) (onto (if same then [] else glued (Pieces.Sign (codes "-")) ++ glued (Pieces.Number range.1)) to) to
  last_goes true range true is to here =
      absent_goes (preceded (spaced true (sign Signs.Dash)) (spaced true number)) (IsLast range) to (sees_none _ (value_stops true) to (λ s. refl) here) (grind (arith, nat_tests))
  last_goes false range true is to here =
      absent_goes (preceded (spaced false (sign Signs.Dash)) (spaced false number)) (IsLast range) to (sees_none _ (value_stops false) to (λ s. refl) here) (grind (arith, nat_tests))
  last_goes inside range false is to here =
      signed_goes Signs.Dash inside range.1 to (IsLast range) (λ s. refl) (λ s. refl) (behind_gap inside to here) (λ number same. same)

  last_gap : (inside : Bool) (n : ℕ) (same : Bool) (to : List TokenKind) → Behind inside to
      → NoGap inside (onto (if same then [] else glued (Pieces.Sign (codes "-")) ++ glued (Pieces.Number n)) to)
  last_gap inside n true to here = behind_gap inside to here
  last_gap inside n false to here = no_gap inside (Kind.Sign Signs.Dash) (Kind.Number n ∷ to) (λ s. refl)

  number_value_goes : (inside : Bool) (range : ℕ × ℕ) → IsRange range → (to : List TokenKind) → Behind inside to
      → Goes (number_value inside) (SaysRange ifaces range) (onto (range_pieces range) to) to
  unfolding number_value
  number_value_goes inside range is to here =
      let behind = onto (last_pieces range) to in
      let P : Number × Option Number → Type 0 = λ a. IsNumber range.0 a.0 × IsLast range a.1 in
      making_goes (λ ts a. Value.Number a.0 a.1 (span_of ts)) (fitted is_range (both (spaced inside number) (number_behind Signs.Dash inside))) P
      (SaysRange ifaces range) (Kind.Number range.0 ∷ behind) to
      (λ ts a same. range_says range is a.0 a.1 (span_of ts) same.0 same.1)
      (fitted_goes is_range (both (spaced inside number) (number_behind Signs.Dash inside)) P (Kind.Number range.0 ∷ behind) to
      (λ a same. is_range_by range a.0 a.1 is.forward same.0 same.1)
      (both_goes (spaced inside number) (number_behind Signs.Dash inside) (IsNumber range.0) (IsLast range) (Kind.Number range.0 ∷ behind) behind to
      (spaced_goes inside number (IsNumber range.0) (Kind.Number range.0 ∷ behind) behind (last_gap inside range.1 (range.0 == range.1) to here) (number_goes range.0 behind))
      (last_goes inside range (range.0 == range.1) refl to here)))

  pub range_goes : (role : _) → ((first : Number) (last : Option Number) (span : Span) → is_port first ≡ true → is_port_end last ≡ true → can_stand role (Value.Number first last span) ≡ true)
      → (inside : Bool) (range : ℕ × ℕ) → IsRange range → (to : List TokenKind) → Behind inside to
      → Goes (value role inside) (SaysRange ifaces range) (onto (range_pieces range) to) to
  unfolding value written number_value
  range_goes role stands inside range is to here =
      let from = onto (range_pieces range) to in
      fitted_goes (can_stand role) (written inside) (SaysRange ifaces range) from to (λ v says. ap (can_stand role) says.form ∙ stands says.first says.last says.span says.port says.last_port)
      (first_goes (meaning (number_value inside)).starts (number_value inside)
      (address_value inside or word_value inside or variable_value inside or string_value inside or table_value inside) (SaysRange ifaces range) from to
      (sees_first (meaning (number_value inside)).starts true (Kind.Number range.0) (onto (last_pieces range) to) (λ s. refl))
      (number_value_goes inside range is to here))
