-- How tokens are read of which only the kinds are known.
use Rattle.std.proofs.Common.{◌≡◌, ◌⊎◌, inl, inr, Bool, true, false, not, if◌then◌else◌, Option, Some, None, Ok, List, [], ◌∷◌, ◌++◌, map, refl, sym, ap, subst, ◌∙◌}
use Rattle.std.{proofs.lemmas.{Bool.and_parts, Slice.Eq.bytes_eq-Decides}, specs.{Prelude.ℕ, List.list_all, Str.bytes_eq}}
use Rattle.npf_types.specs.declared.span.Span.{Span}
use Rattle.npf_lexer.specs.{Sign.sign_text, declared.token.{Sign.Sign, Token.Token, TokenKind.TokenKind}}
use Rattle.npf_lexer.specs.declared.token.TokenKind.TheVariants as Kind
use Rattle.npf_phrase.specs.Phrase.{◌>>=◌, Test, head, front_of, read_token, read_by, where_fit, with_item}
use Rattle.npf_phrase.specs.Grammar.{Grammar, meaning, token, pure, both, making, either, any_number, fitted, preceded, terminated, optional}
use Rattle.npf_phrase.proofs.{GrammarLemmas.settled, NumberLemmas.number_step, ReadingLemmas.not_true, TestLemmas.advances}
use Rattle.npf_parser_values.specs.Token.{quoted, sign, says, span_of, when}

abbrev pub kinds : List Token → List TokenKind
kinds ts = map (λ t. t.kind) ts

-- a token of a kind at a place
abbrev pub at : TokenKind → Span → Token
at kind span = record { kind = kind; span = span }

-- what is read of tokens: a value of which something holds, and tokens of these kinds are left
pub record Reads {A : Type 0} (g : Grammar Token A) (P : A → Type 0) (ts : List Token) (to : List TokenKind) : Type 0 where
  pub value : A
  pub rest : List Token
  pub reads : (meaning g).read ts ≡ Ok (value, rest)
  pub left : kinds rest ≡ to
  pub is : P value

-- from tokens of some kinds a value is read, and tokens of others are left
pub record Goes {A : Type 0} (g : Grammar Token A) (P : A → Type 0) (from to : List TokenKind) : Type 0 where
  pub goes : (ts : List Token) → kinds ts ≡ from → Reads g P ts to

-- a test of the token that stands first, by its kind
pub record Sees (answer : Bool) (test : Option Token → Bool) (ks : List TokenKind) : Type 0 where
  pub sees : (ts : List Token) → kinds ts ≡ ks → test (head ts) ≡ answer

-- the first token by its kind
record FirstIs (ts : List Token) (k : TokenKind) (ks : List TokenKind) : Type 0 where
  span : Span
  rest : List Token
  parts : ts ≡ at k span ∷ rest
  left : kinds rest ≡ ks

first_is : (ts : List Token) (k : TokenKind) (ks : List TokenKind) → kinds ts ≡ k ∷ ks → FirstIs ts k ks
first_is [] k ks is = cc
first_is (t ∷ ts) k ks is =
    let kind : t.kind ≡ k = cc in
    record { span = t.span; rest = ts; parts = ap (λ k. at k t.span ∷ ts) kind; left = cc }

pub sees_first : (test : Option Token → Bool) (answer : Bool) (k : TokenKind) (ks : List TokenKind) → ((s : Span) → test (Some (at k s)) ≡ answer) → Sees answer test (k ∷ ks)
sees_first test answer k ks is = record {
  sees = λ ts these.
      let first = first_is ts k ks these in
      ap (λ us. test (head us)) first.parts ∙ is first.span;
}

-- the first kind is one of these
abbrev pub HeadIn : List TokenKind → List TokenKind → Type 0
HeadIn [] ks = ⊥
HeadIn (k ∷ set) ks = ((rest : List TokenKind) × (ks ≡ k ∷ rest)) ⊎ HeadIn set ks

pub sees_none : (test : Option Token → Bool) (set : List TokenKind) (ks : List TokenKind)
    → ((s : Span) → list_all (λ k. not (test (Some (at k s)))) set ≡ true) → HeadIn set ks → Sees false test ks
sees_none test [] ks none here = absurd here
sees_none test (k ∷ set) ks none (inl (rest, is)) =
    subst (Sees false test) (sym is)
    (sees_first test false k rest (λ s. not_true (and_parts (not (test (Some (at k s)))) (list_all (λ k. not (test (Some (at k s)))) set) (none s)).0))
sees_none test (k ∷ set) ks none (inr more) =
    sees_none test set ks (λ s. (and_parts (not (test (Some (at k s)))) (list_all (λ k. not (test (Some (at k s)))) set) (none s)).1) more

-- one of more
pub head_more : (front set ks : List TokenKind) → HeadIn set ks → HeadIn (front ++ set) ks
head_more [] set ks here = here
head_more (k ∷ front) set ks here = inr (head_more front set ks here)

pub head_front : (front set ks : List TokenKind) → HeadIn front ks → HeadIn (front ++ set) ks
head_front [] set ks here = absurd here
head_front (k ∷ front) set ks (inl here) = inl here
head_front (k ∷ front) set ks (inr more) = inr (head_front front set ks more)

token_read : {A : Type 0} (test : Test Token A) (t : Token) (ts : List Token) → read_token test (t ∷ ts) ≡ read_by (test t) t ts
unfolding read_token
token_read test t ts = refl

pub token_goes : {A : Type 0} (test : Test Token A) (example : Token) (P : A → Type 0) (k : TokenKind) (ks : List TokenKind) (means : Span → A)
    → ((s : Span) → test (at k s) ≡ Some (means s)) → ((s : Span) → P (means s)) → Goes (token test example) P (k ∷ ks) ks
token_goes test example P k ks means passes holds = record {
  goes = λ ts these.
      let first = first_is ts k ks these in
      record {
        value = means first.span;
        rest = first.rest;
        reads = ap (read_token test) first.parts ∙ token_read test (at k first.span) first.rest ∙ ap (λ o. read_by o (at k first.span) first.rest) (passes first.span);
        left = first.left;
        is = holds first.span;
      };
}

module _ {A B : Type 0} (g : Grammar Token A) (h : Grammar Token B) (P : A → Type 0) (Q : B → Type 0) (from mid to : List TokenKind) where
  pub both_goes : Goes g P from mid → Goes h Q mid to → Goes (both g h) (λ ab. P ab.0 × Q ab.1) from to
  both_goes first second = record {
    goes = λ ts these.
        let one = first.goes ts these in
        let two = second.goes one.rest one.left in
        record {
          value = (one.value, two.value);
          rest = two.rest;
          reads = ap (λ r. r >>= (λ a. (meaning h).read a.1 >>= (λ b. Ok ((a.0, b.0), b.1)))) one.reads ∙ ap (λ r. r >>= (λ b. Ok ((one.value, b.0), b.1))) two.reads;
          left = two.left;
          is = (one.is, two.is);
        };
  }

pub making_goes : {A B : Type 0} (f : List Token → A → B) (g : Grammar Token A) (P : A → Type 0) (Q : B → Type 0) (from to : List TokenKind)
    → ((ts : List Token) (a : A) → P a → Q (f ts a)) → Goes g P from to → Goes (making f g) Q from to
making_goes f g P Q from to means goes = record {
  goes = λ ts these.
      let one = goes.goes ts these in
      record {
        value = f (front_of ts one.rest) one.value;
        rest = one.rest;
        reads = ap (λ r. r >>= (λ a. Ok (f (front_of ts a.1) a.0, a.1))) one.reads;
        left = one.left;
        is = means (front_of ts one.rest) one.value one.is;
      };
}

pub pure_goes : {A : Type 0} (a : A) (P : A → Type 0) (to : List TokenKind) → P a → Goes (pure a) P to to
pure_goes a P to is = record {
  goes = λ ts these.
      record { value = a; rest = ts; reads = refl; left = these; is = is };
}

module _ {A : Type 0} (test : Option Token → Bool) (g h : Grammar Token A) (P : A → Type 0) (from to : List TokenKind) where
  pub first_goes : Sees true test from → Goes g P from to → Goes (either test g h) P from to
  first_goes sees goes = record {
    goes = λ ts these.
        let one = goes.goes ts these in
        record { value = one.value; rest = one.rest; reads = ap (λ b. if b then (meaning g).read ts else (meaning h).read ts) (sees.sees ts these) ∙ one.reads; left = one.left; is = one.is };
  }

  pub second_goes : Sees false test from → Goes h P from to → Goes (either test g h) P from to
  second_goes sees goes = record {
    goes = λ ts these.
        let one = goes.goes ts these in
        record { value = one.value; rest = one.rest; reads = ap (λ b. if b then (meaning g).read ts else (meaning h).read ts) (sees.sees ts these) ∙ one.reads; left = one.left; is = one.is };
  }

pub fitted_goes : {A : Type 0} (fits : A → Bool) (g : Grammar Token A) (P : A → Type 0) (from to : List TokenKind)
    → ((a : A) → P a → fits a ≡ true) → Goes g P from to → Goes (fitted fits g) P from to
fitted_goes fits g P from to holds goes = record {
  goes = λ ts these.
      let one = goes.goes ts these in
      record {
        value = one.value;
        rest = one.rest;
        reads = ap (λ r. r >>= (λ a. where_fit (fits a.0) a.0 a.1 ts)) one.reads ∙ ap (λ b. where_fit b one.value one.rest ts) (holds one.value one.is);
        left = one.left;
        is = one.is;
      };
}

-- what holds of all that is read, weaker
pub weaker : {A : Type 0} (g : Grammar Token A) (P Q : A → Type 0) (from to : List TokenKind) → ((a : A) → P a → Q a) → Goes g P from to → Goes g Q from to
weaker g P Q from to step goes = record {
  goes = λ ts these.
      let one = goes.goes ts these in
      record { value = one.value; rest = one.rest; reads = one.reads; left = one.left; is = step one.value one.is };
}

abbrev pub Anything : {A : Type 0} → A → Type 0
Anything a = Unit {0}

pub preceded_goes : {A B : Type 0} (g : Grammar Token A) (h : Grammar Token B) (P : A → Type 0) (Q : B → Type 0) (from mid to : List TokenKind)
    → Goes g P from mid → Goes h Q mid to → Goes (preceded g h) Q from to
preceded_goes g h P Q from mid to first second =
    making_goes (λ _ ab. ab.1) (both g h) (λ ab. P ab.0 × Q ab.1) Q from to (λ ts ab is. is.1) (both_goes g h P Q from mid to first second)

pub terminated_goes : {A B : Type 0} (g : Grammar Token A) (h : Grammar Token B) (P : A → Type 0) (Q : B → Type 0) (from mid to : List TokenKind)
    → Goes g P from mid → Goes h Q mid to → Goes (terminated g h) P from to
terminated_goes g h P Q from mid to first second =
    making_goes (λ _ ab. ab.0) (both g h) (λ ab. P ab.0 × Q ab.1) P from to (λ ts ab is. is.0) (both_goes g h P Q from mid to first second)

-- a part that may be left out, of the tree and of the model
abbrev pub OnOption : {A B : Type 0} → (A → B → Type 0) → Option A → Option B → Type 0
OnOption R None None = Unit {0}
OnOption R (Some a) (Some b) = R a b
OnOption R _ _ = ⊥

pub absent_goes : {A : Type 0} (g : Grammar Token A) (P : Option A → Type 0) (to : List TokenKind) → Sees false (meaning g).starts to → P None → Goes (optional g) P to to
absent_goes g P to lacks is = second_goes (meaning g).starts (making (λ _ a. Some a) g) (pure None) P to to lacks (pure_goes None P to is)

pub present_goes : {A : Type 0} (g : Grammar Token A) (P : Option A → Type 0) (from to : List TokenKind)
    → Sees true (meaning g).starts from → Goes g (λ a. P (Some a)) from to → Goes (optional g) P from to
present_goes g P from to begins goes =
    first_goes (meaning g).starts (making (λ _ a. Some a) g) (pure None) P from to begins
    (making_goes (λ _ a. Some a) g (λ a. P (Some a)) P from to (λ ts a is. is) goes)

when_same : (text : List ℕ) → when (bytes_eq text text) ≡ Some tt
when_same text = ap when ((bytes_eq-Decides text text).1 refl)

pub word_goes : (text : List ℕ) (ks : List TokenKind) → Goes (quoted text) Anything (Kind.Word text ∷ ks) ks
word_goes text ks = token_goes _ _ Anything (Kind.Word text) ks (λ s. tt) (λ s. when_same text) (λ s. tt)

pub sign_goes : (s : Sign) (ks : List TokenKind) → Goes (sign s) Anything (Kind.Sign s ∷ ks) ks
sign_goes s ks = token_goes _ _ Anything (Kind.Sign s) ks (λ _. tt) (λ _. when_same (sign_text s)) (λ _. tt)

pub says_goes : {A : Type 0} (text : List ℕ) (means : Span → A) (P : A → Type 0) (ks : List TokenKind) → ((s : Span) → P (means s)) → Goes (says text means) P (Kind.Word text ∷ ks) ks
says_goes text means P ks holds = making_goes (λ ts _. means (span_of ts)) (quoted text) Anything P (Kind.Word text ∷ ks) ks (λ ts _ _. holds (span_of ts)) (word_goes text ks)

-- a phrase as often as it begins
module _ {A : Type 0} (g : Grammar Token A) (is : advances g ≡ true) (full : (meaning g).nullable ≡ false) where
  step : (ts : List Token) (b : Bool) → (meaning g).starts (head ts) ≡ b
      → (meaning (any_number g)).read ts ≡ (if b then ((meaning g).read ts >>= (λ a. with_item a.0 ((meaning (any_number g)).read a.1))) else Ok ([], ts))
  step = number_step (meaning g) (settled g is) full

  pub none_goes : (P : List A → Type 0) (to : List TokenKind) → Sees false (meaning g).starts to → P [] → Goes (any_number g) P to to
  none_goes P to lacks holds = record {
    goes = λ ts these.
        record { value = []; rest = ts; reads = step ts false (lacks.sees ts these); left = these; is = holds };
  }

  pub more_goes : (P : A → Type 0) (Q R : List A → Type 0) (from mid to : List TokenKind) → Sees true (meaning g).starts from
      → Goes g P from mid → Goes (any_number g) Q mid to → ((a : A) (vals : List A) → P a → Q vals → R (a ∷ vals)) → Goes (any_number g) R from to
  more_goes P Q R from mid to begins first others holds = record {
    goes = λ ts these.
        let one = first.goes ts these in
        let two = others.goes one.rest one.left in
        record {
          value = one.value ∷ two.value;
          rest = two.rest;
          reads = step ts true (begins.sees ts these) ∙ ap (λ r. r >>= (λ a. with_item a.0 ((meaning (any_number g)).read a.1))) one.reads ∙ ap (with_item one.value) two.reads;
          left = two.left;
          is = holds one.value two.value one.is two.is;
        };
  }

-- the same where the parts are plain
pub turn : {A B : Type 0} {g : Grammar Token A} {h : Grammar Token B} {P : A → Type 0} {Q : B → Type 0} {from mid to : List TokenKind}
    → Goes g P from mid → Goes h Q mid to → Goes (both g h) (λ ab. P ab.0 × Q ab.1) from to
turn {g = g} {h = h} {P = P} {Q = Q} {from = from} {mid = mid} {to = to} = both_goes g h P Q from mid to

pub make : {A B : Type 0} {f : List Token → A → B} {g : Grammar Token A} {P : A → Type 0} {Q : B → Type 0} {from to : List TokenKind}
    → ((ts : List Token) (a : A) → P a → Q (f ts a)) → Goes g P from to → Goes (making f g) Q from to
make {f = f} {g = g} {P = P} {Q = Q} {from = from} {to = to} = making_goes f g P Q from to

pub keep : {A : Type 0} {g : Grammar Token A} {P Q : A → Type 0} {from to : List TokenKind} → ((a : A) → P a → Q a) → Goes g P from to → Goes g Q from to
keep {g = g} {P = P} {Q = Q} {from = from} {to = to} = weaker g P Q from to

pub pick_first : {A : Type 0} {test : Option Token → Bool} {g h : Grammar Token A} {P : A → Type 0} {from to : List TokenKind}
    → Sees true test from → Goes g P from to → Goes (either test g h) P from to
pick_first {test = test} {g = g} {h = h} {P = P} {from = from} {to = to} = first_goes test g h P from to

pub pick_second : {A : Type 0} {test : Option Token → Bool} {g h : Grammar Token A} {P : A → Type 0} {from to : List TokenKind}
    → Sees false test from → Goes h P from to → Goes (either test g h) P from to
pick_second {test = test} {g = g} {h = h} {P = P} {from = from} {to = to} = second_goes test g h P from to

pub fit : {A : Type 0} {fits : A → Bool} {g : Grammar Token A} {P : A → Type 0} {from to : List TokenKind}
    → ((a : A) → P a → fits a ≡ true) → Goes g P from to → Goes (fitted fits g) P from to
fit {fits = fits} {g = g} {P = P} {from = from} {to = to} = fitted_goes fits g P from to

pub said : {A : Type 0} {text : List ℕ} {g : Grammar Token A} {P : A → Type 0} {from to : List TokenKind}
    → Goes g P from to → Goes (preceded (quoted text) g) P (Kind.Word text ∷ from) to
said {text = text} {g = g} {P = P} {from = from} {to = to} = preceded_goes (quoted text) g Anything P (Kind.Word text ∷ from) from to (word_goes text from)

pub signed : {A : Type 0} {s : Sign} {g : Grammar Token A} {P : A → Type 0} {from to : List TokenKind}
    → Goes g P from to → Goes (preceded (sign s) g) P (Kind.Sign s ∷ from) to
signed {s = s} {g = g} {P = P} {from = from} {to = to} = preceded_goes (sign s) g Anything P (Kind.Sign s ∷ from) from to (sign_goes s from)

pub before : {A : Type 0} {s : Sign} {g : Grammar Token A} {P : A → Type 0} {from to : List TokenKind}
    → Goes g P from (Kind.Sign s ∷ to) → Goes (terminated g (sign s)) P from to
before {s = s} {g = g} {P = P} {from = from} {to = to} goes = terminated_goes g (sign s) P Anything from (Kind.Sign s ∷ to) to goes (sign_goes s to)

pub absent : {A : Type 0} {g : Grammar Token A} {P : Option A → Type 0} {to : List TokenKind} → Sees false (meaning g).starts to → P None → Goes (optional g) P to to
absent {g = g} {P = P} {to = to} = absent_goes g P to

pub present : {A : Type 0} {g : Grammar Token A} {P : Option A → Type 0} {from to : List TokenKind}
    → Sees true (meaning g).starts from → Goes g (λ a. P (Some a)) from to → Goes (optional g) P from to
present {g = g} {P = P} {from = from} {to = to} = present_goes g P from to

-- a test of a kind that stands first
pub it_is : {test : Option Token → Bool} {answer : Bool} {k : TokenKind} {ks : List TokenKind} → ((s : Span) → test (Some (at k s)) ≡ answer) → Sees answer test (k ∷ ks)
it_is {test = test} {answer = answer} {k = k} {ks = ks} = sees_first test answer k ks

pub none_is : {test : Option Token → Bool} {ks : List TokenKind} (set : List TokenKind)
    → ((s : Span) → list_all (λ k. not (test (Some (at k s)))) set ≡ true) → HeadIn set ks → Sees false test ks
none_is {test = test} {ks = ks} set = sees_none test set ks
