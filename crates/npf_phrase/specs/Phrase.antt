-- Phrases over tokens of any kind, and the ways in which they are put together. A phrase is told by the tokens that it
-- takes and the one behind them: whatever stands further behind never matters.
use Rattle.std.specs.Prelude.{◌≡◌, ◌⊎◌, ℕ, zero, suc, ◌-◌, Bool, true, false, ◌&&◌, ◌||◌, not, Option, Some, None, is_some, Result, Ok, Err, List, [], ◌∷◌, ◌++◌, length, take, if◌then◌else◌}

-- what is read at the front of tokens and the tokens behind it, or the tokens at which reading stops
abbrev pub Reading : Type 0 → Type 0 → Type 0
Reading T A = Result (A × List T) (List T)

infixl 10 ◌>>=◌
abbrev pub ◌>>=◌ : {T A B : Type 0} → Reading T A → (A × List T → Reading T B) → Reading T B
(Ok a) >>= f = f a
(Err at) >>= f = Err at

-- the first of these tokens, or else the one behind them
abbrev pub ahead : {T : Type 0} → List T → Option T → Option T
ahead [] n = n
ahead (t ∷ _) n = Some t

abbrev pub head : {T : Type 0} → List T → Option T
head ts = ahead ts None

-- the tokens that come before the others
unfoldable pub front_of : {T : Type 0} → List T → List T → List T
front_of ts rest = take (length ts - length rest) ts

-- A phrase. What it says: `Is ts a n`, the tokens `ts` mean `a` where `n` stands behind them; `Halts front unfit n`, the
-- tokens `front` begin a phrase, and neither what begins with `unfit`, before `n`, nor what else begins with it goes on
-- from there. How it is read. And its shape: by which token it begins, by which it may go on where it might end, whether
-- it may be empty, and an example of it.
pub record Phrase (T A : Type 0) : Type 1 where
  pub Is : List T → A → Option T → Type 0
  pub Halts : List T → List T → Option T → Type 0
  pub read : List T → Reading T A
  pub starts : Option T → Bool
  pub more : Option T → Bool
  pub nullable : Bool
  pub example : List T

-- what a token means, where it is one of those that are meant
abbrev pub Test : Type 0 → Type 0 → Type 0
Test T A = T → Option A

abbrev pub seen_by : {T A : Type 0} → Test T A → Option T → Option A
seen_by test None = None
seen_by test (Some t) = test t

abbrev pub read_by : {T A : Type 0} → Option A → T → List T → Reading T A
read_by (Some a) t ts = Ok (a, ts)
read_by None t ts = Err (t ∷ ts)

unfoldable pub read_token : {T A : Type 0} → Test T A → List T → Reading T A
read_token test [] = Err []
read_token test (t ∷ ts) = read_by (test t) t ts

-- a single token that passes a test
abbrev pub token : {T A : Type 0} → Test T A → T → Phrase T A
token {T} test example = record {
  Is = λ ts a _. (t : T) × (ts ≡ t ∷ []) × (test t ≡ Some a);
  Halts = λ front unfit n. (front ≡ []) × (unfit ≡ []) × (seen_by test n ≡ None);
  read = read_token test;
  starts = λ n. is_some (seen_by test n);
  more = λ _. false;
  nullable = false;
  example = example ∷ [];
}

-- nothing
abbrev pub pure : {T A : Type 0} → A → Phrase T A
pure a = record {
  Is = λ ts b _. (ts ≡ []) × (b ≡ a);
  Halts = λ _ _ _. ⊥;
  read = λ ts. Ok (a, ts);
  starts = λ _. false;
  more = λ _. false;
  nullable = true;
  example = [];
}

pub record IsBoth {T A B : Type 0} (p : Phrase T A) (q : Phrase T B) (ts : List T) (ab : A × B) (n : Option T) : Type 0 where
  pub one : List T
  pub other : List T
  pub parts : ts ≡ one ++ other
  pub first : p.Is one ab.0 (ahead other n)
  pub second : q.Is other ab.1 n

pub record HaltsBehind {T A B : Type 0} (p : Phrase T A) (q : Phrase T B) (front unfit : List T) (n : Option T) : Type 0 where
  pub one : List T
  pub other : List T
  pub parts : front ≡ one ++ other
  pub a : A
  pub first : p.Is one a (ahead (other ++ unfit) n)
  pub second : q.Halts other unfit n

-- one phrase and another behind it
abbrev pub in_turn : {T A B : Type 0} → Phrase T A → Phrase T B → Phrase T (A × B)
in_turn p q = record {
  Is = IsBoth p q;
  Halts = λ front unfit n. p.Halts front unfit n ⊎ HaltsBehind p q front unfit n;
  read = λ ts. p.read ts >>= (λ a. q.read a.1 >>= (λ b. Ok ((a.0, b.0), b.1)));
  starts = λ n. p.starts n || (p.nullable && q.starts n);
  more = λ n. q.more n || (q.nullable && p.more n);
  nullable = p.nullable && q.nullable;
  example = p.example ++ q.example;
}

-- a phrase with what it means, which may look at the tokens that it takes
abbrev pub making : {T A B : Type 0} → (List T → A → B) → Phrase T A → Phrase T B
making {T} {A} f p = record {
  Is = λ ts b n. (a : A) × p.Is ts a n × (b ≡ f ts a);
  Halts = p.Halts;
  read = λ ts. p.read ts >>= (λ a. Ok (f (front_of ts a.1) a.0, a.1));
  starts = p.starts;
  more = p.more;
  nullable = p.nullable;
  example = p.example;
}

abbrev pub chosen : Bool → Type 0 → Type 0 → Type 0
chosen true P Q = P
chosen false P Q = Q

-- one phrase where what stands first passes a test, and another where it doesn't
abbrev pub either : {T A : Type 0} → (Option T → Bool) → Phrase T A → Phrase T A → Phrase T A
either test p q = record {
  Is = λ ts a n. chosen (test (ahead ts n)) (p.Is ts a n) (q.Is ts a n);
  Halts = λ front unfit n. chosen (test (ahead (front ++ unfit) n)) (p.Halts front unfit n) (q.Halts front unfit n);
  read = λ ts. if test (head ts) then p.read ts else q.read ts;
  starts = λ n. p.starts n || q.starts n;
  more = λ n. (p.more n || q.more n) || ((p.nullable && not (test n)) || (q.nullable && test n));
  nullable = p.nullable || q.nullable;
  example = q.example;
}

abbrev pub are_items : {T A : Type 0} → Phrase T A → List T → List A → Option T → Type 0
are_items p ts [] n = (ts ≡ []) × (p.starts n ≡ false)
are_items {T} p ts (a ∷ items) n = (one : List T) × (other : List T) × (ts ≡ one ++ other) × (p.starts (ahead ts n) ≡ true) × p.Is one a (ahead other n) × are_items p other items n

-- a phrase halts behind as many of its kind as there are values
abbrev pub items_halt : {T A : Type 0} → Phrase T A → List A → List T → List T → Option T → Type 0
items_halt p [] front unfit n = (p.starts (ahead (front ++ unfit) n) ≡ true) × p.Halts front unfit n
items_halt {T} p (a ∷ items) front unfit n = (one : List T) × (other : List T) × (front ≡ one ++ other) × (p.starts (ahead (front ++ unfit) n) ≡ true) × p.Is one a (ahead (other ++ unfit) n) × items_halt p items other unfit n

abbrev pub with_item : {T A : Type 0} → A → Reading T (List A) → Reading T (List A)
with_item a (Ok r) = Ok (a ∷ r.0, r.1)
with_item a (Err at) = Err at

-- at most so many
unfoldable pub read_items : {T A : Type 0} → Phrase T A → ℕ → List T → Reading T (List A)
read_items p zero ts = Err ts
read_items p (suc k) ts = if p.starts (head ts) then (p.read ts >>= (λ a. with_item a.0 (read_items p k a.1))) else Ok ([], ts)

-- a phrase as often as it begins
abbrev pub any_number : {T A : Type 0} → Phrase T A → Phrase T (List A)
any_number {T} {A} p = record {
  Is = are_items p;
  Halts = λ front unfit n. (items : List A) × items_halt p items front unfit n;
  read = λ ts. read_items p (suc (length ts)) ts;
  starts = p.starts;
  more = λ n. p.starts n || p.more n;
  nullable = true;
  example = [];
}

-- what was read, where it fits, and else its first token is amiss
abbrev pub where_fit : {T A : Type 0} → Bool → A → List T → List T → Reading T A
where_fit true a rest ts = Ok (a, rest)
where_fit false a rest ts = Err ts

-- a phrase whose value has to fit
abbrev pub fitted : {T A : Type 0} → (A → Bool) → Phrase T A → Phrase T A
fitted {T} {A} fits p = record {
  Is = λ ts a n. p.Is ts a n × (fits a ≡ true);
  Halts = λ front unfit n. p.Halts front unfit n ⊎ ((front ≡ []) × (a : A) × p.Is unfit a n × (fits a ≡ false));
  read = λ ts. p.read ts >>= (λ a. where_fit (fits a.0) a.0 a.1 ts);
  starts = p.starts;
  more = p.more;
  nullable = p.nullable;
  example = p.example;
}
