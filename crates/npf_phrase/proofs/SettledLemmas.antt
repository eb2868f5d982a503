-- What holds of each phrase: reading tells the truth and all of it, whatever stands further behind; and its shape tells
-- the truth.
use Rattle.std.proofs.Common.{◌≡◌, inl, inr, Bool, true, false, ◌&&◌, ◌||◌, not, Option, Some, None, is_some, Ok, Err, List, [], ◌∷◌, ◌++◌, if◌then◌else◌, refl, sym, ap, subst, ◌∙◌, append_assoc}
use Rattle.std.proofs.lemmas.Bool.{or_left}
use Rattle.npf_phrase.specs.Phrase.{Phrase, Reading, ◌>>=◌, ahead, head, front_of, Test, seen_by, read_by, read_token, token, pure, IsBoth, in_turn, making, either, where_fit, fitted}
use Rattle.npf_phrase.specs.Place.{StandsFirst, Stopped}
use Rattle.npf_phrase.proofs.ReadingLemmas.{head_behind, head_parts, head_three, joined_parts, front_is, or_false, or_other, not_false, choose, take_first, take_second, either_of}

-- what reading answers is so
abbrev pub Outcome : {T A : Type 0} → Phrase T A → List T → Reading T A → Type 0
Outcome p ts (Ok read) = StandsFirst p ts read.0 read.1
Outcome p ts (Err at) = Stopped p ts at

pub record Settled {T A : Type 0} (p : Phrase T A) : Type 0 where
  pub outcome : (ts : List T) → Outcome p ts (p.read ts)
  pub complete : (ts : List T) (a : A) (rest : List T) → p.Is ts a (head rest) → p.read (ts ++ rest) ≡ Ok (a, rest)
  pub halting : (front unfit behind : List T) → p.Halts front unfit (head behind) → p.read (front ++ (unfit ++ behind)) ≡ Err (unfit ++ behind)
  pub followed : (ts : List T) (a : A) (n m : Option T) → p.Is ts a n → p.more m ≡ false → p.Is ts a m
  pub filled : p.nullable ≡ false → (a : A) (n : Option T) → ¬ p.Is [] a n
  pub begins : (t : T) (ts : List T) (a : A) (n : Option T) → p.Is (t ∷ ts) a n → p.starts (Some t) ≡ true

module _ {T A : Type 0} (test : Test T A) (example : T) where
  token_outcome_by : (o : Option A) (t : T) (ts : List T) → test t ≡ o → Outcome (token test example) (t ∷ ts) (read_by o t ts)
  token_outcome_by (Some a) t ts is = record { front = t ∷ []; parts = refl; is = (t, refl, is) }
  token_outcome_by None t ts is = record { front = []; unfit = []; behind = t ∷ ts; parts = refl; place = refl; halts = (refl, refl, is) }

  token_outcome : (ts : List T) → Outcome (token test example) ts (read_token test ts)
  unfolding read_token
  token_outcome [] = record { front = []; unfit = []; behind = []; parts = refl; place = refl; halts = (refl, refl, refl) }
  token_outcome (t ∷ ts) = token_outcome_by (test t) t ts refl

  token_complete : (ts : List T) (a : A) (rest : List T) → (token test example).Is ts a (head rest) → read_token test (ts ++ rest) ≡ Ok (a, rest)
  unfolding read_token
  token_complete ts a rest is = ap (λ us. read_token test (us ++ rest)) is.1 ∙ ap (λ o. read_by o is.0 rest) is.2

  token_lacks : (behind : List T) → seen_by test (head behind) ≡ None → read_token test behind ≡ Err behind
  unfolding read_token
  token_lacks [] lacks = refl
  token_lacks (t ∷ ts) lacks = ap (λ o. read_by o t ts) lacks

  pub settled_token : Settled (token test example)
  settled_token = record {
    outcome = token_outcome;
    complete = token_complete;
    halting = λ front unfit behind is.
        ap (λ us. read_token test (us ++ (unfit ++ behind))) is.0 ∙ ap (λ us. read_token test (us ++ behind)) is.1 ∙ token_lacks behind is.2 ∙ ap (λ us. Err (us ++ behind)) (sym is.1);
    followed = λ ts a n m is ends. is;
    filled = λ full a n is. let taken = is.1 in cc;
    begins = λ t ts a n is. ap (λ us. is_some (seen_by test (head us))) is.1 ∙ ap is_some is.2;
  }

pub settled_pure : {T A : Type 0} (a₀ : A) → Settled (pure {T = T} a₀)
settled_pure a₀ = record {
  outcome = λ ts. record { front = []; parts = refl; is = (refl, refl) };
  complete = λ ts a rest is. ap (λ us. Ok (a₀, us ++ rest)) is.0 ∙ ap (λ a. Ok (a, rest)) (sym is.1);
  halting = λ front unfit behind is. absurd is;
  followed = λ ts a n m is ends. is;
  filled = λ full a n is. cc;
  begins = λ t ts a n is. let taken = is.0 in cc;
}

-- a phrase stands as well before another token that doesn't go on with it, or before whatever comes next
pub followed_by : {T A : Type 0} (p : Phrase T A) → Settled p → (us : List T) (ts : List T) (a : A) (n m : Option T) → p.Is ts a (ahead us n) → (us ≡ [] → p.more m ≡ false) → p.Is ts a (ahead us m)
followed_by p settled [] ts a n m is ends = settled.followed ts a n m is (ends refl)
followed_by p settled (u ∷ us) ts a n m is ends = is

module _ {T A B : Type 0} (p : Phrase T A) (q : Phrase T B) (first : Settled p) (second : Settled q) where
  abbrev behind_first : A × List T → Reading T (A × B)
  behind_first a = q.read a.1 >>= (λ b. Ok ((a.0, b.0), b.1))

  second_outcome : (ts : List T) (a : A) (mid : List T) → StandsFirst p ts a mid → (r : Reading T B) → Outcome q mid r → Outcome (in_turn p q) ts (r >>= (λ b. Ok ((a, b.0), b.1)))
  second_outcome ts a mid is (Ok r) onward = record {
    front = is.front ++ onward.front;
    parts = joined_parts is.front onward.front r.1 is.parts onward.parts;
    is = record { one = is.front; other = onward.front; parts = refl; first = subst (p.Is is.front a) (head_parts onward.front r.1 onward.parts) is.is; second = onward.is };
  }
  second_outcome ts a mid is (Err at) onward = record {
    front = is.front ++ onward.front;
    unfit = onward.unfit;
    behind = onward.behind;
    parts = joined_parts is.front onward.front at is.parts onward.parts;
    place = onward.place;
    halts = inr (record {
      one = is.front;
      other = onward.front;
      parts = refl;
      a = a;
      first = subst (p.Is is.front a) (ap head (onward.parts ∙ ap (λ us. onward.front ++ us) onward.place) ∙ head_three onward.front onward.unfit onward.behind) is.is;
      second = onward.halts;
    });
  }

  first_outcome : (ts : List T) (r : Reading T A) → Outcome p ts r → Outcome (in_turn p q) ts (r >>= behind_first)
  first_outcome ts (Ok r) is = second_outcome ts r.0 r.1 is (q.read r.1) (second.outcome r.1)
  first_outcome ts (Err at) is = record { front = is.front; unfit = is.unfit; behind = is.behind; parts = is.parts; place = is.place; halts = inl is.halts }

  -- reading the second part behind the first
  reads_on : (one other ts : List T) (a : A) (r : Reading T B) → ts ≡ one ++ other → p.Is one a (head other) → q.read other ≡ r → (in_turn p q).read ts ≡ (r >>= (λ b. Ok ((a, b.0), b.1)))
  reads_on one other ts a r parts is reads =
      ap (in_turn p q).read parts ∙ ap (λ r. r >>= behind_first) (first.complete one a other is) ∙ ap (λ r. r >>= (λ b. Ok ((a, b.0), b.1))) reads

  both_complete : (ts : List T) (ab : A × B) (rest : List T) → IsBoth p q ts ab (head rest) → (in_turn p q).read (ts ++ rest) ≡ Ok (ab, rest)
  both_complete ts ab rest is =
      reads_on is.one (is.other ++ rest) (ts ++ rest) ab.0 (Ok (ab.1, rest)) (ap (λ us. us ++ rest) is.parts ∙ append_assoc is.one is.other rest)
      (subst (p.Is is.one ab.0) (sym (head_behind is.other rest)) is.first) (second.complete is.other ab.1 rest is.second)

  both_halting : (front unfit behind : List T) → (in_turn p q).Halts front unfit (head behind) → (in_turn p q).read (front ++ (unfit ++ behind)) ≡ Err (unfit ++ behind)
  both_halting front unfit behind (inl is) = ap (λ r. r >>= behind_first) (first.halting front unfit behind is)
  both_halting front unfit behind (inr is) =
      reads_on is.one (is.other ++ (unfit ++ behind)) (front ++ (unfit ++ behind)) is.a (Err (unfit ++ behind))
      (ap (λ us. us ++ (unfit ++ behind)) is.parts ∙ append_assoc is.one is.other (unfit ++ behind))
      (subst (p.Is is.one is.a) (sym (head_three is.other unfit behind)) is.first) (second.halting is.other unfit behind is.second)

  -- where the second takes nothing, it may be empty
  first_ends : (us : List T) (b : B) (n m : Option T) (nullable : Bool) → q.nullable ≡ nullable → q.Is us b n → (nullable && p.more m) ≡ false → us ≡ [] → p.more m ≡ false
  first_ends us b n m true is_nullable is ends empty = ends
  first_ends us b n m false is_nullable is ends empty = absurd (second.filled is_nullable b n (subst (λ vs. q.Is vs b n) empty is))

  both_filled : (one other : List T) (ab : A × B) (n : Option T) (pn qn : Bool) → p.nullable ≡ pn → q.nullable ≡ qn →
      (pn && qn) ≡ false → [] ≡ one ++ other → p.Is one ab.0 (ahead other n) → q.Is other ab.1 n → ⊥
  both_filled (t ∷ one) other ab n pn qn p_is q_is full parts is onward = cc
  both_filled [] (t ∷ other) ab n pn qn p_is q_is full parts is onward = cc
  both_filled [] [] ab n false qn p_is q_is full parts is onward = first.filled p_is ab.0 n is
  both_filled [] [] ab n true false p_is q_is full parts is onward = second.filled q_is ab.1 n onward
  both_filled [] [] ab n true true p_is q_is full parts is onward = cc

  both_begins : (t : T) (ts one other : List T) (ab : A × B) (n : Option T) (pn : Bool) → p.nullable ≡ pn → t ∷ ts ≡ one ++ other →
      p.Is one ab.0 (ahead other n) → q.Is other ab.1 n → (p.starts (Some t) || (pn && q.starts (Some t))) ≡ true
  both_begins t ts (u ∷ us) other ab n pn pn_is parts is onward = or_left _ (pn && q.starts (Some t)) (ap (λ vs. p.starts (head vs)) parts ∙ first.begins u us ab.0 (ahead other n) is)
  both_begins t ts [] [] ab n pn pn_is parts is onward = cc
  both_begins t ts [] (u ∷ us) ab n true pn_is parts is onward = or_other (p.starts (Some t)) (ap (λ vs. q.starts (head vs)) parts ∙ second.begins u us ab.1 n onward)
  both_begins t ts [] (u ∷ us) ab n false pn_is parts is onward = absurd (first.filled pn_is ab.0 (Some u) is)

  pub settled_both : Settled (in_turn p q)
  settled_both = record {
    outcome = λ ts. first_outcome ts (p.read ts) (first.outcome ts);
    complete = both_complete;
    halting = both_halting;
    followed = λ ts ab n m is ends. record {
      one = is.one;
      other = is.other;
      parts = is.parts;
      first = followed_by p first is.other is.one ab.0 n m is.first (first_ends is.other ab.1 n m q.nullable refl is.second (or_false ends).1);
      second = second.followed is.other ab.1 n m is.second (or_false ends).0;
    };
    filled = λ full ab n is. both_filled is.one is.other ab n p.nullable q.nullable refl refl full is.parts is.first is.second;
    begins = λ t ts ab n is. both_begins t ts is.one is.other ab n p.nullable refl is.parts is.first is.second;
  }

module _ {T A B : Type 0} (f : List T → A → B) (p : Phrase T A) (settled : Settled p) where
  making_outcome : (ts : List T) (r : Reading T A) → Outcome p ts r → Outcome (making f p) ts (r >>= (λ a. Ok (f (front_of ts a.1) a.0, a.1)))
  making_outcome ts (Ok r) is = record { front = is.front; parts = is.parts; is = (r.0, is.is, ap (λ us. f us r.0) (front_is is.front r.1 ts is.parts)) }
  making_outcome ts (Err at) is = record { front = is.front; unfit = is.unfit; behind = is.behind; parts = is.parts; place = is.place; halts = is.halts }

  pub settled_making : Settled (making f p)
  settled_making = record {
    outcome = λ ts. making_outcome ts (p.read ts) (settled.outcome ts);
    complete = λ ts b rest is.
        ap (λ r. r >>= (λ a. Ok (f (front_of (ts ++ rest) a.1) a.0, a.1))) (settled.complete ts is.0 rest is.1)
        ∙ ap (λ us. Ok (f us is.0, rest)) (front_is ts rest (ts ++ rest) refl) ∙ ap (λ b. Ok (b, rest)) (sym is.2);
    halting = λ front unfit behind is. ap (λ r. r >>= (λ a. Ok (f (front_of (front ++ (unfit ++ behind)) a.1) a.0, a.1))) (settled.halting front unfit behind is);
    followed = λ ts b n m is ends. (is.0, settled.followed ts is.0 n m is.1 ends, is.2);
    filled = λ full b n is. settled.filled full is.0 n is.1;
    begins = λ t ts b n is. settled.begins t ts is.0 n is.1;
  }

module _ {T A : Type 0} (test : Option T → Bool) (p q : Phrase T A) (first : Settled p) (second : Settled q) where
  outcome_first : (ts : List T) → test (head ts) ≡ true → (r : Reading T A) → Outcome p ts r → Outcome (either test p q) ts r
  outcome_first ts begins (Ok r) is = record { front = is.front; parts = is.parts; is = take_first _ (ap test (sym (head_parts is.front r.1 is.parts)) ∙ begins) is.is }
  outcome_first ts begins (Err at) is = record {
    front = is.front;
    unfit = is.unfit;
    behind = is.behind;
    parts = is.parts;
    place = is.place;
    halts = take_first _ (ap test (sym (head_parts (is.front ++ is.unfit) is.behind (joined_parts is.front is.unfit is.behind is.parts is.place))) ∙ begins) is.halts;
  }

  outcome_second : (ts : List T) → test (head ts) ≡ false → (r : Reading T A) → Outcome q ts r → Outcome (either test p q) ts r
  outcome_second ts lacks (Ok r) is = record { front = is.front; parts = is.parts; is = take_second _ (ap test (sym (head_parts is.front r.1 is.parts)) ∙ lacks) is.is }
  outcome_second ts lacks (Err at) is = record {
    front = is.front;
    unfit = is.unfit;
    behind = is.behind;
    parts = is.parts;
    place = is.place;
    halts = take_second _ (ap test (sym (head_parts (is.front ++ is.unfit) is.behind (joined_parts is.front is.unfit is.behind is.parts is.place))) ∙ lacks) is.halts;
  }

  either_outcome : (ts : List T) (b : Bool) → test (head ts) ≡ b → Outcome (either test p q) ts (if b then p.read ts else q.read ts)
  either_outcome ts true is = outcome_first ts is (p.read ts) (first.outcome ts)
  either_outcome ts false is = outcome_second ts is (q.read ts) (second.outcome ts)

  reads_first : (r : Reading T A) (ts : List T) → test (head ts) ≡ true → p.read ts ≡ r → (either test p q).read ts ≡ r
  reads_first r ts is reads = ap (λ b. if b then p.read ts else q.read ts) is ∙ reads

  reads_second : (r : Reading T A) (ts : List T) → test (head ts) ≡ false → q.read ts ≡ r → (either test p q).read ts ≡ r
  reads_second r ts is reads = ap (λ b. if b then p.read ts else q.read ts) is ∙ reads

  -- which of the two it is, where it takes nothing
  empty_first : (a : A) (n m : Option T) (pn : Bool) → p.nullable ≡ pn → (pn && not (test m)) ≡ false → p.Is [] a n → test m ≡ true
  empty_first a n m true pn_is ends is = not_false ends
  empty_first a n m false pn_is ends is = absurd (first.filled pn_is a n is)

  empty_second : (a : A) (n m : Option T) (qn : Bool) → q.nullable ≡ qn → (qn && test m) ≡ false → q.Is [] a n → test m ≡ false
  empty_second a n m true qn_is ends is = ends
  empty_second a n m false qn_is ends is = absurd (second.filled qn_is a n is)

  either_followed : (ts : List T) (a : A) (n m : Option T) → (either test p q).Is ts a n → (either test p q).more m ≡ false → (either test p q).Is ts a m
  either_followed (t ∷ us) a n m is ends =
      choose (test (Some t)) is (λ _ is. first.followed (t ∷ us) a n m is (or_false (or_false ends).0).0) (λ _ is. second.followed (t ∷ us) a n m is (or_false (or_false ends).0).1)
  either_followed [] a n m is ends =
      either_of (test n) is (λ _ is. take_first _ (empty_first a n m p.nullable refl (or_false (or_false ends).1).0 is) (first.followed [] a n m is (or_false (or_false ends).0).0))
      (λ _ is. take_second _ (empty_second a n m q.nullable refl (or_false (or_false ends).1).1 is) (second.followed [] a n m is (or_false (or_false ends).0).1))

  pub settled_either : Settled (either test p q)
  settled_either = record {
    outcome = λ ts. either_outcome ts (test (head ts)) refl;
    complete = λ ts a rest is.
        either_of (test (ahead ts (head rest))) is (λ begins is. reads_first (Ok (a, rest)) (ts ++ rest) (ap test (head_behind ts rest) ∙ begins) (first.complete ts a rest is))
        (λ lacks is. reads_second (Ok (a, rest)) (ts ++ rest) (ap test (head_behind ts rest) ∙ lacks) (second.complete ts a rest is));
    halting = λ front unfit behind is.
        either_of (test (ahead (front ++ unfit) (head behind))) is
        (λ begins is. reads_first (Err (unfit ++ behind)) (front ++ (unfit ++ behind)) (ap test (head_three front unfit behind) ∙ begins) (first.halting front unfit behind is))
        (λ lacks is. reads_second (Err (unfit ++ behind)) (front ++ (unfit ++ behind)) (ap test (head_three front unfit behind) ∙ lacks) (second.halting front unfit behind is));
    followed = either_followed;
    filled = λ full a n is. either_of (test n) is (λ _ is. first.filled (or_false full).0 a n is) (λ _ is. second.filled (or_false full).1 a n is);
    begins = λ t ts a n is. either_of (test (Some t)) is (λ _ is. or_left _ (q.starts (Some t)) (first.begins t ts a n is)) (λ _ is. or_other (p.starts (Some t)) (second.begins t ts a n is));
  }

module _ {T A : Type 0} (fits : A → Bool) (p : Phrase T A) (settled : Settled p) where
  abbrev tested : List T → A × List T → Reading T A
  tested ts a = where_fit (fits a.0) a.0 a.1 ts

  fit_outcome : (ts : List T) (a : A) (rest : List T) → StandsFirst p ts a rest → (b : Bool) → fits a ≡ b → Outcome (fitted fits p) ts (where_fit b a rest ts)
  fit_outcome ts a rest is true it_fits = record { front = is.front; parts = is.parts; is = (is.is, it_fits) }
  fit_outcome ts a rest is false unfits = record { front = []; unfit = is.front; behind = rest; parts = refl; place = is.parts; halts = inr (refl, a, is.is, unfits) }

  fitted_outcome : (ts : List T) (r : Reading T A) → Outcome p ts r → Outcome (fitted fits p) ts (r >>= tested ts)
  fitted_outcome ts (Ok r) is = fit_outcome ts r.0 r.1 is (fits r.0) refl
  fitted_outcome ts (Err at) is = record { front = is.front; unfit = is.unfit; behind = is.behind; parts = is.parts; place = is.place; halts = inl is.halts }

  fitted_halting : (front unfit behind : List T) → (fitted fits p).Halts front unfit (head behind) → (fitted fits p).read (front ++ (unfit ++ behind)) ≡ Err (unfit ++ behind)
  fitted_halting front unfit behind (inl is) = ap (λ r. r >>= tested (front ++ (unfit ++ behind))) (settled.halting front unfit behind is)
  fitted_halting front unfit behind (inr (empty, a, is, unfits)) =
      ap (λ us. (fitted fits p).read (us ++ (unfit ++ behind))) empty ∙ ap (λ r. r >>= tested (unfit ++ behind))
      (settled.complete unfit a behind is) ∙ ap (λ b. where_fit b a behind (unfit ++ behind)) unfits

  pub settled_fitted : Settled (fitted fits p)
  settled_fitted = record {
    outcome = λ ts. fitted_outcome ts (p.read ts) (settled.outcome ts);
    complete = λ ts a rest is. ap (λ r. r >>= tested (ts ++ rest)) (settled.complete ts a rest is.0) ∙ ap (λ b. where_fit b a rest (ts ++ rest)) is.1;
    halting = fitted_halting;
    followed = λ ts a n m is ends. (settled.followed ts a n m is.0 ends, is.1);
    filled = λ full a n is. settled.filled full a n is.0;
    begins = λ t ts a n is. settled.begins t ts a n is.0;
  }
