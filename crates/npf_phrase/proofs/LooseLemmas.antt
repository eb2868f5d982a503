-- The tokens before the place at which a grammar halts can be finished, were every value to fit.
use Rattle.std.proofs.Common.{◌≡◌, inl, inr, Bool, true, false, ◌||◌, ◌&&◌, Option, Some, None, List, [], ◌∷◌, ◌++◌, refl, sym, ap, subst, ◌∙◌, append_assoc, append-nil}
use Rattle.npf_phrase.specs.Phrase as P
use Rattle.npf_phrase.specs.{Phrase.{Phrase, ahead, chosen, are_items, items_halt}, Place.StandsFirst}
use Rattle.npf_phrase.specs.Grammar.{Grammar, token, pure, both, making, either, any_number, fitted, meaning, loose}
use Rattle.npf_phrase.proofs.{ReadingLemmas.{and_true, or_false, not_true, shown, choose, either_of, take_first, take_second}, SettledLemmas.Settled}
use Rattle.npf_phrase.proofs.{GrammarLemmas.settled, TestLemmas.{stands_apart, fine, fine_advances}}

fine_settled : {T A : Type 0} (g : Grammar T A) → fine g ≡ true → Settled (meaning g)
fine_settled g is = settled g (fine_advances g is)

-- these tokens can be finished
pub record Finished {T A : Type 0} (p : Phrase T A) (front : List T) : Type 0 where
  pub behind : List T
  pub a : A
  pub is : (n : Option T) → p.more n ≡ false → p.Is (front ++ behind) a n

-- an example, before what doesn't go on with it
pub record Exemplary {T A : Type 0} (p : Phrase T A) : Type 0 where
  pub value : A
  pub is : (n : Option T) → p.more n ≡ false → p.Is p.example value n

-- what comes before an example doesn't go on with it
module _ {T A : Type 0} (q : Phrase T A) (it : Settled q) (example : Exemplary q) where
  pub before_example : (more : Option T → Bool) → (us : List T) (n : Option T) (qn : Bool) → us ≡ q.example → q.nullable ≡ qn →
      stands_apart more us ≡ true → q.more n ≡ false → (qn && more n) ≡ false → more (ahead us n) ≡ false
  before_example more (u ∷ us) n qn us_is qn_is apart ends none = not_true apart
  before_example more [] n true us_is qn_is apart ends none = none
  before_example more [] n false us_is qn_is apart ends none = absurd (it.filled qn_is example.value n (subst (λ us. q.Is us example.value n) (sym us_is) (example.is n ends)))

pub exemplary : {T A : Type 0} (g : Grammar T A) → fine (loose g) ≡ true → Exemplary (meaning (loose g))
exemplary (token test example) is = let there = shown (test example) is in record { value = there.0; is = λ n ends. (example, refl, there.1) }
exemplary (pure a) is = record { value = a; is = λ n ends. (refl, refl) }
exemplary (both g h) is =
    let parts = and_true (and_true is).0 in
    let one = exemplary g parts.0 in
    let other = exemplary h parts.1 in
    let p = meaning (loose g) in
    let q = meaning (loose h) in
    record {
      value = (one.value, other.value);
      is = λ n ends. record {
        one = p.example;
        other = q.example;
        parts = refl;
        first = one.is (ahead q.example n) (before_example q (fine_settled (loose h) parts.1) other p.more q.example n q.nullable refl refl (and_true is).1 (or_false ends).0 (or_false ends).1);
        second = other.is n (or_false ends).0;
      };
    }
exemplary (making f g) is = let one = exemplary g is in record { value = f (meaning (loose g)).example one.value; is = λ n ends. (one.value, one.is n ends, refl) }
exemplary (either test g h) is =
    let parts = and_true (and_true is).0 in
    let other = exemplary h parts.1 in
    let q = meaning (loose h) in
    record {
      value = other.value;
      is = λ n ends.
          let last : q.more n ≡ false = (or_false (or_false ends).0).1 in
          take_second _ (before_example q (fine_settled (loose h) parts.1) other test q.example n q.nullable refl refl (and_true is).1 last (or_false (or_false ends).1).1) (other.is n last);
    }
exemplary (any_number g) is = record { value = []; is = λ n ends. (refl, (or_false ends).0) }
exemplary (fitted fits g) is = exemplary g is

same_nullable : {T A : Type 0} (g : Grammar T A) → (meaning (loose g)).nullable ≡ (meaning g).nullable
same_nullable (token test example) = refl
same_nullable (pure a) = refl
same_nullable (both g h) = ap (λ b. b && (meaning (loose h)).nullable) (same_nullable g) ∙ ap (λ b. (meaning g).nullable && b) (same_nullable h)
same_nullable (making f g) = same_nullable g
same_nullable (either test g h) = ap (λ b. b || (meaning (loose h)).nullable) (same_nullable g) ∙ ap (λ b. (meaning g).nullable || b) (same_nullable h)
same_nullable (any_number g) = refl
same_nullable (fitted fits g) = same_nullable g

same_starts : {T A : Type 0} (g : Grammar T A) (n : Option T) → (meaning (loose g)).starts n ≡ (meaning g).starts n
same_starts (token test example) n = refl
same_starts (pure a) n = refl
same_starts (both g h) n =
    ap (λ b. b || ((meaning (loose g)).nullable && (meaning (loose h)).starts n)) (same_starts g n)
    ∙ ap (λ b. (meaning g).starts n || (b && (meaning (loose h)).starts n)) (same_nullable g) ∙ ap (λ b. (meaning g).starts n || ((meaning g).nullable && b)) (same_starts h n)
same_starts (making f g) n = same_starts g n
same_starts (either test g h) n = ap (λ b. b || (meaning (loose h)).starts n) (same_starts g n) ∙ ap (λ b. (meaning g).starts n || b) (same_starts h n)
same_starts (any_number g) n = same_starts g n
same_starts (fitted fits g) n = same_starts g n

abbrev Weakens : {T A : Type 0} → Phrase T A → Phrase T A → Type 0
Weakens {T} {A} p p' = (ts : List T) (a : A) (n : Option T) → p.Is ts a n → p'.Is ts a n

number_weakens : {T A : Type 0} (p p' : Phrase T A) → ((n : Option T) → p'.starts n ≡ p.starts n) → Weakens p p' →
    (items : List A) (ts : List T) (n : Option T) → are_items p ts items n → are_items p' ts items n
number_weakens p p' same weaker [] ts n is = (is.0, same n ∙ is.1)
number_weakens p p' same weaker (a ∷ items) ts n (one, other, parts, begins, is, onward) =
    (one, other, parts, same (ahead ts n) ∙ begins, weaker one a (ahead other n) is, number_weakens p p' same weaker items other n onward)

weakens : {T A : Type 0} (g : Grammar T A) → Weakens (meaning g) (meaning (loose g))
weakens (token test example) ts a n is = is
weakens (pure b) ts a n is = is
weakens (both g h) ts a n is = record { one = is.one; other = is.other; parts = is.parts; first = weakens g is.one a.0 (ahead is.other n) is.first; second = weakens h is.other a.1 n is.second }
weakens (making f g) ts a n is = (is.0, weakens g ts is.0 n is.1, is.2)
weakens (either test g h) ts a n is = choose (test (ahead ts n)) is (λ _ is. weakens g ts a n is) (λ _ is. weakens h ts a n is)
weakens (any_number g) ts a n is = number_weakens (meaning g) (meaning (loose g)) (same_starts g) (λ us b m is. weakens g us b m is) a ts n is
weakens (fitted fits g) ts a n is = weakens g ts a n is.0

abbrev Finishes : {T A : Type 0} → Phrase T A → Phrase T A → Type 0
Finishes {T} p p' = (t : T) (front unfit : List T) (n : Option T) → p.Halts (t ∷ front) unfit n → Finished p' (t ∷ front)

module _ {T A B : Type 0} (p p' : Phrase T A) (q q' : Phrase T B) (one : Settled p') (two : Settled q') (example : Exemplary q') (apart : stands_apart p'.more q'.example ≡ true)
    (weaker : Weakens p p') (finish_p : Finishes p p') (finish_q : Finishes q q') where
  ends_first : (n : Option T) → (P.in_turn p' q').more n ≡ false → p'.more (ahead q'.example n) ≡ false
  ends_first n ends = before_example q' two example p'.more q'.example n q'.nullable refl refl apart (or_false ends).0 (or_false ends).1

  finishes_behind : (front unfit : List T) (n : Option T) (us vs : List T) (a : A) → front ≡ us ++ vs → p.Is us a (ahead (vs ++ unfit) n) → q.Halts vs unfit n → Finished (P.in_turn p' q') front
  finishes_behind front unfit n us [] a parts is halts = record {
    behind = q'.example;
    a = (a, example.value);
    is = λ m ends. record {
      one = us;
      other = q'.example;
      parts = ap (λ ws. ws ++ q'.example) (parts ∙ append-nil us);
      first = one.followed us a (ahead unfit n) (ahead q'.example m) (weaker us a (ahead unfit n) is) (ends_first m ends);
      second = example.is m (or_false ends).0;
    };
  }
  finishes_behind front unfit n us (t ∷ vs) a parts is halts =
      let last = finish_q t vs unfit n halts in
      record {
        behind = last.behind;
        a = (a, last.a);
        is = λ m ends. record {
          one = us;
          other = (t ∷ vs) ++ last.behind;
          parts = ap (λ ws. ws ++ last.behind) parts ∙ append_assoc us (t ∷ vs) last.behind;
          first = weaker us a (Some t) is;
          second = last.is m (or_false ends).0;
        };
      }

  both_finishes : Finishes (P.in_turn p q) (P.in_turn p' q')
  both_finishes t front unfit n (inl halts) =
      let begun = finish_p t front unfit n halts in
      record {
        behind = begun.behind ++ q'.example;
        a = (begun.a, example.value);
        is = λ m ends. record {
          one = (t ∷ front) ++ begun.behind;
          other = q'.example;
          parts = sym (append_assoc (t ∷ front) begun.behind q'.example);
          first = begun.is (ahead q'.example m) (ends_first m ends);
          second = example.is m (or_false ends).0;
        };
      }
  both_finishes t front unfit n (inr halts) = finishes_behind (t ∷ front) unfit n halts.one halts.other halts.a halts.parts halts.first halts.second

module _ {T A : Type 0} (p p' : Phrase T A) (it : Settled p') (same : (n : Option T) → p'.starts n ≡ p.starts n) (weaker : Weakens p p') (finish : Finishes p p') where
  number_finishes : (items : List A) (t : T) (front unfit : List T) (n : Option T) → items_halt p items (t ∷ front) unfit n → Finished (P.any_number p') (t ∷ front)
  number_finishes [] t front unfit n (begins, halts) =
      let last = finish t front unfit n halts in
      record {
        behind = last.behind;
        a = last.a ∷ [];
        is = λ m ends. ((t ∷ front) ++ last.behind, [], sym (append-nil ((t ∷ front) ++ last.behind)), same (Some t) ∙ begins, last.is m (or_false ends).1, (refl, (or_false ends).0));
      }
  number_finishes (a ∷ items) t front unfit n (us, [], parts, begins, is, onward) = record {
    behind = [];
    a = a ∷ [];
    is = λ m ends. (us, [], append-nil (t ∷ front) ∙ parts, same (Some t) ∙ begins, it.followed us a (ahead unfit n) m (weaker us a (ahead unfit n) is) (or_false ends).1, (refl, (or_false ends).0));
  }
  number_finishes (a ∷ items) t front unfit n (us, v ∷ vs, parts, begins, is, onward) =
      let last = number_finishes items v vs unfit n onward in
      record {
        behind = last.behind;
        a = a ∷ last.a;
        is = λ m ends. (us, (v ∷ vs) ++ last.behind, ap (λ ws. ws ++ last.behind) parts ∙ append_assoc us (v ∷ vs) last.behind, same (Some t) ∙ begins, weaker us a (Some v) is, last.is m ends);
      }

finishes : {T A : Type 0} (g : Grammar T A) → fine (loose g) ≡ true → Finishes (meaning g) (meaning (loose g))
finishes (token test example) is t front unfit n halts = let none_taken = halts.0 in cc
finishes (pure a) is t front unfit n halts = absurd halts
finishes (both g h) is t front unfit n halts =
    let parts = and_true (and_true is).0 in
    both_finishes (meaning g) (meaning (loose g)) (meaning h) (meaning (loose h)) (fine_settled (loose g) parts.0) (fine_settled (loose h) parts.1) (exemplary h parts.1) (and_true is).1
    (weakens g) (finishes g parts.0) (finishes h parts.1) t front unfit n halts
finishes (making f g) is t front unfit n halts = let last = finishes g is t front unfit n halts in
    record { behind = last.behind; a = f ((t ∷ front) ++ last.behind) last.a; is = λ m ends. (last.a, last.is m ends, refl) }
finishes (either test g h) is t front unfit n halts =
    let parts = and_true (and_true is).0 in
    either_of (test (Some t)) halts
    (λ begins halts. let last = finishes g parts.0 t front unfit n halts in record { behind = last.behind; a = last.a; is = λ m ends. take_first _ begins (last.is m (or_false (or_false ends).0).0) })
    (λ lacks halts. let last = finishes h parts.1 t front unfit n halts in record { behind = last.behind; a = last.a; is = λ m ends. take_second _ lacks (last.is m (or_false (or_false ends).0).1) })
finishes (any_number g) is t front unfit n halts =
    number_finishes (meaning g) (meaning (loose g)) (fine_settled (loose g) (and_true is).0) (same_starts g) (weakens g) (finishes g (and_true is).0) halts.0 t front unfit n halts.1
finishes (fitted fits g) is t front unfit n (inl halts) = finishes g is t front unfit n halts
finishes (fitted fits g) is t front unfit n (inr halts) = let none_taken = halts.0 in cc

-- where a grammar halts, what comes before can be finished, were every value to fit
pub viable : {T A : Type 0} (g : Grammar T A) → fine (loose g) ≡ true → (meaning (loose g)).more None ≡ false → (front unfit : List T) (n : Option T) → (meaning g).Halts front unfit n →
    (behind : List T) × (a : A) × StandsFirst (meaning (loose g)) (front ++ behind) a []
viable g is ends [] unfit n halts =
    let example = exemplary g is in
    ((meaning (loose g)).example, example.value, record { front = (meaning (loose g)).example; parts = sym (append-nil (meaning (loose g)).example); is = example.is None ends })
viable g is ends (t ∷ front) unfit n halts =
    let last = finishes g is t front unfit n halts in
    (last.behind, last.a, record { front = (t ∷ front) ++ last.behind; parts = sym (append-nil ((t ∷ front) ++ last.behind)); is = last.is None ends })
