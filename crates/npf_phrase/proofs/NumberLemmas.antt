-- Phrases that stand any number of times.
use Rattle.std.proofs.Common.{◌≡◌, ℕ, zero, suc, ◌+◌, ◌<◌, Bool, true, false, ◌||◌, Option, Some, Ok, Err, List, [], ◌∷◌, ◌++◌, length, if◌then◌else◌, refl, sym, ap, subst, ◌∙◌, append_assoc, arith}
use Rattle.std.proofs.lemmas.List.{length-append}
use Rattle.npf_phrase.specs.{Phrase.{Phrase, Reading, ◌>>=◌, ahead, head, are_items, items_halt, with_item, read_items, any_number}, Place.StandsFirst}
use Rattle.npf_phrase.proofs.{ReadingLemmas.{head_behind, head_parts, head_three, joined_parts, or_false}, SettledLemmas.{Outcome, Settled, followed_by}}

module _ {T A : Type 0} (p : Phrase T A) (settled : Settled p) (full : p.nullable ≡ false) where
  pub takes_some : (one : List T) (a : A) (n : Option T) → p.Is one a n → 0 < length one
  takes_some [] a n is = absurd (settled.filled full a n is)
  takes_some (t ∷ us) a n is = omega arith

  fewer : (ts one rest : List T) (a : A) (n : Option T) (k : ℕ) → length ts < suc k → p.Is one a n → ts ≡ one ++ rest → length rest < k
  fewer ts one rest a n k less is parts =
      let count : length ts ≡ length one + length rest = ap length parts ∙ length-append one rest in
      let taken = takes_some one a n is in
      omega arith

  none_left : {R : Type 0} (n : ℕ) → n < 0 → R
  none_left n less = absurd (let none : ⊥ = omega (arith, less) in none)

  abbrev behind_item : ℕ → A × List T → Reading T (List A)
  behind_item k a = with_item a.0 (read_items p k a.1)

  turn : (k : ℕ) (ts : List T) → read_items p (suc k) ts ≡ (if p.starts (head ts) then (p.read ts >>= behind_item k) else Ok ([], ts))
  unfolding read_items
  turn k ts = refl

  turn_by : (k : ℕ) (ts : List T) (b : Bool) → p.starts (head ts) ≡ b → read_items p (suc k) ts ≡ (if b then (p.read ts >>= behind_item k) else Ok ([], ts))
  turn_by k ts b is = turn k ts ∙ ap (λ b. if b then (p.read ts >>= behind_item k) else Ok ([], ts)) is

  rest_outcome : (ts : List T) (a : A) (mid : List T) → p.starts (head ts) ≡ true → StandsFirst p ts a mid →
      (r : Reading T (List A)) → Outcome (any_number p) mid r → Outcome (any_number p) ts (with_item a r)
  rest_outcome ts a mid begins is (Ok r) onward =
      let parts = joined_parts is.front onward.front r.1 is.parts onward.parts in
      record {
        front = is.front ++ onward.front;
        parts = parts;
        is = (
          is.front,
          onward.front,
          refl,
          ap p.starts (sym (head_parts (is.front ++ onward.front) r.1 parts)) ∙ begins,
          subst (p.Is is.front a) (head_parts onward.front r.1 onward.parts) is.is,
          onward.is,
        );
      }
  rest_outcome ts a mid begins is (Err at) onward =
      let parts = joined_parts is.front onward.front at is.parts onward.parts in
      let start = head_parts ((is.front ++ onward.front) ++ onward.unfit) onward.behind (joined_parts (is.front ++ onward.front) onward.unfit onward.behind parts onward.place) in
      record {
        front = is.front ++ onward.front;
        unfit = onward.unfit;
        behind = onward.behind;
        parts = parts;
        place = onward.place;
        halts = (
          a ∷ onward.halts.0,
          (
            is.front,
            onward.front,
            refl,
            ap p.starts (sym start) ∙ begins,
            subst (p.Is is.front a) (ap head (onward.parts ∙ ap (λ us. onward.front ++ us) onward.place) ∙ head_three onward.front onward.unfit onward.behind) is.is,
            onward.halts.1,
          ),
        );
      }

  abbrev EachOutcome : ℕ → Type 0
  EachOutcome k = (us : List T) → length us < k → Outcome (any_number p) us (read_items p k us)

  item_outcome : (k : ℕ) (ts : List T) → length ts < suc k → EachOutcome k → p.starts (head ts) ≡ true → (r : Reading T A) → Outcome p ts r → Outcome (any_number p) ts (r >>= behind_item k)
  item_outcome k ts less again begins (Ok r) is = rest_outcome ts r.0 r.1 begins is (read_items p k r.1) (again r.1 (fewer ts is.front r.1 r.0 (head r.1) k less is.is is.parts))
  item_outcome k ts less again begins (Err at) is = record {
    front = is.front;
    unfit = is.unfit;
    behind = is.behind;
    parts = is.parts;
    place = is.place;
    halts = ([], (ap p.starts (sym (head_parts (is.front ++ is.unfit) is.behind (joined_parts is.front is.unfit is.behind is.parts is.place))) ∙ begins, is.halts));
  }

  turn_outcome : (k : ℕ) (ts : List T) → length ts < suc k → EachOutcome k → (b : Bool) → p.starts (head ts) ≡ b → Outcome (any_number p) ts (if b then (p.read ts >>= behind_item k) else Ok ([], ts))
  turn_outcome k ts less again true begins = item_outcome k ts less again begins (p.read ts) (settled.outcome ts)
  turn_outcome k ts less again false lacks = record { front = []; parts = refl; is = (refl, lacks) }

  items_outcome : (k : ℕ) → EachOutcome k
  items_outcome zero ts less = none_left (length ts) less
  items_outcome (suc k) ts less = subst (Outcome (any_number p) ts) (sym (turn k ts)) (turn_outcome k ts less (items_outcome k) (p.starts (head ts)) refl)

  -- as many turns as there are tokens are enough
  same_turns : (k j : ℕ) (ts : List T) → length ts < suc k → length ts < suc j →
      ((us : List T) → length us < k → length us < j → read_items p k us ≡ read_items p j us) → (r : Reading T A) → Outcome p ts r →
      (r >>= behind_item k) ≡ (r >>= behind_item j)
  same_turns k j ts less fewer_yet again (Ok r) is =
      ap (with_item r.0) (again r.1 (fewer ts is.front r.1 r.0 (head r.1) k less is.is is.parts) (fewer ts is.front r.1 r.0 (head r.1) j fewer_yet is.is is.parts))
  same_turns k j ts less fewer_yet again (Err at) is = refl

  enough_turns : (k j : ℕ) (ts : List T) → length ts < k → length ts < j → read_items p k ts ≡ read_items p j ts
  enough_turns zero j ts less fewer_yet = none_left (length ts) less
  enough_turns (suc k) zero ts less fewer_yet = none_left (length ts) fewer_yet
  enough_turns (suc k) (suc j) ts less fewer_yet =
      turn k ts ∙ ap (λ r. if p.starts (head ts) then r else Ok ([], ts)) (same_turns k j ts less fewer_yet (λ us. enough_turns k j us) (p.read ts) (settled.outcome ts)) ∙ sym (turn j ts)

  one_turn : (ts : List T) (r : Reading T A) → Outcome p ts r → (r >>= behind_item (length ts)) ≡ (r >>= (λ a. with_item a.0 ((any_number p).read a.1)))
  one_turn ts (Ok r) is =
      let less : length r.1 < length ts = fewer ts is.front r.1 r.0 (head r.1) (length ts) (omega arith) is.is is.parts in
      ap (with_item r.0) (enough_turns (length ts) (suc (length r.1)) r.1 less (omega arith))
  one_turn ts (Err at) is = refl

  -- one item and then the others, where one begins; and else none
  pub number_step : (ts : List T) (b : Bool) → p.starts (head ts) ≡ b → (any_number p).read ts ≡ (if b then (p.read ts >>= (λ a. with_item a.0 ((any_number p).read a.1))) else Ok ([], ts))
  number_step ts b is = turn_by (length ts) ts b is ∙ ap (λ r. if b then r else Ok ([], ts)) (one_turn ts (p.read ts) (settled.outcome ts))

  reads_on : (k : ℕ) (ts : List T) (a : A) (mid : List T) (r : Reading T (List A)) → p.starts (head ts) ≡ true →
      p.read ts ≡ Ok (a, mid) → read_items p k mid ≡ r → read_items p (suc k) ts ≡ with_item a r
  reads_on k ts a mid r begins is onward = turn_by k ts true begins ∙ ap (λ r. r >>= behind_item k) is ∙ ap (with_item a) onward

  number_complete : (items : List A) (k : ℕ) (ts rest : List T) → length (ts ++ rest) < k → are_items p ts items (head rest) → read_items p k (ts ++ rest) ≡ Ok (items, rest)
  number_complete items zero ts rest less is = none_left (length (ts ++ rest)) less
  number_complete [] (suc k) ts rest less is = ap (λ us. read_items p (suc k) (us ++ rest)) is.0 ∙ turn_by k rest false is.1
  number_complete (a ∷ items) (suc k) ts rest less (one, other, parts, begins, is, onward) =
      let whole : ts ++ rest ≡ one ++ (other ++ rest) = ap (λ us. us ++ rest) parts ∙ append_assoc one other rest in
      reads_on k (ts ++ rest) a (other ++ rest) (Ok (items, rest)) (ap p.starts (head_behind ts rest) ∙ begins)
      (ap p.read whole ∙ settled.complete one a (other ++ rest) (subst (p.Is one a) (sym (head_behind other rest)) is))
      (number_complete items k other rest (fewer (ts ++ rest) one (other ++ rest) a (ahead other (head rest)) k less is whole) onward)

  number_halting : (items : List A) (k : ℕ) (front unfit behind : List T) → length (front ++ (unfit ++ behind)) < k →
      items_halt p items front unfit (head behind) → read_items p k (front ++ (unfit ++ behind)) ≡ Err (unfit ++ behind)
  number_halting items zero front unfit behind less is = none_left (length (front ++ (unfit ++ behind))) less
  number_halting [] (suc k) front unfit behind less (begins, is) =
      turn_by k (front ++ (unfit ++ behind)) true (ap p.starts (head_three front unfit behind) ∙ begins) ∙ ap (λ r. r >>= behind_item k) (settled.halting front unfit behind is)
  number_halting (a ∷ items) (suc k) front unfit behind less (one, other, parts, begins, is, onward) =
      let whole : front ++ (unfit ++ behind) ≡ one ++ (other ++ (unfit ++ behind)) = ap (λ us. us ++ (unfit ++ behind)) parts ∙ append_assoc one other (unfit ++ behind) in
      let stands : p.Is one a (head (other ++ (unfit ++ behind))) = subst (p.Is one a) (sym (head_three other unfit behind)) is in
      reads_on k (front ++ (unfit ++ behind)) a (other ++ (unfit ++ behind)) (Err (unfit ++ behind)) (ap p.starts (head_three front unfit behind) ∙ begins)
      (ap p.read whole ∙ settled.complete one a (other ++ (unfit ++ behind)) stands)
      (number_halting items k other unfit behind (fewer (front ++ (unfit ++ behind)) one (other ++ (unfit ++ behind)) a (head (other ++ (unfit ++ behind))) k less stands whole) onward)

  -- the first token is that of an item, whatever stands behind
  same_first : (ts one other : List T) (a : A) (k n m : Option T) → p.Is one a k → ts ≡ one ++ other → ahead ts n ≡ ahead ts m
  same_first ts [] other a k n m is parts = absurd (settled.filled full a k is)
  same_first ts (t ∷ us) other a k n m is parts = ap (λ us. ahead us n) parts ∙ sym (ap (λ us. ahead us m) parts)

  number_followed : (ts : List T) (items : List A) (n m : Option T) → are_items p ts items n → (p.starts m || p.more m) ≡ false → are_items p ts items m
  number_followed ts [] n m is ends = (is.0, (or_false ends).0)
  number_followed ts (a ∷ items) n m (one, other, parts, begins, is, onward) ends = (
    one,
    other,
    parts,
    ap p.starts (sym (same_first ts one other a (ahead other n) n m is parts)) ∙ begins,
    followed_by p settled other one a n m is (λ _. (or_false ends).1),
    number_followed other items n m onward ends,
  )

  number_begins : (t : T) (ts : List T) (items : List A) (n : Option T) → are_items p (t ∷ ts) items n → p.starts (Some t) ≡ true
  number_begins t ts [] n is = let taken = is.0 in cc
  number_begins t ts (a ∷ items) n (one, other, parts, begins, is, onward) = begins

  pub settled_number : Settled (any_number p)
  settled_number = record {
    outcome = λ ts. items_outcome (suc (length ts)) ts (omega arith);
    complete = λ ts items rest is. number_complete items (suc (length (ts ++ rest))) ts rest (omega arith) is;
    halting = λ front unfit behind is. number_halting is.0 (suc (length (front ++ (unfit ++ behind)))) front unfit behind (omega arith) is.1;
    followed = number_followed;
    filled = λ full a n is. cc;
    begins = number_begins;
  }
