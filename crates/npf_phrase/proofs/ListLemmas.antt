-- Lists with separators, read in a loop, an item a turn.
use Rattle.std.proofs.Common.{◌≡◌, ◌+◌, ◌≤◌, ◌<◌, Bool, true, false, ◌||◌, ◌&&◌, if◌then◌else◌, Option, Some, None, Ok, Err, List, [], ◌∷◌, ◌++◌, length, refl, sym, ap, ◌∙◌, append_assoc, arith}
use Rattle.std.proofs.lemmas.{List.length-append, Bool.or_left}
use Rattle.npf_phrase.specs.Phrase.{Phrase, Reading, ◌>>=◌, head, any_number, with_item}
use Rattle.npf_phrase.{specs.Grammar.{Grammar, meaning, preceded, those_there, sparse_list, unless}, proofs.NumberLemmas.{takes_some, number_step}}
use Rattle.npf_phrase.proofs.{TestLemmas.advances, GrammarLemmas.{settled, read_takes}}

-- reading leaves no more tokens than there were, and fewer where the phrase isn't empty
pub leaves : {T A : Type 0} (g : Grammar T A) → advances g ≡ true → (ts : List T) (a : A) (rest : List T) → (meaning g).read ts ≡ Ok (a, rest) → length rest ≤ length ts
leaves g is ts a rest reads =
    let taken = read_takes (meaning g) (settled g is) ts a rest reads in
    let count : length ts ≡ length taken.front + length rest = ap length taken.parts ∙ length-append taken.front rest in
    omega arith

pub shortens : {T A : Type 0} (g : Grammar T A) → advances g ≡ true → (meaning g).nullable ≡ false →
    (ts : List T) (a : A) (rest : List T) → (meaning g).read ts ≡ Ok (a, rest) → length rest < length ts
shortens g is full ts a rest reads =
    let taken = read_takes (meaning g) (settled g is) ts a rest reads in
    let some = takes_some (meaning g) (settled g is) full taken.front a (head rest) taken.is in
    let count : length ts ≡ length taken.front + length rest = ap length taken.parts ∙ length-append taken.front rest in
    omega arith

-- items before those that are read behind them
abbrev pub extend : {T A : Type 0} → List A → Reading T (List A) → Reading T (List A)
extend done (Ok r) = Ok (done ++ r.0, r.1)
extend done (Err at) = Err at

pub extend_none : {T A : Type 0} (r : Reading T (List A)) → r ≡ extend [] r
extend_none (Ok r) = refl
extend_none (Err at) = refl

extend_more : {T A : Type 0} (done more : List A) (r : Reading T (List A)) → extend done (extend more r) ≡ extend (done ++ more) r
extend_more done more (Ok r) = ap (λ items. Ok (items, r.1)) (sym (append_assoc done more r.0))
extend_more done more (Err at) = refl

or_lacks : {a b : Bool} (c : Bool) → a ≡ false → b ≡ false → (a || (b && c)) ≡ false
or_lacks {a = true} c is full = cc
or_lacks {a = false} {b = true} c is full = cc
or_lacks {a = false} {b = false} c is full = refl

and_not : {a : Bool} (b : Bool) → a ≡ false → (a && b) ≡ false
and_not {a = true} b is = cc
and_not {a = false} b is = refl

-- an item, where it is there
abbrev pub if_there : {A : Type 0} → Option A → List A
if_there (Some a) = a ∷ []
if_there None = []

module _ {T A S : Type 0} (separator : Grammar T S) (entry : Grammar T (Option A)) where
  abbrev next : Phrase T (Option A)
  next = meaning (preceded separator entry)

  abbrev others : List T → Reading T (List (Option A))
  others = (any_number next).read

  abbrev whole : List T → Reading T (List A)
  whole = (meaning (sparse_list separator entry)).read

  abbrev with_entry : Option A → Reading T (List (Option A)) → Reading T (List A)
  with_entry e (Ok r) = Ok (those_there (e ∷ r.0), r.1)
  with_entry e (Err at) = Err at

  abbrev read_on : Option A × List T → Reading T (List A)
  read_on e = with_entry e.0 (others e.1)

  abbrev listed : Option A → List (Option A) × List T → Reading T (Option A × List (Option A))
  listed e b = Ok ((e, b.0), b.1)

  abbrev consed : (Option A × List (Option A)) × List T → Reading T (List (Option A))
  consed ab = Ok (ab.0.0 ∷ ab.0.1, ab.1)

  abbrev keeping : List (Option A) × List T → Reading T (List A)
  keeping items = Ok (those_there items.0, items.1)

  abbrev paired : S → Option A × List T → Reading T (S × Option A)
  paired s b = Ok ((s, b.0), b.1)

  abbrev second : (S × Option A) × List T → Reading T (Option A)
  second ab = Ok (ab.0.1, ab.1)

  whole_by : (e : Option A) (r : Reading T (List (Option A))) → (((r >>= listed e) >>= consed) >>= keeping) ≡ with_entry e r
  whole_by e (Ok r) = refl
  whole_by e (Err at) = refl

  whole_from : (r : Reading T (Option A)) → (((r >>= (λ a. others a.1 >>= listed a.0)) >>= consed) >>= keeping) ≡ (r >>= read_on)
  whole_from (Ok r) = whole_by r.0 (others r.1)
  whole_from (Err at) = refl

  -- an entry, and then the others
  whole_is : (ts : List T) (r : Reading T (Option A)) → (meaning entry).read ts ≡ r → whole ts ≡ (r >>= read_on)
  whole_is ts r reads = whole_from ((meaning entry).read ts) ∙ ap (λ r. r >>= read_on) reads

  with_item_too : (e e' : Option A) (r : Reading T (List (Option A))) → with_entry e (with_item e' r) ≡ extend (if_there e) (with_entry e' r)
  with_item_too (Some a) (Some b) (Ok r) = refl
  with_item_too (Some a) None (Ok r) = refl
  with_item_too (Some a) e' (Err at) = refl
  with_item_too None e' (Ok r) = refl
  with_item_too None e' (Err at) = refl

  with_next : (e : Option A) (s : S) (r : Reading T (Option A)) →
      with_entry e (((r >>= paired s) >>= second) >>= (λ e'. with_item e'.0 (others e'.1))) ≡ extend (if_there e) (r >>= read_on)
  with_next e s (Ok r) = with_item_too e r.0 (others r.1)
  with_next e s (Err at) = refl

  with_none : (e : Option A) (us : List T) → with_entry e (Ok ([], us)) ≡ Ok (if_there e, us)
  with_none (Some a) us = refl
  with_none None us = refl

  module _ (is : advances (preceded separator entry) ≡ true) (full : (meaning separator).nullable ≡ false) where
    step : (us : List T) (b : Bool) → next.starts (head us) ≡ b → others us ≡ (if b then (next.read us >>= (λ e'. with_item e'.0 (others e'.1))) else Ok ([], us))
    step = number_step next (settled (preceded separator entry) is) (and_not (meaning entry).nullable full)

    -- a loop has read some of the items, and goes on with these tokens
    module _ (all : Reading T (List A)) (done : List A) (ts : List T) (so_far : all ≡ extend done (whole ts)) where
      -- an entry and a separator behind it
      pub goes_on : (e : Option A) (us vs : List T) (s : S) → (meaning entry).read ts ≡ Ok (e, us) → (meaning separator).starts (head us) ≡ true →
          (meaning separator).read us ≡ Ok (s, vs) → all ≡ extend (done ++ if_there e) (whole vs)
      goes_on e us vs s reads begins separates =
          so_far ∙ ap (extend done) (whole_is ts (Ok (e, us)) reads
          ∙ ap (with_entry e) (step us true (or_left _ ((meaning separator).nullable && (meaning entry).starts (head us)) begins)
          ∙ ap (λ r. ((r >>= (λ a. (meaning entry).read a.1 >>= paired a.0)) >>= second) >>= (λ e'. with_item e'.0 (others e'.1))) separates)
          ∙ with_next e s ((meaning entry).read vs) ∙ ap (extend (if_there e)) (sym (whole_is vs ((meaning entry).read vs) refl)))
          ∙ extend_more done (if_there e) (whole vs)

      -- the last entry
      pub ends_with : (e : Option A) (us : List T) → (meaning entry).read ts ≡ Ok (e, us) → (meaning separator).starts (head us) ≡ false → all ≡ Ok (done ++ if_there e, us)
      ends_with e us reads lacks =
          so_far ∙ ap (extend done) (whole_is ts (Ok (e, us)) reads ∙ ap (with_entry e) (step us false (or_lacks ((meaning entry).starts (head us)) lacks full)) ∙ with_none e us)

      -- no entry stands there
      pub fails_at : (at : List T) → (meaning entry).read ts ≡ Err at → all ≡ Err at
      fails_at at reads = so_far ∙ ap (extend done) (whole_is ts (Err at) reads)

-- an item of a block, by whether it is closed there
pub left_out : {T A : Type 0} (closes : Option T → Bool) (g : Grammar T A) (ts : List T) → closes (head ts) ≡ true → (meaning (unless closes g)).read ts ≡ Ok (None, ts)
left_out closes g ts closed = ap (λ b. if b then Ok (None, ts) else ((meaning g).read ts >>= (λ a. Ok (Some a.0, a.1)))) closed

pub not_left_out : {T A : Type 0} (closes : Option T → Bool) (g : Grammar T A) (ts : List T) (r : Reading T A) → closes (head ts) ≡ false →
    (meaning g).read ts ≡ r → (meaning (unless closes g)).read ts ≡ (r >>= (λ a. Ok (Some a.0, a.1)))
not_left_out closes g ts r stands reads = ap (λ b. if b then Ok (None, ts) else ((meaning g).read ts >>= (λ a. Ok (Some a.0, a.1)))) stands ∙ ap (λ r. r >>= (λ a. Ok (Some a.0, a.1))) reads
