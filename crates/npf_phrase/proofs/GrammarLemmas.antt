-- What holds of every grammar in which nothing that may be empty is repeated.
use Rattle.std.proofs.Common.{◌≡◌, ◌⊎◌, inl, inr, true, Option, Ok, Err, List, [], ◌∷◌, ◌++◌, sym, ap, subst, ◌∙◌}
use Rattle.npf_phrase.specs.{Phrase.{Phrase, Reading, head, items_halt}, Place.{StandsFirst, Stopped}}
use Rattle.npf_phrase.specs.Grammar.{Grammar, token, pure, both, making, either, any_number, fitted, meaning, IsUnfit}
use Rattle.npf_phrase.proofs.ReadingLemmas.{and_true, not_true, either_of}
use Rattle.npf_phrase.proofs.SettledLemmas.{Outcome, Settled, settled_token, settled_pure, settled_both, settled_making, settled_either, settled_fitted}
use Rattle.npf_phrase.proofs.{TestLemmas.advances, NumberLemmas.settled_number}

pub settled : {T A : Type 0} (g : Grammar T A) → advances g ≡ true → Settled (meaning g)
settled (token test example) is = settled_token test example
settled (pure a) is = settled_pure a
settled (both g h) is = settled_both (meaning g) (meaning h) (settled g (and_true is).0) (settled h (and_true is).1)
settled (making f g) is = settled_making f (meaning g) (settled g is)
settled (either test g h) is = settled_either test (meaning g) (meaning h) (settled g (and_true is).0) (settled h (and_true is).1)
settled (any_number g) is = settled_number (meaning g) (settled g (and_true is).0) (not_true (and_true is).1)
settled (fitted fits g) is = settled_fitted fits (meaning g) (settled g is)

module _ {T A : Type 0} (p : Phrase T A) (it : Settled p) where
  pub takes_read : (ts : List T) (a : A) (rest : List T) → StandsFirst p ts a rest → p.read ts ≡ Ok (a, rest)
  takes_read ts a rest is = ap p.read is.parts ∙ it.complete is.front a rest is.is

  pub stopped_read : (ts at : List T) → Stopped p ts at → p.read ts ≡ Err at
  stopped_read ts at is = ap p.read (is.parts ∙ ap (λ us. is.front ++ us) is.place) ∙ it.halting is.front is.unfit is.behind is.halts ∙ ap Err (sym is.place)

  takes_by : (ts : List T) (a : A) (rest : List T) (r : Reading T A) → Outcome p ts r → r ≡ Ok (a, rest) → StandsFirst p ts a rest
  takes_by ts a rest (Ok r) is reads = subst (Outcome p ts) reads is
  takes_by ts a rest (Err at) is reads = cc

  pub read_takes : (ts : List T) (a : A) (rest : List T) → p.read ts ≡ Ok (a, rest) → StandsFirst p ts a rest
  read_takes ts a rest reads = takes_by ts a rest (p.read ts) (it.outcome ts) reads

  stopped_by : (ts at : List T) (r : Reading T A) → Outcome p ts r → r ≡ Err at → Stopped p ts at
  stopped_by ts at (Ok r) is reads = cc
  stopped_by ts at (Err us) is reads = subst (Outcome p ts) reads is

  pub read_stopped : (ts at : List T) → p.read ts ≡ Err at → Stopped p ts at
  read_stopped ts at reads = stopped_by ts at (p.read ts) (it.outcome ts) reads

  -- tokens mean one thing at most, stop at one place at most, and never both
  pub one_meaning : (ts : List T) (a b : A) (rest others : List T) → StandsFirst p ts a rest → StandsFirst p ts b others → a ≡ b
  one_meaning ts a b rest others is or_this =
      let same : ◌≡◌ {A = Reading T A} (Ok (a, rest)) (Ok (b, others)) = sym (takes_read ts a rest is) ∙ takes_read ts b others or_this in
      let pair : ◌≡◌ {A = A × List T} (a, rest) (b, others) = cc in
      ap (λ r. r.0) pair

  pub one_stop : (ts one other : List T) → Stopped p ts one → Stopped p ts other → one ≡ other
  one_stop ts one other is or_there =
      let same : ◌≡◌ {A = Reading T A} (Err one) (Err other) = sym (stopped_read ts one is) ∙ stopped_read ts other or_there in
      cc

  pub never_both : (ts : List T) (a : A) (rest at : List T) → StandsFirst p ts a rest → ¬ Stopped p ts at
  never_both ts a rest at is stops =
      let same : ◌≡◌ {A = Reading T A} (Ok (a, rest)) (Err at) = sym (takes_read ts a rest is) ∙ stopped_read ts at stops in
      cc

  -- whatever else stands behind the next token, it isn't a phrase
  pub hopeless : (front unfit behind other : List T) (a : A) (rest : List T) → p.Halts front unfit (head behind) → head behind ≡ head other → ¬ StandsFirst p (front ++ (unfit ++ other)) a rest
  hopeless front unfit behind other a rest halts alike is =
      let stops : p.read (front ++ (unfit ++ other)) ≡ Err (unfit ++ other) = it.halting front unfit other (subst (p.Halts front unfit) alike halts) in
      let same : ◌≡◌ {A = Reading T A} (Ok (a, rest)) (Err (unfit ++ other)) = sym (takes_read (front ++ (unfit ++ other)) a rest is) ∙ stops in
      cc

-- what is unfit, where a grammar halts before something that is
abbrev MaybeUnfit : {T A : Type 0} → Grammar T A → List T → Option T → Type 0
MaybeUnfit g unfit n = (unfit ≡ []) ⊎ IsUnfit g unfit n

lifted : {R P Q : Type 0} → R ⊎ P → (P → Q) → R ⊎ Q
lifted (inl r) f = inl r
lifted (inr p) f = inr (f p)

items_unfit : {T A : Type 0} (g : Grammar T A) → ((front unfit : List T) (n : Option T) → (meaning g).Halts front unfit n → MaybeUnfit g unfit n) →
    (items : List A) (front unfit : List T) (n : Option T) → items_halt (meaning g) items front unfit n → MaybeUnfit g unfit n
items_unfit g each [] front unfit n (begins, halts) = each front unfit n halts
items_unfit g each (a ∷ items) front unfit n (one, other, parts, begins, is, onward) = items_unfit g each items other unfit n onward

pub halts_unfit : {T A : Type 0} (g : Grammar T A) (front unfit : List T) (n : Option T) → (meaning g).Halts front unfit n → MaybeUnfit g unfit n
halts_unfit (token test example) front unfit n halts = inl halts.1
halts_unfit (pure a) front unfit n halts = absurd halts
halts_unfit (both g h) front unfit n (inl halts) = lifted (halts_unfit g front unfit n halts) inl
halts_unfit (both g h) front unfit n (inr halts) = lifted (halts_unfit h halts.other unfit n halts.second) inr
halts_unfit (making f g) front unfit n halts = halts_unfit g front unfit n halts
halts_unfit (either test g h) front unfit n halts = either_of _ halts (λ _ halts. lifted (halts_unfit g front unfit n halts) inl) (λ _ halts. lifted (halts_unfit h front unfit n halts) inr)
halts_unfit (any_number g) front unfit n halts = items_unfit g (λ us vs m is. halts_unfit g us vs m is) halts.0 front unfit n halts.1
halts_unfit (fitted fits g) front unfit n (inl halts) = lifted (halts_unfit g front unfit n halts) inl
halts_unfit (fitted fits g) front unfit n (inr (empty, a, is, unfits)) = inr (inr (a, is, unfits))
