-- Parts of a history.
use Rattle.std.{proofs.Common.{◌≡◌, ℕ, List, [], ◌∷◌, ◌++◌, refl, ap, sym, ◌∙◌, append_assoc, append-nil}, specs.Prelude.◌==◌}
use Rattle.std.proofs.lemmas.List.Elements.{filter-append}
use Rattle.npf_core.specs.declared.{entry.Entry.Entry, conn_id.ConnId.ConnId, replays.Asked.Asked}
use Rattle.npf_core.specs.History.{MayFollow, after, Legal, LegalFrom, state_from, state_of, IsPrefix, by, frees, is_free}
use Rattle.npf_core.specs.{HistoryLaw.{GoesOnLegally, ActsDecide}, Machine.{Machine, opening}, Meaning.Meaning, NextState.after_act, Replays.asked_in}
use Rattle.npf_core.specs.Replies.{reply_of}

-- the state after entries goes on from the state after the first of them
pub state_from-append : {S A R : Type 0} (m : Meaning S A R) (k : Machine S) (xs ys : List (Entry S A R)) → state_from m k (xs ++ ys) ≡ state_from m (state_from m k xs) ys
state_from-append m k [] ys = refl
state_from-append m k (x ∷ xs) ys = state_from-append m (after m k x) xs ys

-- the state after an appended entry is the table's next state
pub state_of-append : {S A R : Type 0} (m : Meaning S A R) (history : List (Entry S A R)) (entry : Entry S A R) → state_of m (history ++ entry ∷ []) ≡ after m (state_of m history) entry
state_of-append m history entry = state_from-append m opening history (entry ∷ [])

module _ {S A R : Type 0} (m : Meaning S A R) (slots : ℕ) where
  -- legality of the front, and of the rest in the state after the front
  pub LegalFrom-front : (k : Machine S) (xs ys : List (Entry S A R)) → LegalFrom m slots k (xs ++ ys) → LegalFrom m slots k xs
  LegalFrom-front k [] ys h = tt
  LegalFrom-front k (x ∷ xs) ys h = (h.0, LegalFrom-front (after m k x) xs ys h.1)

  pub LegalFrom-rest : (k : Machine S) (xs ys : List (Entry S A R)) → LegalFrom m slots k (xs ++ ys) → LegalFrom m slots (state_from m k xs) ys
  LegalFrom-rest k [] ys h = h
  LegalFrom-rest k (x ∷ xs) ys h = LegalFrom-rest (after m k x) xs ys h.1

  pub LegalFrom-append : (k : Machine S) (xs ys : List (Entry S A R)) → LegalFrom m slots k xs → LegalFrom m slots (state_from m k xs) ys → LegalFrom m slots k (xs ++ ys)
  LegalFrom-append k [] ys h g = g
  LegalFrom-append k (x ∷ xs) ys h g = (h.0, LegalFrom-append (after m k x) xs ys h.1 g)

  -- a prefix of a legal history is legal
  pub Legal-prefix : (earlier history : List (Entry S A R)) → IsPrefix earlier history → Legal m slots history → Legal m slots earlier
  Legal-prefix earlier history p h = LegalFrom-front opening earlier p.rest (rw p.goes_on at h)

  -- a legal history goes on by an entry that may follow
  pub Legal-append : (history : List (Entry S A R)) (entry : Entry S A R) → Legal m slots history → MayFollow m slots (state_of m history) entry → Legal m slots (history ++ entry ∷ [])
  Legal-append history entry h f = LegalFrom-append opening history (entry ∷ []) h (f, tt)

  -- in a legal history each entry may follow
  pub MayFollow-split : (before rest : List (Entry S A R)) (entry : Entry S A R) → Legal m slots (before ++ entry ∷ rest) → MayFollow m slots (state_of m before) entry
  MayFollow-split before rest entry h = (LegalFrom-rest opening before (entry ∷ rest) h).0

  -- what holds in the state after no entry, and in the state after each that may follow, holds after a history
  pub by_entries : (P : List (Entry S A R) → Machine S → Type 0) →
      ((past : List (Entry S A R)) (k : Machine S) (entry : Entry S A R) → P past k → MayFollow m slots k entry → P (past ++ entry ∷ []) (after m k entry)) →
      (past : List (Entry S A R)) (k : Machine S) (entries : List (Entry S A R)) → P past k → LegalFrom m slots k entries → P (past ++ entries) (state_from m k entries)
  by_entries P step past k [] p h = rw (append-nil past) p
  by_entries P step past k (x ∷ xs) p h =
      let rest = by_entries P step (past ++ x ∷ []) (after m k x) xs (step past k x p h.0) h.1 in
      rw (← append_assoc past (x ∷ []) xs) rest

cons_heads : {X : Type 0} {x y : X} {xs ys : List X} → x ∷ xs ≡ y ∷ ys → (x ≡ y) × (xs ≡ ys)
cons_heads {X} {x} {y} {xs} {ys} e = let heads : x ≡ y = cc in let rest : xs ≡ ys = cc in (heads, rest)

-- prefixes
pub IsPrefix-self : {E : Type 0} (xs : List E) → IsPrefix xs xs
IsPrefix-self xs = record { rest = []; goes_on = sym (append-nil xs) }

pub IsPrefix-append : {E : Type 0} (xs ys : List E) → IsPrefix xs (xs ++ ys)
IsPrefix-append xs ys = record { rest = ys; goes_on = refl }

pub IsPrefix-trans : {E : Type 0} (xs ys zs : List E) → IsPrefix xs ys → IsPrefix ys zs → IsPrefix xs zs
IsPrefix-trans xs ys zs p q = record {
  rest = p.rest ++ q.rest;
  goes_on = q.goes_on ∙ (ap (λ ws. ws ++ q.rest) p.goes_on ∙ append_assoc xs p.rest q.rest);
}

-- the entries of a number
pub by-append : {S A R : Type 0} (number : ℕ) (xs ys : List (Entry S A R)) → by number (xs ++ ys) ≡ by number xs ++ by number ys
by-append number xs ys = filter-append (λ entry. entry.seat == number) xs ys

-- the entries that free an identity
pub frees-append : {S A R : Type 0} (id : ConnId) (xs ys : List (Entry S A R)) → frees id (xs ++ ys) ≡ frees id xs ++ frees id ys
frees-append id xs ys = filter-append (λ entry. is_free id entry.act) xs ys

module _ {S A R : Type 0} (m : Meaning S A R) (slots : ℕ) where
  -- a history is legal with one more entry exactly where it is legal and the entry may follow
  pub goes_on_legally : GoesOnLegally m slots
  goes_on_legally history entry =
      (λ h. (LegalFrom-front m slots opening history (entry ∷ []) h, MayFollow-split m slots history [] entry h), λ h. Legal-append m slots history entry h.0 h.1)

module _ {S A R : Type 0} (m : Meaning S A R) (slots : ℕ) where
  same_entry : (x y : Entry S A R) → x.seat ≡ y.seat → x.act ≡ y.act → x.reply ≡ y.reply → x ≡ y
  same_entry x y seat act reply = λ i. record { seat = seat i; act = act i; reply = reply i }

  acts_decide_from : (k : Machine S) (xs ys : List (Entry S A R)) → LegalFrom m slots k xs → LegalFrom m slots k ys → asked_in xs ≡ asked_in ys → xs ≡ ys
  acts_decide_from k [] [] h g e = refl
  acts_decide_from k [] (y ∷ ys) h g e = absurd cc
  acts_decide_from k (x ∷ xs) [] h g e = absurd cc
  acts_decide_from k (x ∷ xs) (y ∷ ys) h g e =
      let heads = cons_heads e in
      let seat = ap (λ (a : Asked S A). a.seat) heads.0 in
      let act = ap (λ (a : Asked S A). a.act) heads.0 in
      let reply = h.0.replied ∙ (ap (reply_of m k) act ∙ sym g.0.replied) in
      let next : after m k x ≡ after m k y = λ i. after_act m k (seat i) (act i) in
      let rest = acts_decide_from (after m k x) xs ys h.1 (rw (← next) at g.1) heads.1 in
      λ i. same_entry x y seat act reply i ∷ rest i

  -- two legal histories of the same acts are one
  pub acts_decide : ActsDecide m slots
  acts_decide history other h g e = acts_decide_from opening history other h g e
