-- The key law.
use Rattle.std.proofs.Common.{◌≡◌, ℕ, true, List, [], ◌∷◌, ◌++◌, Option, Some, None, cond, refl, ap, sym, ◌∙◌, append_assoc}
use Rattle.npf_types.specs.declared.key.Key.{Key}
use Rattle.npf_core.specs.declared.{entry.Entry.Entry, found.Found.Found, held.Held.Held, reply.Reply.TheVariants.ToHold, stage.Stage.TheVariants.Building}
use Rattle.npf_core.specs.{History.{MayFollow, after, Legal, LegalFrom, state_of, state_from}, KeyLaw.{Gives, KeepsKeys, SharesNoKey, WasGiven, StaysHolder}}
use Rattle.npf_core.specs.{Machine.{Machine, opening, stage_of, is_key, IsAlive}, Meaning.Meaning, NextState.holder_or, Replies.held_by}
use Rattle.npf_core.proofs.HistoryLemmas.{state_from-append, LegalFrom-rest, MayFollow-split, by_entries}
use Rattle.npf_core.proofs.HolderLemmas.{Passes, rests, gives, loses, passes, may_hold, may_unhold, after_hold}
use Rattle.npf_core.proofs.LifeLemmas.{Life, to_come, built, lives, killed, gone, stage_in, stage_of-is, life_of, Moves, keeps, claims, starts, steps, abandons, expires, frees, entry_moves}
use Rattle.npf_core.proofs.EqualityLemmas.{is_key-Decides}

-- a life that is Building or Live holds the key, and one that is over owes nothing
abbrev pub Keeps : {S : Type 0} → Option Found → Found → Life S → Type 0
Keeps holder found to_come = ⊥
Keeps holder found (built seat) = holder ≡ Some found
Keeps holder found (lives flow n) = holder ≡ Some found
Keeps holder found killed = Unit {0}
Keeps holder found gone = Unit {0}

keeps_alive : {S : Type 0} (holder : Option Found) (found : Found) (x : Life S) → Keeps holder found x → IsAlive (stage_in x) → holder ≡ Some found
keeps_alive holder found to_come h alive = absurd h
keeps_alive holder found (built seat) h alive = h
keeps_alive holder found (lives flow n) h alive = h
keeps_alive holder found killed h alive = absurd alive
keeps_alive holder found gone h alive = absurd alive

alive_keeps : {S : Type 0} (holder : Option Found) (found : Found) (x : Life S) → holder ≡ Some found → IsAlive (stage_in x) → Keeps holder found x
alive_keeps holder found to_come h alive = alive
alive_keeps holder found (built seat) h alive = h
alive_keeps holder found (lives flow n) h alive = h
alive_keeps holder found killed h alive = tt
alive_keeps holder found gone h alive = tt

module _ {S A R : Type 0} (m : Meaning S A R) (entry : Entry S A R) (found : Found) (holder next : Option Found) where
  still : (x : Life S) → (IsAlive (stage_in x) → holder ≡ Some found → next ≡ Some found) → Keeps holder found x → Keeps next found x
  still to_come f h = h
  still (built seat) f h = f tt h
  still (lives flow n) f h = f tt h
  still killed f h = tt
  still gone f h = tt

  keeps_moves : (x y : Life S) → Moves m entry.seat entry.act entry.reply found.id x y → (IsAlive (stage_in x) → holder ≡ Some found → next ≡ Some found) →
      Keeps holder found x → Keeps next found y
  keeps_moves _ _ (keeps {x} silent) f h = still x f h
  keeps_moves _ _ (claims packet act reply) f h = absurd h
  keeps_moves _ _ (starts packet init act answer) f h = f tt h
  keeps_moves _ _ (steps packet way arg flow n act reply) f h = f tt h
  keeps_moves _ _ (abandons act answer) f h = tt
  keeps_moves _ _ (expires now flow n act answer due) f h = tt
  keeps_moves _ _ (frees act answer) f h = tt

module _ {S A R : Type 0} (m : Meaning S A R) (slots : ℕ) where
  -- a key isn't taken from a connection that is Building or Live
  holder_rests : (k : Machine S) (entry : Entry S A R) (key : Key) (found : Found) (x y : Option Found) → Passes entry.act key x y →
      MayFollow m slots k entry → IsAlive (stage_of k found.id) → x ≡ Some found → y ≡ Some found
  holder_rests k entry key found _ _ rests follows alive e = e
  holder_rests k entry key found _ _ (gives given act) follows alive e = absurd cc
  holder_rests k entry key found _ _ (loses lost act) follows alive e =
      let same : lost ≡ found = cc in
      let over = (may_unhold m slots k entry.seat entry.act lost.id lost.way act follows.allowed).killed in
      absurd (rw (← same, over) at alive)

  -- by one entry
  pub holder_stays : (k : Machine S) (entry : Entry S A R) (key : Key) (found : Found) → MayFollow m slots k entry →
      IsAlive (stage_of k found.id) → k.holder key ≡ Some found → (after m k entry).holder key ≡ Some found
  holder_stays k entry key found follows = holder_rests k entry key found _ _ (passes entry.act key (k.holder key)) follows

  -- who holds a key holds it after more entries, if it is Building or Live then
  pub holder_kept : (k : Machine S) (entries : List (Entry S A R)) (key : Key) (found : Found) → LegalFrom m slots k entries →
      Keeps (k.holder key) found (life_of k found.id) → Keeps ((state_from m k entries).holder key) found (life_of (state_from m k entries) found.id)
  holder_kept k entries key found legal h =
      by_entries m slots (λ _ k. Keeps (k.holder key) found (life_of k found.id))
      (λ past k entry h follows.
      keeps_moves m entry found (k.holder key) ((after m k entry).holder key) _ _ (entry_moves m slots k entry found.id follows)
      (λ alive e. holder_stays k entry key found follows (rw stage_of-is alive) e) h)
      [] k entries h legal

  -- a Hold that is Done makes its connection the holder
  hold_gives : (key : Key) (found : Found) (x : Option Found) → Held.Done ≡ held_by x → cond (is_key key key) (holder_or x found) x ≡ Some found
  hold_gives key found None e = let same : is_key key key ≡ true = (is_key-Decides key key).1 refl in rw same refl
  hold_gives key found (Some other) e = absurd cc

  built_keeps : (holder : Option Found) (found : Found) (seat : ℕ) (x : Life S) → stage_in x ≡ Building seat → holder ≡ Some found → Keeps holder found x
  built_keeps holder found seat to_come e h = absurd cc
  built_keeps holder found seat (built by) e h = h
  built_keeps holder found seat (lives flow n) e h = h
  built_keeps holder found seat killed e h = tt
  built_keeps holder found seat gone e h = tt

  -- a connection that is Building or Live holds every key that a Hold gave it
  pub keeps_keys : KeepsKeys m slots
  keeps_keys history key found legal given alive =
      let entry = given.entry in
      let k = state_of m given.earlier in
      let whole : Legal m slots (given.earlier ++ entry ∷ given.later) = rw given.split at legal in
      let follows = MayFollow-split m slots given.earlier given.later entry whole in
      let hold = may_hold m slots k entry.seat entry.act found.id key found.way given.act follows.allowed in
      let replied : entry.reply ≡ ToHold (held_by (k.holder key)) = rw given.act at follows.replied in
      let free : Held.Done ≡ held_by (k.holder key) = cc (replied, given.done) in
      let holds : (after m k entry).holder key ≡ Some found = rw given.act (hold_gives key found (k.holder key) free) in
      let stage = after_hold m slots k entry found.id found.id key found.way given.act ∙ hold.built in
      let first = built_keeps ((after m k entry).holder key) found entry.seat (life_of (after m k entry) found.id) (sym (stage_of-is (after m k entry) found.id) ∙ stage) holds in
      let last = holder_kept (after m k entry) given.later key found (LegalFrom-rest m slots opening given.earlier (entry ∷ given.later) whole).1 first in
      let end : state_of m history ≡ state_from m (after m k entry) given.later = ap (state_of m) given.split ∙ state_from-append m opening given.earlier (entry ∷ given.later) in
      ap (λ (k : Machine S). k.holder key) end ∙ keeps_alive _ found _ last (rw (← stage_of-is _ found.id, ← end) alive)

  -- no key has two holders
  pub shares_no_key : SharesNoKey m slots
  shares_no_key history key found other legal given alive given' alive' =
      let first = keeps_keys history key found legal given alive in
      let second = keeps_keys history key other legal given' alive' in
      cc (first, second)

  -- a holder stays the holder while it is Building or Live
  pub stays_holder : StaysHolder m slots
  stays_holder k entries key found legal holds alive later =
      let first = alive_keeps (k.holder key) found (life_of k found.id) holds (rw stage_of-is at alive) in
      keeps_alive _ found _ (holder_kept k entries key found legal first) (rw stage_of-is at later)

  -- what was given stays so as the history goes on
  given_more : (past : List (Entry S A R)) (entry : Entry S A R) (key : Key) (found : Found) → Gives past key found → Gives (past ++ entry ∷ []) key found
  given_more past entry key found given = record {
    earlier = given.earlier;
    entry = given.entry;
    later = given.later ++ entry ∷ [];
    split = ap (λ es. es ++ entry ∷ []) given.split ∙ append_assoc given.earlier (given.entry ∷ given.later) (entry ∷ []);
    act = given.act;
    done = given.done;
  }

  given_by : (past : List (Entry S A R)) (k : Machine S) (entry : Entry S A R) (key : Key) (found : Found) (x y : Option Found) → Passes entry.act key x y →
      MayFollow m slots k entry → k.holder key ≡ x → y ≡ Some found → (k.holder key ≡ Some found → Gives past key found) → Gives (past ++ entry ∷ []) key found
  given_by past k entry key found _ _ rests follows was now before = given_more past entry key found (before (was ∙ now))
  given_by past k entry key found _ _ (gives given act) follows was now before =
      let same : given ≡ found = cc in
      let replied : entry.reply ≡ ToHold (held_by (k.holder key)) = rw act at follows.replied in
      let done : entry.reply ≡ ToHold Held.Done = replied ∙ ap (λ h. ToHold (held_by h)) was in
      record { earlier = past; entry = entry; later = []; split = refl; act = rw same at act; done = done }
  given_by past k entry key found _ _ (loses lost act) follows was now before = absurd cc

  -- who holds a key was given it by a Hold
  pub was_given : WasGiven m slots
  was_given history key found legal =
      by_entries m slots (λ past k. k.holder key ≡ Some found → Gives past key found)
      (λ past k entry before follows e. given_by past k entry key found _ _ (passes entry.act key (k.holder key)) follows refl e before)
      [] opening history (λ e. absurd cc) legal
