-- A connection that is over is given no key any more, and what a pass knows of one that it killed stays so as it sees more.
use Rattle.std.proofs.Common.{◌≡◌, ℕ, Option, Some, List, [], ◌∷◌, refl, sym, ap, ◌∙◌, subst}
use Rattle.npf_types.specs.declared.key.{Key.Key, Way.Way}
use Rattle.npf_core.specs.declared.{conn_id.ConnId.ConnId, entry.Entry.Entry, found.Found.Found, stage.Stage.TheVariants.{Building, Dead}}
use Rattle.npf_core.specs.{History.{LegalFrom, Legal, IsPrefix, MayFollow, after, state_from, state_of}, Machine.{Machine, Holds, stage_of}, Meaning.Meaning}
use Rattle.npf_core.proofs.{HistoryLemmas.{state_from-append, LegalFrom-rest, Legal-prefix}, HolderLemmas.{Passes, rests, gives, loses, passes, may_hold}}
use Rattle.npf_core.proofs.LifeLemmas.{Life, to_come, built, lives, killed, gone, stage_in, stage_of-is, life_of, Moves, keeps, claims}
use Rattle.npf_core.proofs.LifeLemmas.{starts, steps, abandons, expires, frees as is_freed, entry_moves}
use Rattle.npf_cells_lives.specs.Known.{FitsKnown}

-- killed, or freed
abbrev pub IsOver : {S : Type 0} → Life S → Type 0
IsOver to_come = ⊥
IsOver (built seat) = ⊥
IsOver (lives flow n) = ⊥
IsOver killed = Unit {0}
IsOver gone = Unit {0}

-- freed
abbrev IsGone : {S : Type 0} → Life S → Type 0
IsGone to_come = ⊥
IsGone (built seat) = ⊥
IsGone (lives flow n) = ⊥
IsGone killed = ⊥
IsGone gone = Unit {0}

pub over_dead : {S : Type 0} (x : Life S) → stage_in x ≡ Dead → IsOver x
over_dead to_come e = absurd cc
over_dead (built seat) e = absurd cc
over_dead (lives flow n) e = absurd cc
over_dead killed e = tt
over_dead gone e = absurd cc

over_unbuilt : {S : Type 0} (x : Life S) (seat : ℕ) → IsOver x → stage_in x ≡ Building seat → ⊥
over_unbuilt to_come seat over e = absurd over
over_unbuilt (built by) seat over e = absurd over
over_unbuilt (lives flow n) seat over e = absurd over
over_unbuilt killed seat over e = absurd cc
over_unbuilt gone seat over e = absurd cc

-- what is over and not gone is Dead
dead_over : {S : Type 0} (x : Life S) → IsOver x → ¬ IsGone x → stage_in x ≡ Dead
dead_over to_come over alive = absurd over
dead_over (built by) over alive = absurd over
dead_over (lives flow n) over alive = absurd over
dead_over killed over alive = refl
dead_over gone over alive = absurd (alive tt)

alive_gone : {S : Type 0} (x : Life S) → IsGone x → stage_in x ≡ Dead → ⊥
alive_gone to_come is e = absurd is
alive_gone (built by) is e = absurd is
alive_gone (lives flow n) is e = absurd is
alive_gone killed is e = absurd is
alive_gone gone is e = absurd cc

module _ {S A R : Type 0} (m : Meaning S A R) (slots : ℕ) (id : ConnId) where
  pub over_moves : (entry : Entry S A R) (x y : Life S) → Moves m entry.seat entry.act entry.reply id x y → IsOver x → IsOver y
  over_moves entry _ _ (keeps silent) over = over
  over_moves entry _ _ (claims packet act reply) over = absurd over
  over_moves entry _ _ (starts packet init act answer) over = absurd over
  over_moves entry _ _ (steps packet way arg flow n act reply) over = absurd over
  over_moves entry _ _ (abandons act answer) over = tt
  over_moves entry _ _ (expires now flow n act answer due) over = tt
  over_moves entry _ _ (is_freed act answer) over = tt

  gone_moves : (entry : Entry S A R) (x y : Life S) → Moves m entry.seat entry.act entry.reply id x y → IsGone x → IsGone y
  gone_moves entry _ _ (keeps silent) is = is
  gone_moves entry _ _ (claims packet act reply) is = absurd is
  gone_moves entry _ _ (starts packet init act answer) is = absurd is
  gone_moves entry _ _ (steps packet way arg flow n act reply) is = absurd is
  gone_moves entry _ _ (abandons act answer) is = absurd is
  gone_moves entry _ _ (expires now flow n act answer due) is = absurd is
  gone_moves entry _ _ (is_freed act answer) is = tt

  -- a key that it holds after an entry it held before
  pub held_by : (k : Machine S) (entry : Entry S A R) → MayFollow m slots k entry → IsOver (life_of k id) → (way : Way) (key : Key) (x y : Option Found) →
      Passes entry.act key x y → k.holder key ≡ x → y ≡ Some (record { id = id; way = way }) → Holds k id way key
  held_by k entry follows over way key _ _ rests was now = was ∙ now
  held_by k entry follows over way key _ _ (gives given act) was now =
      let same : given.id ≡ id = cc in
      let asked = (may_hold m slots k entry.seat entry.act given.id key given.way act follows.allowed).built in
      let mine : stage_of k id ≡ Building entry.seat = ap (λ (i : ConnId). stage_of k i) (sym same) ∙ asked in
      absurd (over_unbuilt (life_of k id) entry.seat over (sym (stage_of-is k id) ∙ mine))
  held_by k entry follows over way key _ _ (loses lost act) was now = absurd cc

  -- and so through entries
  pub held_before : (k : Machine S) (entries : List (Entry S A R)) → LegalFrom m slots k entries → IsOver (life_of k id) →
      (way : Way) (key : Key) → Holds (state_from m k entries) id way key → Holds k id way key
  held_before k [] legal over way key held = held
  held_before k (entry ∷ entries) legal over way key held =
      held_by k entry legal.0 over way key (k.holder key) ((after m k entry).holder key) (passes entry.act key (k.holder key)) refl
      (held_before (after m k entry) entries legal.1 (over_moves entry (life_of k id) (life_of (after m k entry) id) (entry_moves m slots k entry id legal.0) over) way key held)

  over_later : (k : Machine S) (entries : List (Entry S A R)) → LegalFrom m slots k entries → IsOver (life_of k id) → IsOver (life_of (state_from m k entries) id)
  over_later k [] legal over = over
  over_later k (entry ∷ entries) legal over =
      over_later (after m k entry) entries legal.1 (over_moves entry (life_of k id) (life_of (after m k entry) id) (entry_moves m slots k entry id legal.0) over)

  gone_later : (k : Machine S) (entries : List (Entry S A R)) → LegalFrom m slots k entries → IsGone (life_of k id) → IsGone (life_of (state_from m k entries) id)
  gone_later k [] legal is = is
  gone_later k (entry ∷ entries) legal is = gone_later (after m k entry) entries legal.1 (gone_moves entry (life_of k id) (life_of (after m k entry) id) (entry_moves m slots k entry id legal.0) is)

  module _ (earlier later : List (Entry S A R)) (legal : Legal m slots later) (goes : IsPrefix earlier later) where
    whole : state_of m later ≡ state_from m (state_of m earlier) goes.rest
    whole = ap (state_of m) goes.goes_on ∙ state_from-append m _ earlier goes.rest

    from : LegalFrom m slots (state_of m earlier) goes.rest
    from = LegalFrom-rest m slots _ earlier goes.rest (subst (Legal m slots) goes.goes_on legal)

    is_over : stage_of (state_of m earlier) id ≡ Dead → IsOver (life_of (state_of m earlier) id)
    is_over dead = over_dead (life_of (state_of m earlier) id) (sym (stage_of-is (state_of m earlier) id) ∙ dead)

    -- of a connection that was Dead no key is held that wasn't
    pub held_so_far : stage_of (state_of m earlier) id ≡ Dead → (way : Way) (key : Key) → Holds (state_of m later) id way key → Holds (state_of m earlier) id way key
    held_so_far dead way key held = held_before (state_of m earlier) goes.rest from (is_over dead) way key (subst (λ (k : Machine S). Holds k id way key) whole held)

    over_then : stage_of (state_of m earlier) id ≡ Dead → IsOver (life_of (state_of m later) id)
    over_then dead = subst (λ (k : Machine S). IsOver (life_of k id)) (sym whole) (over_later (state_of m earlier) goes.rest from (is_over dead))

    gone_then : IsGone (life_of (state_of m earlier) id) → IsGone (life_of (state_of m later) id)
    gone_then is = subst (λ (k : Machine S). IsGone (life_of k id)) (sym whole) (gone_later (state_of m earlier) goes.rest from is)

  -- what is known of a connection that was seen Dead is known by who has seen more
  pub known_more : (history longer log : List (Entry S A R)) → Legal m slots log → IsPrefix history longer → IsPrefix longer log → stage_of (state_of m log) id ≡ Dead →
      FitsKnown (state_of m history) (state_of m log) id → FitsKnown (state_of m longer) (state_of m log) id
  known_more history longer log legal first second dead fits = record {
    dead = between;
    held = λ way key held. fits.held way key (held_so_far history longer (Legal-prefix m slots longer log second legal) first fits.dead way key held);
    back = λ way key held. held_so_far longer log legal second between way key held;
  }
    where
      between : stage_of (state_of m longer) id ≡ Dead
      between = stage_of-is (state_of m longer) id ∙ dead_over (life_of (state_of m longer) id) (over_then history longer (Legal-prefix m slots longer log second legal) first fits.dead)
          (λ is. alive_gone (life_of (state_of m log) id) (gone_then longer log legal second is) (sym (stage_of-is (state_of m log) id) ∙ dead))
