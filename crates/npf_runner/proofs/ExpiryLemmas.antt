-- What was Live and is alive still was Live all the time between, and what was killed isn't alive again.
use Rattle.std.{proofs.Common.{◌≡◌, true, false, List, [], ◌∷◌, ◌++◌, refl, sym, ap, subst, ◌∙◌, ⊎_elim}, specs.List.Contains}
use Rattle.npf_shelf.proofs.ListLemmas.{Contains-nil, Contains-cons_cases}
use Rattle.npf_core.specs.declared.{act.{Act.{Act, TheVariants.Kill}, Why.Why}, conn_id.ConnId.ConnId, entry.Entry.Entry, stage.Stage.Stage}
use Rattle.npf_core.specs.{declared.stage.Stage.TheVariants.{Vacant, Building, Live, Dead}, Allowed.{Allows, IsDue}}
use Rattle.npf_core.specs.{History.{MayFollow, LegalFrom, after, state_from}, Machine.{Machine, stage_of, IsClaimed, IsLive, IsAlive}, Meaning.Meaning}
use Rattle.npf_core.{specs.NextState.after_act, proofs.{HistoryLemmas.{LegalFrom-front, LegalFrom-rest, state_from-append}, EqualityLemmas.is_id-Decides}}
use Rattle.npf_core.proofs.LifeLemmas.{Life, Moves, Touch, life_in, life_of, stage_in, stage_of-is, touch, entry_moves}

-- killed or freed
abbrev Ended : {S : Type 0} → Life S → Type 0
Ended Life.killed = Unit {0}
Ended Life.gone = Unit {0}
Ended Life.to_come = ⊥
Ended (Life.built seat) = ⊥
Ended (Life.lives flow n) = ⊥

-- Live, killed or freed
abbrev Lived : {S : Type 0} → Life S → Type 0
Lived Life.killed = Unit {0}
Lived Life.gone = Unit {0}
Lived (Life.lives flow n) = Unit {0}
Lived Life.to_come = ⊥
Lived (Life.built seat) = ⊥

lived_of : {S : Type 0} (x : Life S) → IsLive (stage_in x) → Lived x
lived_of Life.to_come h = h
lived_of (Life.built seat) h = h
lived_of (Life.lives flow n) h = tt
lived_of Life.killed h = tt
lived_of Life.gone h = tt

live_of : {S : Type 0} (x : Life S) → Lived x → ¬ Ended x → IsLive (stage_in x)
live_of Life.to_come h e = h
live_of (Life.built seat) h e = h
live_of (Life.lives flow n) h e = tt
live_of Life.killed h e = absurd (e tt)
live_of Life.gone h e = absurd (e tt)

not_alive : {S : Type 0} (x : Life S) → Ended x → IsAlive (stage_in x) → ⊥
not_alive Life.to_come e h = e
not_alive (Life.built seat) e h = e
not_alive (Life.lives flow n) e h = e
not_alive Life.killed e h = h
not_alive Life.gone e h = h

module _ {S A R : Type 0} (m : Meaning S A R) (entry : Entry S A R) (id : ConnId) where
  ended_moves : (x y : Life S) → Moves m entry.seat entry.act entry.reply id x y → Ended x → Ended y
  ended_moves _ _ (Moves.keeps silent) h = h
  ended_moves _ _ (Moves.claims packet act reply) h = absurd h
  ended_moves _ _ (Moves.starts packet init act answer) h = absurd h
  ended_moves _ _ (Moves.steps packet way arg flow n act reply) h = absurd h
  ended_moves _ _ (Moves.abandons act answer) h = absurd h
  ended_moves _ _ (Moves.expires now flow n act answer due) h = absurd h
  ended_moves _ _ (Moves.frees act answer) h = tt

  lived_moves : (x y : Life S) → Moves m entry.seat entry.act entry.reply id x y → Lived x → Lived y
  lived_moves _ _ (Moves.keeps silent) h = h
  lived_moves _ _ (Moves.claims packet act reply) h = absurd h
  lived_moves _ _ (Moves.starts packet init act answer) h = tt
  lived_moves _ _ (Moves.steps packet way arg flow n act reply) h = tt
  lived_moves _ _ (Moves.abandons act answer) h = tt
  lived_moves _ _ (Moves.expires now flow n act answer due) h = tt
  lived_moves _ _ (Moves.frees act answer) h = tt

due_claimed : {S A R : Type 0} (m : Meaning S A R) (now : _) (stage : Stage S) → IsDue m now stage → IsClaimed stage
due_claimed m now Vacant h = h
due_claimed m now (Building seat) h = tt
due_claimed m now (Live flow n) h = tt
due_claimed m now Dead h = tt

module _ {S A R : Type 0} (m : Meaning S A R) (slots : _) (id : ConnId) where
  ended_after : (k : Machine S) (entries : List (Entry S A R)) → LegalFrom m slots k entries → Ended (life_of k id) → Ended (life_of (state_from m k entries) id)
  ended_after k [] legal h = h
  ended_after k (x ∷ xs) legal h = ended_after (after m k x) xs legal.1 (ended_moves m x id _ _ (entry_moves m slots k x id legal.0) h)

  lived_after : (k : Machine S) (entries : List (Entry S A R)) → LegalFrom m slots k entries → Lived (life_of k id) → Lived (life_of (state_from m k entries) id)
  lived_after k [] legal h = h
  lived_after k (x ∷ xs) legal h = lived_after (after m k x) xs legal.1 (lived_moves m x id _ _ (entry_moves m slots k x id legal.0) h)

  kill_claimed : (k : Machine S) (seat : _) (why : Why) → Allows m slots k seat (Kill id why) → IsClaimed (stage_of k id)
  kill_claimed k seat Why.Abandoned h = rw h tt
  kill_claimed k seat (Why.Expired now) h = due_claimed m now (stage_of k id) h

  kill_ends : (k : Machine S) (entry : Entry S A R) (why : Why) → MayFollow m slots k entry → entry.act ≡ Kill id why → Ended (life_of (after m k entry) id)
  kill_ends k entry why f act =
      subst (λ (a : Act S A). Ended (life_of (after_act m k entry.seat a) id)) (sym act)
      (by_touch (touch k id id (λ _. Dead) (kill_claimed k entry.seat why (subst (λ (a : Act S A). Allows m slots k entry.seat a) act f.allowed))))
    where
      by_touch : {was before next : Life S} → Touch id id was (life_in Dead) before next → Ended next
      by_touch (Touch.own same b n) = subst Ended (sym n) tt
      by_touch (Touch.apart e n) = absurd (let yes = (is_id-Decides id id).1 refl in let both : true ≡ false = sym yes ∙ e in cc)

  kill_in : (k : Machine S) (entries : List (Entry S A R)) (entry : Entry S A R) (why : Why) → LegalFrom m slots k entries → Contains entries entry → entry.act ≡ Kill id why →
      Ended (life_of (state_from m k entries) id)
  kill_in k [] entry why legal c act = absurd (Contains-nil entry c)
  kill_in k (x ∷ xs) entry why legal c act = ⊎_elim
      (λ (same : x ≡ entry). ended_after (after m k x) xs legal.1 (kill_ends k x why legal.0 (ap (λ (e : Entry S A R). e.act) same ∙ act)))
      (λ d. kill_in (after m k x) xs entry why legal.1 d act)
      (Contains-cons_cases x entry xs c)

  -- what is alive at the end wasn't killed
  pub not_killed : (k : Machine S) (entries : List (Entry S A R)) (entry : Entry S A R) (why : Why) → LegalFrom m slots k entries → Contains entries entry →
      entry.act ≡ Kill id why → IsAlive (stage_of (state_from m k entries) id) → ⊥
  not_killed k entries entry why legal c act alive =
      not_alive (life_of (state_from m k entries) id) (kill_in k entries entry why legal c act) (rw (stage_of-is (state_from m k entries) id) at alive)

  -- and was Live after each part of the entries, if it was Live before them
  pub was_live : (k : Machine S) (front back : List (Entry S A R)) → LegalFrom m slots k (front ++ back) → IsLive (stage_of k id) →
      IsAlive (stage_of (state_from m k (front ++ back)) id) → IsLive (stage_of (state_from m k front) id)
  was_live k front back legal live alive =
      let mid = state_from m k front in
      let here : IsLive (stage_in (life_of k id)) = rw (stage_of-is k id) at live in
      let lived = lived_after k front (LegalFrom-front m slots k front back legal) (lived_of (life_of k id) here) in
      let last : IsAlive (stage_in (life_of (state_from m mid back) id)) = rw (state_from-append m k front back, stage_of-is (state_from m mid back) id) at alive in
      rw (stage_of-is mid id) (live_of (life_of mid id) lived
      (λ ended. not_alive (life_of (state_from m mid back) id) (ended_after mid back (LegalFrom-rest m slots k front back legal) ended) last))
