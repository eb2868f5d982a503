-- What a Free of a Dead connection leaves: its slot is vacant, and all else is as it was.
use Rattle.std.specs.List.{Contains}
use Rattle.std.proofs.Common.{◌≡◌, ◌≢◌, ◌⊎◌, ℕ, ◌+◌, ◌^◌, ◌<◌, ◌≤◌, cond, eq-eqb, ne_eqb, List, set, refl, sym, ap, ◌∙◌, subst, ⊎_elim, inl, inr, arith}
use Rattle.std.proofs.lemmas.Bool.{cases_eq}
use mathlib.Core.Option.{some}
use lib.ListN.{get_elem?}
use Rattle.atomic_table.proofs.Lists.{at_set}
use Rattle.npf_core.specs.declared.{act.Act.TheVariants.Free, conn_id.ConnId.ConnId, slot.Slot.Slot, stage.Stage.TheVariants.{Building, Dead}}
use Rattle.npf_core.{specs.{Machine.{Machine, IsClaimed, stage_at, stage_of}, Meaning.Meaning, NextState.after_act}, proofs.EqualityLemmas.same_conn_id}
use Rattle.npf_core.proofs.LifeLemmas.{IsClaimed-last}
use Rattle.npf_cells_words.specs.{declared.layout.Layout.Layout, Layout.epoch_word}
use Rattle.npf_seats.{specs.Sums.occurs, proofs.SumLemmas.{sum-set, one_of_sum, two_of_sum}}
use Rattle.npf_cells_lives.specs.declared.pools.PoolSide.{PoolSide}
use Rattle.npf_cells_lives.specs.Deaths.{DeathSide, Rests, IsProtectedBy, IsKeyless, is_dead, has_epoch, first_note, slots_named, killed_in, reclaimed_in, cleared_in}
use Rattle.npf_cells_lives.specs.Deaths.{ids_elsewhere, freed_slot, last_id, IsPast, FitsKill, IsLeft, FitsReclaim, Deaths}
use Rattle.npf_cells_lives.proofs.{ConnLemmas.{BuildsIn, building_at, builds-kept}, DeathLemmas.{KeepsDates, same_dates, dead_at, slot_named}}
use Rattle.npf_cells_lives.proofs.FreedLemmas.{gone_in}
use Rattle.npf_cells_takes.proofs.HandLemmas.{none_here, as_many, was_elsewhere}

module _ {S A R : Type 0} (m : Meaning S A R) (k : Machine S) (seat : ℕ) (id : ConnId) where
  abbrev pub freed : Machine S
  freed = after_act m k seat (Free id)

  -- its slot is free, and no other changes
  pub freed_here : (p : ℕ) → p ≡ id.slot → freed.slot p ≡ freed_slot (k.slot p)
  freed_here p e = ap (λ b. cond b (freed_slot (k.slot p)) (k.slot p)) (eq-eqb id.slot p (sym e))

  pub freed_else : (p : ℕ) → p ≢ id.slot → freed.slot p ≡ k.slot p
  freed_else p ne = ap (λ b. cond b (freed_slot (k.slot p)) (k.slot p)) (ne_eqb id.slot p (λ e. ne (sym e)))

  -- each slot is at its incarnation
  pub same_inc : (p : ℕ) → (freed.slot p).inc ≡ (k.slot p).inc
  same_inc p = ⊎_elim
      (λ (e : p ≡ id.slot). ap (λ (x : Slot S). x.inc) (freed_here p e))
      (λ (ne : p ≢ id.slot). ap (λ (x : Slot S). x.inc) (freed_else p ne))
      (cases_eq p id.slot)

  -- a connection of another slot is at its stage
  pub same_stage : (i : ConnId) → i.slot ≢ id.slot → stage_of freed i ≡ stage_of k i
  same_stage i ne = ap (λ (x : Slot S). stage_at x i.inc) (freed_else i.slot ne)

  module _ (dead : stage_of k id ≡ Dead) where
    -- what is Building is so still
    pub still_building : {n : ℕ} (i : ConnId) → stage_of k i ≡ Building n → stage_of freed i ≡ Building n
    still_building {n} i built = same_stage i (λ e.
        let mine = building_at (k.slot i.slot) i.inc n built in
        let no : Building n ≡ Dead = sym mine.1 ∙ (ap (λ p. (k.slot p).stage) e ∙ (dead_at (k.slot id.slot) id.inc dead).1) in
        cc) ∙ built

    -- what is claimed, and isn't it, is so still
    pub still_claimed : (i : ConnId) → ¬ (i ≡ id) → IsClaimed (stage_of k i) → IsClaimed (stage_of freed i)
    still_claimed i other claimed = subst IsClaimed (sym (same_stage i (λ e.
        let last : (k.slot i.slot).inc ≡ i.inc = IsClaimed-last (k.slot i.slot) i.inc claimed in
        let mine : (k.slot id.slot).inc ≡ id.inc = (dead_at (k.slot id.slot) id.inc dead).0 in
        other (same_conn_id i id (e, sym last ∙ (ap (λ p. (k.slot p).inc) e ∙ mine)))))) claimed

    -- so what is Dead is
    pub still_dead : (i : ConnId) → ¬ (i ≡ id) → stage_of k i ≡ Dead → stage_of freed i ≡ Dead
    still_dead i other is = same_stage i (λ e.
        let here = dead_at (k.slot i.slot) i.inc is in
        let mine = dead_at (k.slot id.slot) id.inc dead in
        other (same_conn_id i id (e, sym here.0 ∙ (ap (λ p. (k.slot p).inc) e ∙ mine.0)))) ∙ is

    module _ {V : Type 0} (side_of : V → PoolSide) (views : List V) (j : ℕ) (v w : V) (at : get_elem? views j ≡ some v) where
      -- who builds a connection builds it still
      pub builds_freed : (side_of w).builds ≡ (side_of v).builds → (side_of w).unstored ≡ (side_of v).unstored → BuildsIn side_of k views → BuildsIn side_of freed (set views j w)
      builds_freed builds unstored kept = builds-kept side_of freed views j v w at builds unstored (λ n u e. record {
        building = λ i c. still_building i ((kept n u e).building i c);
        owing = (kept n u e).owing;
        once = (kept n u e).once;
      })

-- the part on deaths, where a pass frees what it cleared
module _ {S A R V : Type 0} (side_of : V → DeathSide) (layout : Layout) (m : Meaning S A R) (k : Machine S) (seat : ℕ) (id : ConnId) (words words' : List ℕ)
    (views : List V) (j : ℕ) (v w : V) (kept : Deaths side_of layout k words views) (at : get_elem? views j ≡ some v)
    (within : id.slot < layout.slots) (mine : Contains (side_of v).cleared id)
    (same : side_of w ≡ record (side_of v) { cleared = ids_elsewhere id.slot (side_of v).cleared }) (epoch : epoch_word words' ≡ epoch_word words)
    (notes : (p : ℕ) → p < layout.slots → first_note layout words' p ≡ first_note layout words p) where
  abbrev pub k' : Machine S
  k' = freed m k seat id

  abbrev views' : List V
  views' = set views j w

  pub frees : FitsReclaim side_of k views id
  frees = kept.reclaims j v id at (inr mine)

  -- what is counted of its slot
  record Counts (p : ℕ) : Type 0 where
    pub killed : killed_in side_of views p ≡ 0
    pub reclaimed : reclaimed_in side_of views p ≡ 0
    pub unmarked : has_epoch (first_note layout words p) ≡ 0
    pub cleared : cleared_in side_of views p ≡ 1
    pub left : cleared_in side_of views' p ≡ 0

  fewer : (p : ℕ) → cleared_in side_of views' p + occurs p (slots_named (side_of v).cleared) ≡ cleared_in side_of views p + occurs p (slots_named (ids_elsewhere id.slot (side_of v).cleared))
  fewer p = sum-set (λ (u : V). occurs p (slots_named (side_of u).cleared)) views j v w at ∙ ap (λ (d : DeathSide). cleared_in side_of views p + occurs p (slots_named d.cleared)) same

  listed : (p : ℕ) → p ≡ id.slot → 1 ≤ occurs p (slots_named (side_of v).cleared)
  listed p e = subst (λ q. 1 ≤ occurs q (slots_named (side_of v).cleared)) (sym e) (slot_named id (side_of v).cleared mine)

  counts : (p : ℕ) → p ≡ id.slot → Counts p
  counts p e =
      let h = subst (λ q. q < layout.slots) (sym e) within in
      let all = kept.counted p h in
      let part = kept.reclaimed p h in
      let once = ap (λ q. is_dead (k.slot q).stage) e ∙ ap is_dead (dead_at (k.slot id.slot) id.inc frees.dead).1 in
      let one = one_of_sum (λ (u : V). occurs p (slots_named (side_of u).cleared)) views j v at in
      let has = listed p e in
      let none = none_here id.slot p (side_of v).cleared e in
      let less = fewer p in
      record {
        killed = omega (arith, all, once, one, has);
        reclaimed = omega (arith, all, part, once, one, has);
        unmarked = omega (arith, all, once, one, has);
        cleared = omega (arith, all, once, one, has);
        left = omega (arith, all, once, one, has, none, less);
      }

  -- as many killed each slot's connection and reclaimed it
  killed_same : (p : ℕ) → killed_in side_of views' p ≡ killed_in side_of views p
  killed_same p =
      let sums = sum-set (λ (u : V). occurs p (slots_named (side_of u).kills)) views j v w at in
      let one = ap (λ (d : DeathSide). occurs p (slots_named d.kills)) same in
      omega (arith, sums, one)

  reclaimed_same : (p : ℕ) → reclaimed_in side_of views' p ≡ reclaimed_in side_of views p
  reclaimed_same p =
      let sums = sum-set (λ (u : V). occurs p (slots_named (side_of u).reclaims)) views j v w at in
      let one = ap (λ (d : DeathSide). occurs p (slots_named d.reclaims)) same in
      omega (arith, sums, one)

  cleared_else : (p : ℕ) → p ≢ id.slot → cleared_in side_of views' p ≡ cleared_in side_of views p
  cleared_else p ne = let less = fewer p in let one = as_many id.slot p (side_of v).cleared ne in omega (arith, less, one)

  -- nobody has the slot reclaimed after it, and of the others as many as before
  pub gone_here : (p : ℕ) → p ≡ id.slot → (gone_in side_of views p ≡ 1) × (gone_in side_of views' p ≡ 0)
  gone_here p e =
      let c = counts p e in
      let reclaimed = c.reclaimed in
      let cleared = c.cleared in
      let left = c.left in
      let same' = reclaimed_same p in
      (omega (arith, reclaimed, cleared), omega (arith, reclaimed, left, same'))

  pub gone_else : (p : ℕ) → p ≢ id.slot → gone_in side_of views' p ≡ gone_in side_of views p
  gone_else p ne = let one = reclaimed_same p in let two = cleared_else p ne in omega (arith, one, two)

  -- what each seat had of dead connections, and what it rests on
  record Before (n : ℕ) (u : V) : Type 0 where
    pub old : V
    pub there : get_elem? views n ≡ some old
    pub kills : (i : ConnId) → Contains (side_of u).kills i → Contains (side_of old).kills i
    pub gone : (i : ConnId) → Contains (side_of u).reclaims i ⊎ Contains (side_of u).cleared i → (Contains (side_of old).reclaims i ⊎ Contains (side_of old).cleared i) × (i.slot ≢ id.slot)
    pub loaded : (side_of u).loaded ≡ (side_of old).loaded
    pub rests : (i : ConnId) → Rests (side_of u) i → Rests (side_of old) i
    pub protecting : (side_of u).protecting ≡ (side_of old).protecting

  -- nobody reclaimed its slot's connection, and nobody but the pass cleared it
  not_reclaimed : (n : ℕ) (u : V) → get_elem? views n ≡ some u → (i : ConnId) → Contains (side_of u).reclaims i → i.slot ≢ id.slot
  not_reclaimed n u e i c here =
      let one = one_of_sum (λ (x : V). occurs i.slot (slots_named (side_of x).reclaims)) views n u e in
      let has = slot_named i (side_of u).reclaims c in
      let none = (counts i.slot here).reclaimed in
      omega (arith, one, has, none)

  not_cleared : (n : ℕ) (u : V) → n ≢ j → get_elem? views n ≡ some u → (i : ConnId) → Contains (side_of u).cleared i → i.slot ≢ id.slot
  not_cleared n u ne e i c here =
      let two = two_of_sum (λ (x : V). occurs i.slot (slots_named (side_of x).cleared)) views n j u v e at ne in
      let has = slot_named i (side_of u).cleared c in
      let mine' = listed i.slot here in
      let one = (counts i.slot here).cleared in
      omega (arith, two, has, mine', one)

  not_killed : (n : ℕ) (u : V) → get_elem? views n ≡ some u → (i : ConnId) → Contains (side_of u).kills i → i.slot ≢ id.slot
  not_killed n u e i c here =
      let one = one_of_sum (λ (x : V). occurs i.slot (slots_named (side_of x).kills)) views n u e in
      let has = slot_named i (side_of u).kills c in
      let none = (counts i.slot here).killed in
      omega (arith, one, has, none)

  before : (n : ℕ) (u : V) → get_elem? views' n ≡ some u → Before n u
  before n u e = ⊎_elim
      (λ (x : (n ≡ j) × (w ≡ u)).
      let is : side_of u ≡ record (side_of v) { cleared = ids_elsewhere id.slot (side_of v).cleared } = ap side_of (sym x.1) ∙ same in
      record {
        old = v;
        there = ap (get_elem? views) x.0 ∙ at;
        kills = λ i c. subst (λ (d : DeathSide). Contains d.kills i) is c;
        gone = λ i c. ⊎_elim
            (λ (a : Contains (side_of u).reclaims i). let had = subst (λ (d : DeathSide). Contains d.reclaims i) is a in (inl had, not_reclaimed j v at i had))
            (λ (b : Contains (side_of u).cleared i). let had = was_elsewhere id.slot (side_of v).cleared i (subst (λ (d : DeathSide). Contains d.cleared i) is b) in (inr had.0, had.1))
            c;
        loaded = ap (λ (d : DeathSide). d.loaded) is;
        rests = λ i c. subst (λ (d : DeathSide). Rests d i) is c;
        protecting = ap (λ (d : DeathSide). d.protecting) is;
      })
      (λ (x : (n ≢ j) × (get_elem? views n ≡ some u)). record {
        old = u;
        there = x.1;
        kills = λ i c. c;
        gone = λ i c. (c, ⊎_elim (λ (a : Contains (side_of u).reclaims i). not_reclaimed n u x.1 i a) (λ (b : Contains (side_of u).cleared i). not_cleared n u x.0 x.1 i b) c);
        loaded = refl;
        rests = λ i c. c;
        protecting = refl;
      })
      (at_set views j n w u e)

  past_on : (i : ConnId) (since : ℕ) → IsPast side_of (epoch_word words) views i since → IsPast side_of (epoch_word words') views' i since
  past_on i since past = record {
    reached = (let was = past.reached in omega (arith, was, epoch));
    rested = λ n u e rests. (let was = before n u e in subst (IsProtectedBy since) (sym was.protecting) (past.rested n was.old was.there (was.rests i rests)));
  }

  kills_on : (n : ℕ) (u : V) (i : ConnId) → get_elem? views' n ≡ some u → Contains (side_of u).kills i → FitsKill side_of k' (epoch_word words') views' (side_of u).loaded i
  kills_on n u i e c =
      let was = before n u e in
      let had = was.kills i c in
      let fits = kept.kills n was.old i was.there had in
      record {
        dead = same_stage m k seat id i (not_killed n was.old was.there i had) ∙ fits.dead;
        past = λ some' bare. subst (λ since. IsPast side_of (epoch_word words') views' i since) (sym was.loaded)
            (past_on i (side_of was.old).loaded (fits.past (subst (λ since. 1 ≤ since) was.loaded some') bare));
      }

  reclaims_on : (n : ℕ) (u : V) (i : ConnId) → get_elem? views' n ≡ some u → Contains (side_of u).reclaims i ⊎ Contains (side_of u).cleared i → FitsReclaim side_of k' views' i
  reclaims_on n u i e c =
      let was = before n u e in
      let had = was.gone i c in
      let fits = kept.reclaims n was.old i was.there had.0 in
      record {
        dead = same_stage m k seat id i had.1 ∙ fits.dead;
        keyless = fits.keyless;
        unrested = λ n' u' e' rests. (let old = before n' u' e' in fits.unrested n' old.old old.there (old.rests i rests));
      }

  left_on : (p since : ℕ) → p < layout.slots → first_note layout words' p ≡ 2 ^ 63 + since → IsLeft side_of k' (epoch_word words') views' p since
  left_on p since h is =
      let was = kept.left p since h (sym (notes p h) ∙ is) in
      let last : last_id k p ≡ last_id k' p = ap (λ n. record { slot = p; inc = n }) (sym (same_inc m k seat id p)) in
      record {
        keyless = subst (IsKeyless k) last was.keyless;
        past = subst (λ (x : ConnId). IsPast side_of (epoch_word words') views' x since) last (past_on (last_id k p) since was.past);
      }

  -- the pass lets none go
  dates_on : KeepsDates side_of (epoch_word words') views views' w
  dates_on = same_dates side_of layout k words words' views j v w kept at (omega (arith, epoch)) (ap (λ (d : DeathSide). d.dated) same)

  pub deaths_freed : Deaths side_of layout k' words' views'
  deaths_freed = record {
    counted = λ p h.
        let killed = killed_same p in
        let note = ap has_epoch (notes p h) in
        ⊎_elim
        (λ (e : p ≡ id.slot).
        let c = counts p e in
        let unkilled = c.killed in
        let unmarked = c.unmarked in
        let left = c.left in
        let vacant : is_dead (k'.slot p).stage ≡ 0 = ap (λ (x : Slot S). is_dead x.stage) (freed_here m k seat id p e) in
        omega (arith, killed, note, unkilled, unmarked, left, vacant))
        (λ (ne : p ≢ id.slot).
        let was = kept.counted p h in
        let cleared = cleared_else p ne in
        let stage = ap (λ (x : Slot S). is_dead x.stage) (freed_else m k seat id p ne) in
        omega (arith, killed, note, was, cleared, stage))
        (cases_eq p id.slot);
    reclaimed = λ p h. (let same' = reclaimed_same p in let note = ap has_epoch (notes p h) in let was = kept.reclaimed p h in omega (arith, same', note, was));
    kills = kills_on;
    reclaims = reclaims_on;
    left = left_on;
    dated = λ p since h is. dates_on.still since (kept.dated p since h (sym (notes p h) ∙ is));
    dates = λ n u e. ⊎_elim
        (λ (x : (n ≡ j) × (w ≡ u)). subst (λ (y : V). (side_of y).dated ≤ epoch_word words') x.1 dates_on.within)
        (λ (x : (n ≢ j) × (get_elem? views n ≡ some u)). (let was = kept.dates n u x.1 in omega (arith, was, epoch)))
        (at_set views j n w u e);
  }
