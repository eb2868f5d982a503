-- The first note of a connection that the pass reclaimed is set to 0.
use Rattle.std.specs.List.{Contains}
use Rattle.std.proofs.Common.{◌≡◌, ◌≢◌, ◌⊎◌, ℕ, ◌+◌, ◌<◌, ◌≤◌, Some, List, eqb, eq-eqb, ne_eqb, set, length, refl, sym, ap, ◌∙◌, subst, ⊎_elim, inl, inr, arith}
use Rattle.std.proofs.lemmas.Bool.{cases_eq}
use mathlib.Core.Option.{some}
use lib.ListN.{get_elem?}
use Rattle.atomic_table.specs.Table.{State, Me, Step, Allows, stepped, keeps}
use Rattle.npf_types.specs.declared.key.Key.{Key}
use Rattle.npf_core.specs.{declared.{conn_id.ConnId.ConnId, stage.Stage.TheVariants.Dead}, History.state_of, Machine.Machine, Meaning.Meaning}
use Rattle.npf_cells_words.specs.{declared.layout.{Layout.Layout, Pool.TheVariants.Slots}, Layout.{notes_field, field_at, epoch_word}}
use Rattle.npf_seats.{specs.Sums.occurs, proofs.{ListLemmas.{one_where, occurs-cons}, PrefixLemmas.cons_cases, SumLemmas.{sum-set, one_of_sum}}}
use Rattle.npf_cells_lives.specs.declared.turn.{Said.Said, Turn.Turn}
use Rattle.npf_cells_lives.specs.Deaths.{is_dead, has_epoch, first_note, slots_named, killed_in, reclaimed_in, cleared_in, FitsReclaim, Deaths}
use Rattle.npf_cells_lives.specs.Turns.{stage_phase, Running}
use Rattle.npf_cells_lives.proofs.DeathLemmas.{spares_all, RestsNoMore, same_dates, kill_kept, reclaim_kept, deaths-changed, slot_named}
use Rattle.npf_cells_lives.proofs.FreedLemmas.{gone_in, still_there}
use Rattle.npf_cells_rule.specs.{declared.view.CellView.CellView, Cells.IsCells, Views.death_side}
use Rattle.npf_cells_takes.specs.PrivateKinds.{MayClear, clearing, ClearsNote}
use Rattle.npf_cells_takes.proofs.{DeadNoteLemmas.{ws, dead_one, same_epoch, note_else, note_here, dead_noted}, HandLemmas.{none_here, as_many, was_elsewhere}}

module _ {S A R : Type 0} (m : Meaning S A R) (digest : Key → ℕ) (layout : Layout) where
  module _ (s : State (Running S) (CellView S A R)) (id : ℕ) (me : Me (Running S) (CellView S A R)) (kept : IsCells m digest layout s)
      (at : get_elem? s.views id ≡ some me.0) (conn : ConnId) (within : conn.slot < layout.slots) (may : MayClear me.0 conn) where
    abbrev k : Machine S
    k = state_of m kept.log

    abbrev w : CellView S A R
    w = record me.0 { pools = clearing conn me.0.pools }

    gone : FitsReclaim death_side k s.views conn
    gone = kept.deaths.reclaims id me.0 conn at (inl may)

    abbrev words' : List ℕ
    words' = ws m digest layout s id me kept at conn.slot 0 within conn refl gone.dead gone.keyless

    less : RestsNoMore k (death_side me.0) (death_side w)
    less = record { rests = λ i dead none rests. (rests, refl) }

    goes : epoch_word s.words ≤ epoch_word words'
    goes = same_epoch m digest layout s id me kept at conn.slot 0 within conn refl gone.dead gone.keyless

    else' : (p : ℕ) → p ≢ conn.slot → first_note layout words' p ≡ first_note layout s.words p
    else' p ne = note_else m digest layout s id me kept at conn.slot 0 within conn refl gone.dead gone.keyless p ne

    here : (p : ℕ) → p ≡ conn.slot → first_note layout words' p ≡ 0
    here p e = note_here m digest layout s id me kept at conn.slot 0 within conn refl gone.dead gone.keyless p e

    -- the pass alone has it, and the note has its epoch
    listed : (p : ℕ) → p ≡ conn.slot → 1 ≤ occurs p (slots_named me.0.pools.reclaims)
    listed p e = subst (λ q. 1 ≤ occurs q (slots_named me.0.pools.reclaims)) (sym e) (slot_named conn me.0.pools.reclaims may)

    reclaims_after : (p : ℕ) → reclaimed_in death_side (set s.views id w) p + occurs p (slots_named me.0.pools.reclaims) ≡ reclaimed_in death_side s.views p + occurs p (slots_named w.pools.reclaims)
    reclaims_after p = sum-set (λ (u : CellView S A R). occurs p (slots_named u.pools.reclaims)) s.views id me.0 w at

    cleared_after : (p : ℕ) → cleared_in death_side (set s.views id w) p + occurs p (slots_named me.0.pools.cleared) ≡ cleared_in death_side s.views p + occurs p (slots_named w.pools.cleared)
    cleared_after p = sum-set (λ (u : CellView S A R). occurs p (slots_named u.pools.cleared)) s.views id me.0 w at

    killed_after : (p : ℕ) → killed_in death_side (set s.views id w) p ≡ killed_in death_side s.views p
    killed_after p = let sums = sum-set (λ (u : CellView S A R). occurs p (slots_named u.pools.kills)) s.views id me.0 w at in omega (arith, sums)

    -- what is counted of its slot before and after
    record Counts (p : ℕ) : Type 0 where
      was : reclaimed_in death_side s.views p ≡ 1
      uncleared : cleared_in death_side s.views p ≡ 0
      unkilled : killed_in death_side s.views p ≡ 0
      left : reclaimed_in death_side (set s.views id w) p ≡ 0
      now : cleared_in death_side (set s.views id w) p ≡ 1
      dead : is_dead (k.slot p).stage ≡ 1

    counts : (p : ℕ) → p < layout.slots → p ≡ conn.slot → Counts p
    counts p h e =
        let all = kept.deaths.counted p h in
        let part = kept.deaths.reclaimed p h in
        let once = dead_one m digest layout s id me kept at conn.slot 0 within conn refl gone.dead gone.keyless p e in
        let mine = one_of_sum (λ (u : CellView S A R). occurs p (slots_named u.pools.reclaims)) s.views id me.0 at in
        let has = listed p e in
        let none = none_here conn.slot p me.0.pools.reclaims e in
        let fewer = reclaims_after p in
        let more = cleared_after p in
        let next = occurs-cons p conn.slot (slots_named me.0.pools.cleared) in
        let one : one_where (eqb conn.slot p) ≡ 1 = ap one_where (eq-eqb conn.slot p (sym e)) in
        record {
          was = omega (arith, all, part, once, mine, has);
          uncleared = omega (arith, all, part, once, mine, has);
          unkilled = omega (arith, all, part, once, mine, has);
          left = omega (arith, all, part, once, mine, has, none, fewer);
          now = omega (arith, all, part, once, mine, has, more, next, one);
          dead = omega (arith, all, part, once, mine, has);
        }

    cleared_else : (p : ℕ) → p ≢ conn.slot → cleared_in death_side (set s.views id w) p ≡ cleared_in death_side s.views p
    cleared_else p ne =
        let more = cleared_after p in
        let next = occurs-cons p conn.slot (slots_named me.0.pools.cleared) in
        let one : one_where (eqb conn.slot p) ≡ 0 = ap one_where (ne_eqb conn.slot p (λ e. ne (sym e))) in
        omega (arith, more, next, one)

    reclaimed_else : (p : ℕ) → p ≢ conn.slot → reclaimed_in death_side (set s.views id w) p ≡ reclaimed_in death_side s.views p
    reclaimed_else p ne = let fewer = reclaims_after p in let same = as_many conn.slot p me.0.pools.reclaims ne in omega (arith, fewer, same)

    -- for turns the slot was free before
    gone_same : (p : ℕ) → gone_in death_side (set s.views id w) p ≡ gone_in death_side s.views p
    gone_same p = ⊎_elim
        (λ (e : p ≡ conn.slot).
        let c = counts p (subst (λ q. q < layout.slots) (sym e) within) e in
        let was = c.was in
        let uncleared = c.uncleared in
        let left = c.left in
        let now = c.now in
        omega (arith, was, uncleared, left, now))
        (λ (ne : p ≢ conn.slot). let one = cleared_else p ne in let two = reclaimed_else p ne in omega (arith, one, two))
        (cases_eq p conn.slot)

    counted : (p : ℕ) → p < layout.slots → killed_in death_side (set s.views id w) p + has_epoch (first_note layout words' p) + cleared_in death_side (set s.views id w) p ≡ is_dead (k.slot p).stage
    counted p h =
        let killed = killed_after p in
        ⊎_elim
        (λ (e : p ≡ conn.slot).
        let c = counts p h e in
        let unkilled = c.unkilled in
        let now = c.now in
        let dead = c.dead in
        let none : has_epoch (first_note layout words' p) ≡ 0 = ap has_epoch (here p e) in
        omega (arith, killed, unkilled, now, dead, none))
        (λ (ne : p ≢ conn.slot).
        let was = kept.deaths.counted p h in
        let same = cleared_else p ne in
        let note = ap has_epoch (else' p ne) in
        omega (arith, killed, was, same, note))
        (cases_eq p conn.slot)

    reclaimed : (p : ℕ) → p < layout.slots → reclaimed_in death_side (set s.views id w) p ≤ has_epoch (first_note layout words' p)
    reclaimed p h = ⊎_elim
        (λ (e : p ≡ conn.slot). let left = (counts p h e).left in omega (arith, left))
        (λ (ne : p ≢ conn.slot).
        let was = kept.deaths.reclaimed p h in
        let same = reclaimed_else p ne in
        let note = ap has_epoch (else' p ne) in
        omega (arith, was, same, note))
        (cases_eq p conn.slot)

    reclaim_stays : (i : ConnId) → Contains me.0.pools.reclaims i ⊎ Contains me.0.pools.cleared i → FitsReclaim death_side k (set s.views id w) i
    reclaim_stays i c = reclaim_kept death_side layout k k s.words words' s.views id me.0 w kept.deaths at (spares_all k) goes less i (kept.deaths.reclaims id me.0 i at c)

    deaths_after : Deaths death_side layout k words' (set s.views id w)
    deaths_after = deaths-changed death_side layout k k s.words words' s.views id me.0 w kept.deaths at (spares_all k) goes less counted reclaimed
        (λ i c. kill_kept death_side layout k k s.words words' s.views id me.0 w kept.deaths at (spares_all k) goes less me.0.epochs.loaded i (kept.deaths.kills id me.0 i at c))
        (λ i c. ⊎_elim
        (λ (a : Contains w.pools.reclaims i). reclaim_stays i (inl (was_elsewhere conn.slot me.0.pools.reclaims i a).0))
        (λ (b : Contains w.pools.cleared i). ⊎_elim
        (λ (e : conn ≡ i). reclaim_stays i (inl (subst (λ x. Contains me.0.pools.reclaims x) e may)))
        (λ d. reclaim_stays i (inr d))
        (cons_cases conn i me.0.pools.cleared b))
        c)
        (λ p epoch h is. ⊎_elim
        (λ (e : p ≡ conn.slot). absurd (let now = here p e in omega (arith, now, is)))
        (λ ne. inl (sym (else' p ne) ∙ is))
        (cases_eq p conn.slot))
        (same_dates death_side layout k s.words words' s.views id me.0 w kept.deaths at goes refl)

    nobodys : killed_in death_side (set s.views id w) conn.slot ≡ 0
    nobodys = killed_after conn.slot ∙ (counts conn.slot within refl).unkilled

    -- who has the slot's turn got it when nobody had reclaimed anything there, or after that
    untold : (j : ℕ) (u : CellView S A R) (turn : Turn S) (said : Said) → get_elem? s.views j ≡ some u → u.turn ≡ Some turn → turn.slot ≡ conn.slot →
        turn.was.stage ≡ Dead → turn.said ≡ Some said → has_epoch said.value ≡ 1 → said.field ≡ notes_field → ⊥
    untold j u turn said e has there dead is epoch field =
        let fits = kept.turns.each j u turn e has in
        let none = (still_there death_side s.views k turn.slot turn.was fits.stays (λ idle. absurd (let no : 2 ≡ 0 = sym (ap stage_phase dead) ∙ idle in cc))).1 in
        let was = (counts turn.slot (subst (λ q. q < layout.slots) (sym there) within) there).was in
        omega (arith, none, was)

    pub clears : 1 ≤ length me.0.seats.readers → IsCells m digest layout (stepped s (field_at layout Slots conn.slot notes_field) 0 id me.1 w keeps)
    clears seated = dead_noted m digest layout s id me kept at conn.slot 0 within conn refl gone.dead gone.keyless w.pools refl refl refl refl refl refl
        (λ i c. c) (λ g c ne. c) gone_same nobodys untold seated deaths_after

  pub may_clear : (st : Step (Running S)) (id n : ℕ) (conn : ConnId) (me : Me (Running S) (CellView S A R)) → 1 ≤ length me.0.seats.readers → conn.slot < layout.slots → MayClear me.0 conn →
      Allows (IsCells m digest layout) n id me (field_at layout Slots conn.slot notes_field) (λ _. 0) (λ _. ClearsNote conn st me 0)
  may_clear st id n conn me seated within may s kept homes at bound = (
    record me.0 { pools = clearing conn me.0.pools },
    keeps,
    tt,
    clears s id me kept at conn within may seated,
    record { is = refl },
  )
