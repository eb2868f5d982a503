-- A Dead connection gives a key up: what is held stays but for that key, and so do the parts on deaths, on what killers know and on notes.
use Rattle.std.specs.List.{Contains}
use Rattle.std.proofs.Common.{◌≡◌, ◌≢◌, ℕ, ◌<◌, ◌≤◌, Bool, true, false, cond, Option, Some, None, List, [], ◌∷◌, set, sum_by, refl, sym, ap, ◌∙◌, subst, ⊎_elim, inl, inr, arith}
use Rattle.std.proofs.lemmas.List.Elements.{Contains-append_left, Contains-append_right, Contains-push}
use mathlib.Core.Option.{some}
use lib.ListN.{get_elem?}
use Rattle.atomic_table.proofs.Lists.{at_set}
use Rattle.npf_types.specs.declared.key.{Key.Key, Way.Way}
use Rattle.npf_core.specs.{declared.{conn_id.ConnId.ConnId, found.Found.Found, stage.Stage.{Stage, TheVariants.Dead}}, Machine.{Machine, stage_of}}
use Rattle.npf_core.{specs.NextState.{is_found, given_up}, proofs.EqualityLemmas.is_found-Decides}
use Rattle.npf_paths.specs.{declared.{cell.Cell.{Cell, TheVariants.Leaf}, place.Place.Place}, Paths.IsOnPath}
use Rattle.npf_cells_words.specs.{declared.layout.Layout.Layout, Layout.{epoch_word, note_field}}
use Rattle.npf_seats.{specs.Sums.occurs, proofs.SumLemmas.{sum-set, two_of_sum}}
use Rattle.npf_cells_lives.specs.declared.{pools.PoolSide.PoolSide, turn.Turn.Turn}
use Rattle.npf_cells_lives.specs.Deaths.{DeathSide, Rests, IsProtectedBy, IsKeyless, is_dead, first_note, has_epoch, slots_named, last_id, IsPast, FitsReclaim, Deaths}
use Rattle.npf_cells_lives.specs.{Known.{FitsKnown, Known}, Notes.{note_word, IsAheadOf, IsFirm, FitsNote, Notes}, Turns.stage_phase}
use Rattle.npf_cells_lives.proofs.{DeathLemmas.{KeepsDates, same_dates, dead_at, slot_named}, KnownLemmas.known-set, NoteLemmas.{note_stays, nobody_before}}

-- another holder keeps its key
pub other_keeps : (x gone : Found) → x ≢ gone → given_up (Some x) gone ≡ Some x
other_keeps x gone ne = by_test (is_found x gone) refl
  where
    by_test : (b : Bool) → is_found x gone ≡ b → cond {A = Option Found} b None (Some x) ≡ Some x
    by_test true e = absurd (ne ((is_found-Decides x gone).0 e))
    by_test false e = refl

-- and whoever has a key then had it
pub had_before : (x : Option Found) (gone found : Found) → given_up x gone ≡ Some found → x ≡ Some found
had_before None gone found e = absurd cc
had_before (Some x) gone found e = by_test (is_found x gone) e
  where
    by_test : (b : Bool) → cond {A = Option Found} b None (Some x) ≡ Some found → Some x ≡ Some found
    by_test true e = absurd cc
    by_test false e = e

module _ {S : Type 0} (k : Machine S) (conn : ConnId) (way : Way) where
  abbrev pub gone : Found
  gone = record { id = conn; way = way }

  -- the machine after it
  abbrev pub unheld : Machine S
  unheld = record k { holder = λ key. given_up (k.holder key) gone }

  pub still_held : (key : Key) (found : Found) → found ≢ gone → k.holder key ≡ Some found → unheld.holder key ≡ Some found
  still_held key found ne e = ap (λ x. given_up x gone) e ∙ other_keeps found gone ne

  pub held_before : (key : Key) (found : Found) → unheld.holder key ≡ Some found → k.holder key ≡ Some found
  held_before key found e = had_before (k.holder key) gone found e

  -- who isn't that connection holds what it held
  apart : (id : ConnId) (w : Way) → id ≢ conn → record { id = id; way = w } ≢ gone
  apart id w ne e = ne (ap (λ (f : Found). f.id) e)

  module _ (dead : stage_of k conn ≡ Dead) where
    dead_slot : (k.slot conn.slot).stage ≡ Dead
    dead_slot = (dead_at (k.slot conn.slot) conn.inc dead).1

    -- a Live connection isn't that one
    live_apart : (slot : ℕ) → stage_phase (k.slot slot).stage ≡ 1 → last_id k slot ≢ conn
    live_apart slot live same =
        let slots : slot ≡ conn.slot = ap (λ (i : ConnId). i.slot) same in
        let dead_phase : stage_phase (k.slot conn.slot).stage ≡ 2 = ap (λ (stage : Stage S). stage_phase stage) dead_slot in
        let phase : stage_phase (k.slot slot).stage ≡ stage_phase (k.slot conn.slot).stage = ap (λ n. stage_phase (k.slot n).stage) slots in
        absurd (omega (arith, live, phase, dead_phase))

    module _ {V : Type 0} (side_of : V → DeathSide) (layout : Layout) (words words' : List ℕ) (views : List V)
        (i : ℕ) (v w : V) (kept : Deaths side_of layout k words views) (at : get_elem? views i ≡ some v)
        (killed : Contains (side_of v).kills conn) (within : conn.slot < layout.slots) where
      -- nobody else killed it
      pub killer_alone : (j : ℕ) (u : V) (id : ConnId) → j ≢ i → get_elem? views j ≡ some u → Contains (side_of u).kills id → id.slot ≢ conn.slot
      killer_alone j u id ne there c same =
          let all = kept.counted conn.slot within in
          let one : is_dead (k.slot conn.slot).stage ≡ 1 = ap is_dead dead_slot in
          let both = two_of_sum (λ (x : V). occurs conn.slot (slots_named (side_of x).kills)) views j i u v there at ne in
          let mine = slot_named conn (side_of v).kills killed in
          let theirs = subst (λ n. 1 ≤ occurs n (slots_named (side_of u).kills)) same (slot_named id (side_of u).kills c) in
          absurd (omega (arith, all, one, both, mine, theirs))

      others_apart : (j : ℕ) (u : V) (id : ConnId) → j ≢ i → get_elem? views j ≡ some u → Contains (side_of u).kills id → id ≢ conn
      others_apart j u id ne there c same = killer_alone j u id ne there c (ap (λ (x : ConnId). x.slot) same)

      module _ (kills : (side_of w).kills ≡ (side_of v).kills) (reclaims : (side_of w).reclaims ≡ (side_of v).reclaims)
          (cleared : (side_of w).cleared ≡ (side_of v).cleared) (undated : (side_of w).dated ≡ (side_of v).dated) (unloaded : (side_of w).loaded ≡ 0)
          (rests : (id : ConnId) → Rests (side_of w) id → Rests (side_of v) id) (protecting : (side_of w).protecting ≡ (side_of v).protecting) (epoch : epoch_word words' ≡ epoch_word words)
          (notes : (slot : ℕ) → slot < layout.slots → first_note layout words' slot ≡ first_note layout words slot) where
        abbrev views' : List V
        views' = set views i w

        same_sum : (of : DeathSide → List ConnId) → of (side_of w) ≡ of (side_of v) → (slot : ℕ) →
            sum_by (λ (u : V). occurs slot (slots_named (of (side_of u)))) views' ≡ sum_by (λ (u : V). occurs slot (slots_named (of (side_of u)))) views
        same_sum of same slot =
            let more = sum-set (λ (u : V). occurs slot (slots_named (of (side_of u)))) views i v w at in
            let one = ap (λ ids. occurs slot (slots_named ids)) same in
            omega (arith, more, one)

        -- the seat rests on nothing more
        rested : (j : ℕ) (u : V) (id : ConnId) → get_elem? views' j ≡ some u → Rests (side_of u) id →
            (x : V) × (get_elem? views j ≡ some x) × Rests (side_of x) id × ((side_of u).protecting ≡ (side_of x).protecting)
        rested j u id e r = ⊎_elim
            (λ (x : (j ≡ i) × (w ≡ u)). (
              v,
              ap (get_elem? views) x.0 ∙ at,
              rests id (subst (λ (y : V). Rests (side_of y) id) (sym x.1) r),
              ap (λ (y : V). (side_of y).protecting) (sym x.1) ∙ protecting,
            ))
            (λ (x : (j ≢ i) × (get_elem? views j ≡ some u)). (u, x.1, r, refl))
            (at_set views i j w u e)

        past_on : (id : ConnId) (loaded : ℕ) → IsPast side_of (epoch_word words) views id loaded → IsPast side_of (epoch_word words') views' id loaded
        past_on id loaded past = record {
          reached = subst (λ now. loaded ≤ now) (sym epoch) past.reached;
          rested = λ j u e r. (let was = rested j u id e r in subst (IsProtectedBy loaded) (sym was.3) (past.rested j was.0 was.1 was.2));
        }

        keyless_on : (id : ConnId) → IsKeyless k id → IsKeyless unheld id
        keyless_on id bare w' key holds = bare w' key (held_before key (record { id = id; way = w' }) holds)

        reclaim_on : (id : ConnId) → FitsReclaim side_of k views id → FitsReclaim side_of unheld views' id
        reclaim_on id fits = record {
          dead = fits.dead;
          keyless = keyless_on id fits.keyless;
          unrested = λ j u e r. (let was = rested j u id e r in fits.unrested j was.0 was.1 was.2);
        }

        -- the pass lets none go
        dates_on : KeepsDates side_of (epoch_word words') views views' w
        dates_on = same_dates side_of layout k words words' views i v w kept at (omega (arith, epoch)) undated

        pub deaths_unheld : Deaths side_of layout unheld words' views'
        deaths_unheld = record {
          counted = λ slot h.
              let more = same_sum (λ side. side.kills) kills slot in
              let other = same_sum (λ side. side.cleared) cleared slot in
              let note = ap has_epoch (notes slot h) in
              let was = kept.counted slot h in
              omega (arith, more, other, note, was);
          reclaimed = λ slot h.
              let more = same_sum (λ side. side.reclaims) reclaims slot in
              let note = ap has_epoch (notes slot h) in
              let was = kept.reclaimed slot h in
              omega (arith, more, note, was);
          kills = λ j u id e c. ⊎_elim
              (λ (x : (j ≡ i) × (w ≡ u)).
              let mine : Contains (side_of v).kills id = subst (λ ids. Contains ids id) (ap (λ (y : V). (side_of y).kills) (sym x.1) ∙ kills) c in
              record {
                dead = (kept.kills i v id at mine).dead;
                past = λ some' bare. absurd (let none = ap (λ (y : V). (side_of y).loaded) (sym x.1) ∙ unloaded in omega (arith, some', none));
              })
              (λ (x : (j ≢ i) × (get_elem? views j ≡ some u)).
              let was = kept.kills j u id x.1 c in
              record {
                dead = was.dead;
                past = λ some' bare. past_on id (side_of u).loaded
                    (was.past some' (λ w' key holds. bare w' key (still_held key (record { id = id; way = w' }) (apart id w' (others_apart j u id x.0 x.1 c)) holds)));
              })
              (at_set views i j w u e);
          reclaims = λ j u id e c. ⊎_elim
              (λ (x : (j ≡ i) × (w ≡ u)). reclaim_on id (kept.reclaims i v id at (⊎_elim
              (λ (a : Contains (side_of u).reclaims id). inl (subst (λ ids. Contains ids id) (ap (λ (y : V). (side_of y).reclaims) (sym x.1) ∙ reclaims) a))
              (λ (b : Contains (side_of u).cleared id). inr (subst (λ ids. Contains ids id) (ap (λ (y : V). (side_of y).cleared) (sym x.1) ∙ cleared) b))
              c)))
              (λ (x : (j ≢ i) × (get_elem? views j ≡ some u)). reclaim_on id (kept.reclaims j u id x.1 c))
              (at_set views i j w u e);
          left = λ slot loaded h note.
              let was = kept.left slot loaded h (sym (notes slot h) ∙ note) in
              record { keyless = keyless_on (last_id k slot) was.keyless; past = past_on (last_id k slot) loaded was.past };
          dated = λ slot loaded h note. dates_on.still loaded (kept.dated slot loaded h (sym (notes slot h) ∙ note));
          dates = λ j u e. ⊎_elim
              (λ (x : (j ≡ i) × (w ≡ u)). subst (λ (y : V). (side_of y).dated ≤ epoch_word words') x.1 dates_on.within)
              (λ (x : (j ≢ i) × (get_elem? views j ≡ some u)). (let was = kept.dates j u x.1 in omega (arith, was, epoch)))
              (at_set views i j w u e);
        }

    -- other killers know what is, as before
    pub known_unheld : {V : Type 0} (seen_of : V → Machine S) (side_of : V → PoolSide) (views : List V) (i : ℕ) (w : V) → Known seen_of side_of k views →
        ((j : ℕ) (u : V) (id : ConnId) → j ≢ i → get_elem? views j ≡ some u → Contains (side_of u).kills id → id.slot ≢ conn.slot) →
        ((id : ConnId) → Contains (side_of w).kills id → FitsKnown (seen_of w) unheld id) → Known seen_of side_of unheld (set views i w)
    known_unheld seen_of side_of views i w kept others mine = known-set seen_of side_of k unheld views i w kept
        (λ j u id ne e c way' key holds. still_held key (record { id = id; way = way' }) (apart id way' (λ same. others j u id ne e c (ap (λ (x : ConnId). x.slot) same))) holds)
        (λ j u id ne e c way' key holds. held_before key (record { id = id; way = way' }) holds)
        mine

    module _ {V : Type 0} (turn_of : V → Option (Turn S)) (side_of : V → PoolSide) (layout : Layout) (cell cell' : Place →
        Cell) (words words' : List ℕ) (views : List V) (i : ℕ) (v w : V) (kept : Notes turn_of side_of layout cell k words views)
        (at : get_elem? views i ≡ some v) (turn : turn_of w ≡ turn_of v) (side : side_of w ≡ record (side_of v) { gave_up = gone ∷ (side_of v).gave_up }) (settled : (mine : Turn S) →
        turn_of v ≡ Some mine → mine.ahead ≡ None)
        (turns : (j : ℕ) (u : V) (theirs : Turn S) → j ≢ i → get_elem? views j ≡ some u → turn_of u ≡ Some theirs → theirs.slot ≢ conn.slot)
        (kills : (j : ℕ) (u : V) (id : ConnId) → j ≢ i → get_elem? views j ≡ some u → Contains (side_of u).kills id → id.slot ≢ conn.slot)
        (same : (slot : ℕ) (w' : Way) → note_word layout words' slot w' ≡ note_word layout words slot w')
        (before : (digits : ℕ → ℕ) (level : ℕ) (q : Place) (slot : ℕ) (w' : Way) → IsOnPath digits cell' level q →
        cell' q ≡ Leaf slot w' → IsOnPath digits cell level q × (cell q ≡ Leaf slot w')) where
      -- the notes name where the leaves stand that are left
      pub notes_unheld : Notes turn_of side_of layout cell' unheld words' (set views i w)
      notes_unheld = record {
        named = λ digits level q slot w' are on is none.
            let was = before digits level q slot w' on is in
            same slot w' ∙ kept.named digits level q slot w' are was.0 was.1
            (nobody_before turn_of views i v w slot (note_field w') at (λ a. subst (λ t. IsAheadOf t slot (note_field w')) (sym turn) a) none);
        bare = λ slot w' h live none.
            same slot w' ∙ kept.bare slot w' h live (λ key holds. none key (still_held key (record { id = last_id k slot; way = w' }) (apart (last_id k slot) w' (live_apart slot live)) holds));
        given = λ j u id w' e c not none. same id.slot w' ∙ ⊎_elim
            (λ (x : (j ≡ i) × (w ≡ u)).
            let sides : side_of u ≡ record (side_of v) { gave_up = gone ∷ (side_of v).gave_up } = ap side_of (sym x.1) ∙ side in
            let asked : Found = record { id = id; way = w' } in
            let gave : ¬ Contains (gone ∷ (side_of v).gave_up) asked = (λ d. not (subst (λ (y : PoolSide). Contains y.gave_up asked) (sym sides) d)) in
            kept.given i v id w' at (subst (λ (y : PoolSide). Contains y.kills id) sides c) (λ d. gave (Contains-append_right (gone ∷ []) (side_of v).gave_up asked d))
            (λ key holds. none key (still_held key asked
            (λ is. gave (subst (λ (f : Found). Contains (gone ∷ (side_of v).gave_up) f) (sym is) (Contains-append_left (gone ∷ []) (side_of v).gave_up gone (Contains-push [] gone)))) holds)))
            (λ (x : (j ≢ i) × (get_elem? views j ≡ some u)). kept.given j u id w' x.1 c not
            (λ key holds. none key (still_held key (record { id = id; way = w' }) (apart id w' (λ is. kills j u id x.0 x.1 c (ap (λ (y : ConnId). y.slot) is))) holds)))
            (at_set views i j w u e);
        said = λ j u t said w' e has is firm field. same t.slot w' ∙ ⊎_elim
            (λ (x : (j ≡ i) × (w ≡ u)).
            let sides : side_of u ≡ record (side_of v) { gave_up = gone ∷ (side_of v).gave_up } = ap side_of (sym x.1) ∙ side in
            kept.said i v t said w' at (sym turn ∙ (ap turn_of x.1 ∙ has)) is (subst (λ (y : PoolSide). IsFirm y.kills t said) sides firm) field)
            (λ (x : (j ≢ i) × (get_elem? views j ≡ some u)). kept.said j u t said w' x.1 has is firm field)
            (at_set views i j w u e);
        ahead = λ j u t note e has is. ⊎_elim
            (λ (x : (j ≡ i) × (w ≡ u)). absurd (let no : None ≡ Some note = sym (settled t (sym turn ∙ (ap turn_of x.1 ∙ has))) ∙ is in cc))
            (λ (x : (j ≢ i) × (get_elem? views j ≡ some u)).
            let fits = kept.ahead j u t note x.1 has is in
            let asked : Found = record { id = fits.id; way = fits.way } in
            record {
              way = fits.way;
              field_is = fits.field_is;
              id = fits.id;
              id_there = fits.id_there;
              held = (fits.held.0, still_held fits.held.0 asked (apart fits.id fits.way (λ is'. turns j u t x.0 x.1 has (sym fits.id_there ∙ ap (λ (y : ConnId). y.slot) is'))) fits.held.1);
              stands = same t.slot fits.way ∙ fits.stands;
              place = fits.place;
              names = fits.names;
            })
            (at_set views i j w u e);
        each = λ j u note e c. note_stays layout k unheld words words' (side_of u).builds (side_of u).builds note (λ w' is. same note.slot w')
            (λ key id w' built is there holds. held_before key (record { id = id; way = w' }) holds) (λ id e' c'. c')
            (⊎_elim
            (λ (x : (j ≡ i) × (w ≡ u)).
            let sides : side_of u ≡ record (side_of v) { gave_up = gone ∷ (side_of v).gave_up } = ap side_of (sym x.1) ∙ side in
            subst (λ (y : PoolSide). FitsNote layout k words y.builds note) (sym sides) (kept.each i v note at (subst (λ (y : PoolSide). Contains y.notes note) sides c)))
            (λ (x : (j ≢ i) × (get_elem? views j ≡ some u)). kept.each j u note x.1 c)
            (at_set views i j w u e));
      }
