-- A slot's connection is reclaimed under its turn, and freed.
use Rattle.std.proofs.Common.{◌≡◌, ◌≢◌, ℕ, ◌-◌, ◌^◌, ◌<◌, true, false, cond, eqb, eq-eqb, Some, None, [], ◌∷◌, refl, sym, ap, ◌∙◌, subst, inr, inl, arith}
use Rattle.std.proofs.lemmas.List.Elements.{Contains-append_left, Contains-push}
use Rattle.atomic_table.specs.Table.{Me}
use Rattle.npf_types.specs.declared.key.{Key.Key, Way.TheVariants.Forward}
use Rattle.npf_core.specs.{declared.{conn_id.ConnId.ConnId, slot.Slot.Slot, stage.Stage.{Stage, TheVariants.{Vacant, Building, Live, Dead}}}, Meaning.Meaning}
use Rattle.npf_cells_words.specs.{declared.layout.{Layout.Layout, Pool.TheVariants.Slots}, Layout.{phase_field, notes_field, note_field}}
use Rattle.npf_cells_lives.specs.{declared.turn.Turn.Turn, Turns.{Running, running, stage_phase}}
use Rattle.npf_cells_rule.specs.{declared.view.CellView.CellView, Views.with_pools}
use Rattle.npf_cells_takes.specs.{PrivateKinds.{HasTurnIn, MayClear, MayStore, ShowsTurnInc, clearing, stored_in}, SlotKinds.{HasFreed, MayGiveBack}}
use Rattle.npf_cells_turns.specs.{declared.act.TurnAct.TheVariants.{Nothing, Reclaim}, EndKinds.{MayEndBy, with_reclaim}, NoteKinds.noting}
use Rattle.npf_cells_turns.specs.{TurnKinds.{HasSlotTurn, turn_at}, WordKinds.ShowsPhase}
use Rattle.npf_turn.specs.Reclaims.{IsLongLeft, turning, HasFreedSlot}

-- what has this phase is Dead
pub dead_phase : {S : Type 0} (stage : Stage S) → stage_phase stage ≡ 2 → stage ≡ Dead
dead_phase Vacant e = absurd cc
dead_phase (Building seat) e = absurd cc
dead_phase (Live flow steps) e = absurd cc
dead_phase Dead e = refl

module _ {S A R : Type 0} (m : Meaning S A R) (digest : Key → ℕ) (layout : Layout) (old : Me (Running S) (CellView S A R)) (slot : ℕ) (was : Slot S) where
  -- the pass has the slot's turn, and then was told its first note
  abbrev pub taken : Me (Running S) (CellView S A R)
  taken = (turning old.0 slot was, (slot, running was.stage) ∷ [])

  abbrev pub turn_told : ℕ → ℕ → Turn S
  turn_told note phase = record { slot = slot; was = was; phase = phase; ahead = None; said = Some (record { field = notes_field; value = note }) }

  abbrev pub told : ℕ → Me (Running S) (CellView S A R)
  told note = (record old.0 { turn = Some (turn_told note (stage_phase was.stage)) }, (slot, running was.stage) ∷ [])

  pub told_so : (found noted : Me (Running S) (CellView S A R)) (note : ℕ) → found ≡ taken → noted ≡ noting (note_field Forward) note found → noted ≡ told note
  told_so found noted note is loads = loads ∙ ap (noting (note_field Forward) note) is

  pub slot_turn : (found : Me (Running S) (CellView S A R)) → found ≡ taken → HasSlotTurn found.0 slot
  slot_turn found is = record { turn = turn_at slot was; has = ap (λ (y : Me (Running S) (CellView S A R)). y.0.turn) is; there = refl }

  -- the phase that it loads is that of what the slot was at
  pub phase_shown : (found : Me (Running S) (CellView S A R)) (phase : ℕ) → found ≡ taken → ShowsPhase found.0.turn Slots slot phase_field phase → phase ≡ stage_phase was.stage
  phase_shown found phase is shows = shows (turn_at slot was) (ap (λ (y : Me (Running S) (CellView S A R)). y.0.turn) is) refl refl

  -- it may end the turn, and do nothing
  pub may_leave : (found : Me (Running S) (CellView S A R)) → found ≡ taken → MayEndBy m Nothing slot found
  may_leave found is = subst (λ (y : Me (Running S) (CellView S A R)). MayEndBy m Nothing slot y) (sym is)
      (record { turn = turn_at slot was; has = refl; there = refl; may = tt; carries = refl; phase = refl; settled = refl })

  pub may_leave_told : (noted : Me (Running S) (CellView S A R)) (note : ℕ) → noted ≡ told note → MayEndBy m Nothing slot noted
  may_leave_told noted note is = subst (λ (y : Me (Running S) (CellView S A R)). MayEndBy m Nothing slot y) (sym is)
      (record { turn = turn_told note (stage_phase was.stage); has = refl; there = refl; may = tt; carries = refl; phase = refl; settled = refl })

  pub left_so : (found now : Me (Running S) (CellView S A R)) → (record found.0 { turn = None }) ≡ (record old.0 { turn = None }) →
      now ≡ (record found.0 { turn = None }, []) → now ≡ (record old.0 { turn = None }, [])
  left_so found now same ended = ended ∙ ap (λ (y : CellView S A R). (y, [])) same

  pub has_turn : (noted : Me (Running S) (CellView S A R)) (note : ℕ) → noted ≡ told note → stage_phase was.stage ≡ 2 → HasTurnIn noted.0.turn slot
  has_turn noted note is dead = (turn_told note (stage_phase was.stage), ap (λ (y : Me (Running S) (CellView S A R)). y.0.turn) is, refl, λ none. absurd (let no : 2 ≡ 0 = sym dead ∙ none in cc))

  pub inc_is : (noted : Me (Running S) (CellView S A R)) (note inc : ℕ) → noted ≡ told note → stage_phase was.stage ≡ 2 → ShowsTurnInc noted.0.turn slot inc → inc ≡ was.inc
  inc_is noted note inc is dead shows =
      shows (turn_told note (stage_phase was.stage)) (ap (λ (y : Me (Running S) (CellView S A R)). y.0.turn) is) refl (λ none. absurd (let no : 2 ≡ 0 = sym dead ∙ none in cc))

  pub may_store : (noted : Me (Running S) (CellView S A R)) (note number : ℕ) → noted ≡ told note → MayStore m noted.0 Slots slot phase_field number
  may_store noted note number is = inr (inl (record { turn = turn_told note (stage_phase was.stage); has = ap (λ (y : Me (Running S) (CellView S A R)). y.0.turn) is; there = refl; phase = refl }))

  -- the slot's connection is reclaimed, its note cleared, and it is freed
  module _ (id : ConnId) (there : id.slot ≡ slot) (inc : was.inc ≡ id.inc) (note : ℕ) (dead : stage_phase was.stage ≡ 2)
      (noted stored : Me (Running S) (CellView S A R)) (is : noted ≡ told note) (stores : stored ≡ stored_in Slots slot phase_field 0 noted) where
    stored_so : stored ≡ (record old.0 { turn = Some (turn_told note 0) }, (slot, running was.stage) ∷ [])
    stored_so = stores ∙ ap (stored_in Slots slot phase_field 0) is

    pub may_reclaim : IsLongLeft note old.0.epochs.loaded → MayEndBy m (Reclaim id) slot stored
    may_reclaim long = subst (λ (y : Me (Running S) (CellView S A R)). MayEndBy m (Reclaim id) slot y) (sym stored_so) (record {
      turn = turn_told note 0;
      has = refl;
      there = refl;
      may = record {
        there = there;
        inc = inc;
        dead = dead_phase was.stage dead;
        epoch = note - 2 ^ 63;
        left = ap (λ n. Some (record { field = notes_field; value = n })) (let high = long.left in omega (arith, high));
        later = (let high = long.left in let far = long.long in omega (arith, high, far));
      };
      carries = ap (λ (stage : Stage S). (slot, running stage) ∷ []) (dead_phase was.stage dead);
      phase = refl;
      settled = refl;
    })

    module _ (ended cleared freed : Me (Running S) (CellView S A R)) (ends : ended ≡ (record stored.0 { pools = with_reclaim id stored.0.pools; turn = None }, []))
        (clears : cleared ≡ with_pools ended (clearing id ended.0.pools)) (none : old.0.pools.reclaims ≡ []) (clear : old.0.pools.cleared ≡ []) where
      ended_so : ended ≡ (record old.0 { pools = with_reclaim id old.0.pools; turn = None }, [])
      ended_so = ends ∙ ap (λ (y : Me (Running S) (CellView S A R)). (record y.0 { pools = with_reclaim id y.0.pools; turn = None }, [])) stored_so

      pub may_clear : MayClear ended.0 id
      may_clear = subst (λ (y : Me (Running S) (CellView S A R)). MayClear y.0 id) (sym ended_so) (Contains-append_left (id ∷ []) old.0.pools.reclaims id (Contains-push [] id))

      abbrev emptied : Me (Running S) (CellView S A R)
      emptied = (record old.0 { pools = record old.0.pools { reclaims = []; cleared = id ∷ [] }; turn = None }, [])

      -- nothing else was reclaimed
      gone : cond (cond (eqb id.slot id.slot) false true) (id ∷ []) [] ≡ []
      gone = ap (λ b. cond (cond b false true) (id ∷ []) []) (eq-eqb id.slot id.slot refl)

      cleared_so : cleared ≡ emptied
      cleared_so = clears ∙ (ap (λ (y : Me (Running S) (CellView S A R)). with_pools y (clearing id y.0.pools)) ended_so ∙ (
          (λ i. (record old.0 { pools = record (clearing id (with_reclaim id (record old.0.pools { reclaims = none i; cleared = clear i }))) { kills = old.0.pools.kills }; turn = None }, []))
          ∙ ap (λ ids. (record old.0 { pools = record old.0.pools { reclaims = ids; cleared = id ∷ [] }; turn = None }, [])) gone))

      pub may_give_back : id.inc ≢ 2 ^ 64 - 1 → id.inc < 2 ^ 64 → MayGiveBack cleared.0 id
      may_give_back further below = subst (λ (y : Me (Running S) (CellView S A R)). MayGiveBack y.0 id) (sym cleared_so)
          (record { cleared = Contains-push [] id; further = omega (arith, further, below) })

      pub frees : (found : ℕ) → HasFreed m id found cleared freed → found ≡ freed.0.pools.found → HasFreedSlot m slot id old freed
      frees found has same = record {
        there = there;
        adds = free_so.adds;
        legal = free_so.legal;
        is = free_so.is
            ∙ (ap (λ ids. (
              record old.0 {
                seats = record old.0.seats { history = freed.0.seats.history };
                pools = record old.0.pools { found = found; reclaims = []; cleared = ids };
                turn = None;
              },
              [],
            )) gone
            ∙ (λ i. (
              record old.0 {
                seats = record old.0.seats { history = freed.0.seats.history };
                pools = record old.0.pools { found = same i; reclaims = sym none i; cleared = sym clear i };
                turn = None;
              },
              [],
            )));
      }
        where
          free_so : HasFreed m id found emptied freed
          free_so = subst (λ (y : Me (Running S) (CellView S A R)). HasFreed m id found y freed) cleared_so has
