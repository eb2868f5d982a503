-- A key of a killed connection is given up under the slot's turn, where its note names the place of its leaf.
use Rattle.std.specs.List.{Contains}
use Rattle.std.proofs.Common.{◌≡◌, ◌≢◌, ℕ, ◌+◌, ◌*◌, ◌<◌, ◌≤◌, ◌↔◌, Some, None, [], ◌∷◌, refl, sym, ap, ◌∙◌, subst, ⊎_elim, arith, length}
use Rattle.std.proofs.lemmas.List.Elements.{Contains-append_left, Contains-push}
use Rattle.atomic_table.specs.Table.{Me}
use Rattle.npf_types.specs.declared.key.Way.{Way}
use Rattle.npf_core.specs.{declared.{conn_id.ConnId.ConnId, slot.Slot.Slot, act.Act.TheVariants.Unhold}, History.{Legal, state_of}}
use Rattle.npf_core.specs.declared.{reply.Reply.TheVariants.Nothing as Replied, entry.Entry.Entry, stage.Stage.TheVariants.{Dead, Building}}
use Rattle.npf_core.specs.{Machine.{stage_of, Holds, IsClaimed}, Meaning.Meaning}
use Rattle.npf_connections.specs.{Adding.AddsOwn, Entries.entry_of, Pass.{IsPass, IsOwn, all_places}}
use Rattle.npf_paths.specs.{declared.place.{Lock.Lock, Place.Place}, Places.lock_of}
use Rattle.npf_paths.specs.declared.place.Place.TheVariants as Places
use Rattle.npf_seats.proofs.SeatLemmas.{cases_lt}
use Rattle.npf_cells_pins.specs.declared.pin.EpochSide.{EpochSide}
use Rattle.npf_cells_words.specs.{declared.layout.Layout.Layout, Codes.place_code, Layout.note_field, Places.IsInTrie}
use Rattle.npf_cells_lives.specs.{declared.turn.Turn.Turn, Turns.{Running, running, stage_phase}}
use Rattle.npf_cells_rule.specs.{declared.view.CellView.CellView, Passes.{IsProtected, cell_pass, is_pinned}, Views.{unloaded, with_trie}}
use Rattle.npf_cells_holds.specs.{LockKinds.locking, UnlinkKinds.{MayUnlink, HasUnlinked}}
use Rattle.npf_cells_turns.specs.{declared.act.TurnAct.TheVariants.Nothing, EndKinds.MayEndBy, NoteKinds.{noting, TellsKilledKey, ShowsKill}}
use Rattle.npf_cells_turns.specs.TurnKinds.{HasSlotTurn, turn_at}
use Rattle.npf_turn.specs.{Endings.{without_key, GivesUpKey, HasNoKey}, TakingOff.{EpochsGoOn, HasEmptied, LeavesPlace}}

-- a note that isn't 0 is the number of a place that the table has
pub names_within : {S A R : Type 0} (m : Meaning S A R) (layout : Layout) (v : CellView S A R) (id : ConnId) (way : Way) (found : ℕ) →
    TellsKilledKey m layout v id way found → found ≢ 0 → (1 ≤ found) × (found < 65 + 16 * layout.nodes)
names_within m layout v id way found tells some' = (
  ⊎_elim (λ (low : found < 1). absurd (some' (omega (arith, low)))) (λ h. h) (cases_lt found 1),
  ⊎_elim (λ h. h) (λ (high : 65 + 16 * layout.nodes ≤ found). absurd (some' (tells.zero.1 (λ key held. (let n = tells.named (key, held) in beyond n.place n.within n.names high)))))
      (cases_lt found (65 + 16 * layout.nodes)),
)
  where
    beyond : (p : Place) → IsInTrie layout p → found ≡ place_code p → 65 + 16 * layout.nodes ≤ found → ⊥
    beyond (Places.Root digit) within is high = absurd (omega (arith, within, is, high))
    beyond (Places.Node node digit) within is high = absurd (let low = within.0 in let short = within.1 in omega (arith, low, short, is, high))

module _ {S A R : Type 0} (m : Meaning S A R) (layout : Layout) (old : Me (Running S) (CellView S A R)) (id : ConnId) (way : Way) (was : Slot S) (note : ℕ) where
  abbrev turn_told : Turn S
  turn_told = record { slot = id.slot; was = was; phase = stage_phase was.stage; ahead = None; said = Some (record { field = note_field way; value = note }) }

  -- the pass has the turn of the connection's slot, and was told what the note says
  abbrev pub told : Me (Running S) (CellView S A R)
  told = (record old.0 { turn = Some turn_told }, (id.slot, running was.stage) ∷ [])

  -- and it has the lock
  abbrev pub holding : Lock → Me (Running S) (CellView S A R)
  holding lock = (record old.0 { turn = Some turn_told; trie = locking lock old.0.trie }, (id.slot, running was.stage) ∷ [])

  abbrev taken_so : Me (Running S) (CellView S A R) → Type 0
  taken_so taken = taken ≡ (record old.0 { turn = Some (turn_at id.slot was) }, (id.slot, running was.stage) ∷ [])

  pub slot_turn : (taken : Me (Running S) (CellView S A R)) → taken_so taken → HasSlotTurn taken.0 id.slot
  slot_turn taken is = record { turn = turn_at id.slot was; has = ap (λ (y : Me (Running S) (CellView S A R)). y.0.turn) is; there = refl }

  pub told_so : (taken noted : Me (Running S) (CellView S A R)) → taken_so taken → noted ≡ noting (note_field way) note taken → noted ≡ told
  told_so taken noted is loads = loads ∙ ap (noting (note_field way) note) is

  pub tells_keys : (taken : Me (Running S) (CellView S A R)) → taken_so taken → Contains old.0.pools.kills id → ¬ Contains old.0.pools.gave_up (record { id = id; way = way }) →
      ShowsKill m layout taken.0 id.slot way note → TellsKilledKey m layout old.0 id way note
  tells_keys taken is killed held shows =
      let tells = subst (λ (y : Me (Running S) (CellView S A R)). ShowsKill m layout y.0 id.slot way note) is shows (turn_at id.slot was) id refl refl refl killed refl held in
      record { dead = tells.dead; zero = tells.zero; named = tells.named }

  pub holds_lock : (noted locked : Me (Running S) (CellView S A R)) (lock : Lock) → noted ≡ told → locked ≡ with_trie noted (locking lock noted.0.trie) → locked ≡ holding lock
  holds_lock noted locked lock is gets = gets ∙ ap (λ (y : Me (Running S) (CellView S A R)). with_trie y (locking lock y.0.trie)) is

  pub still_protected : (noted : Me (Running S) (CellView S A R)) → noted ≡ told → IsProtected old.0.epochs.pin → IsProtected noted.0.epochs.pin
  still_protected noted is protected = subst (λ (y : Me (Running S) (CellView S A R)). IsProtected y.0.epochs.pin) (sym is) protected

  pub may_unlink : (locked : Me (Running S) (CellView S A R)) (p : Place) → locked ≡ holding (lock_of p) → place_code p ≡ note →
      Contains old.0.pools.kills id → ¬ Contains old.0.pools.gave_up (record { id = id; way = way }) → MayUnlink locked.0 p id way
  may_unlink locked p is names killed held = subst (λ (y : Me (Running S) (CellView S A R)). MayUnlink y.0 p id way) (sym is) (record {
    killed = killed;
    held = held;
    turn = turn_told;
    has = refl;
    there = refl;
    settled = refl;
    named = ap (λ n. Some (record { field = note_field way; value = n })) (sym names);
    locked = Contains-append_left (lock_of p ∷ []) old.0.trie.locks (lock_of p) (Contains-push [] (lock_of p));
  })

  -- what is left of it once the key was given up, and the place's node was taken off or not
  module _ (p : Place) (locked gone : Me (Running S) (CellView S A R)) (is : locked ≡ holding (lock_of p)) (unlinks : HasUnlinked m id way p locked gone) (unlocked : old.0.trie.locks ≡ []) where
    unlinks_so : HasUnlinked m id way p (holding (lock_of p)) gone
    unlinks_so = subst (λ (y : Me (Running S) (CellView S A R)). HasUnlinked m id way p y gone) is unlinks

    abbrev freed_with : EpochSide → Me (Running S) (CellView S A R) → Me (Running S) (CellView S A R)
    freed_with epochs y = (record y.0 { epochs = epochs; trie = record y.0.trie { locks = []; emptied = None; met_mark = None } }, y.1)

    pub emptied : old.0.trie.marks ≡ [] → HasEmptied gone.0.trie p
    emptied none = subst (λ (y : Me (Running S) (CellView S A R)). HasEmptied y.0.trie p) (sym unlinks_so.is)
        (record { only = ap (λ locks. lock_of p ∷ locks) unlocked; knows = refl; unmarked = none; unseen = refl; unmet = refl })

    pub protected_still : IsProtected old.0.epochs.pin → IsProtected gone.0.epochs.pin
    protected_still protected = subst (λ (y : Me (Running S) (CellView S A R)). IsProtected y.0.epochs.pin) (sym unlinks_so.is) protected

    module _ (freed : Me (Running S) (CellView S A R)) (left : LeavesPlace gone freed) where
      pub may_end_after : MayEndBy m Nothing id.slot freed
      may_end_after = subst (λ (y : Me (Running S) (CellView S A R)). MayEndBy m Nothing id.slot y) (sym (left.is ∙ ap (freed_with freed.0.epochs) unlinks_so.is))
          (record { turn = turn_told; has = refl; there = refl; may = tt; carries = refl; phase = refl; settled = refl })

      pub gives_up : (now : Me (Running S) (CellView S A R)) → now ≡ (record freed.0 { turn = None }, []) → GivesUpKey m id way old now
      gives_up now ended = record {
        held = unlinks_so.held;
        dead = subst (λ h. stage_of (state_of m h) id ≡ Dead) (sym same) unlinks_so.dead;
        others = λ other key ne. subst (λ h. Holds (state_of m old.0.seats.history) id other key ↔ Holds (state_of m h) id other key) (sym same) (unlinks_so.others other key ne);
        adds = subst (λ h. AddsOwn (cell_pass old.0) h (entry_of (cell_pass old.0) (Unhold id way) Replied ∷ [])) (sym same) unlinks_so.adds;
        legal = λ pass.
            let was = unlinks_so.legal pass in
            let gone_pass = subst (λ (y : Me (Running S) (CellView S A R)). IsPass m (cell_pass y.0)) unlinks_so.is was in
            subst (λ (y : Me (Running S) (CellView S A R)). IsPass m (cell_pass y.0)) (sym now_is) (record {
              legal = subst (λ h. Legal m old.0.seats.about h) (sym same) gone_pass.legal;
              stays = subst (λ h. (i : ConnId) → Contains old.0.trie.answered i → IsClaimed (stage_of (state_of m h) i)) (sym same) gone_pass.stays;
              building = subst (λ h. (i : ConnId) → Contains old.0.pools.builds i → stage_of (state_of m h) i ≡ Building old.0.seats.number) (sym same) gone_pass.building;
              unanswered = λ out. gone_pass.unanswered (ap is_pinned (sym pin) ∙ out);
              idle = λ out. gone_pass.idle (ap is_pinned (sym pin) ∙ out);
              alone = subst (λ h. length old.0.seats.readers ≡ all_places → (entry : Entry S A R) → Contains h entry → IsOwn (cell_pass old.0) entry.seat) (sym same) gone_pass.alone;
              most = epochs.most gone_pass.most;
            });
        is = now_is;
        epochs = epochs;
      }
        where
          ended_is : now ≡ (record gone.0 { epochs = freed.0.epochs; trie = record gone.0.trie { locks = []; emptied = None; met_mark = None }; turn = None }, [])
          ended_is = ended ∙ ap (λ (y : Me (Running S) (CellView S A R)). (record y.0 { turn = None }, [])) left.is

          same : now.0.seats.history ≡ gone.0.seats.history
          same = ap (λ (y : Me (Running S) (CellView S A R)). y.0.seats.history) ended_is

          known : now.0.epochs ≡ freed.0.epochs
          known = ap (λ (y : Me (Running S) (CellView S A R)). y.0.epochs) ended_is

          epochs : EpochsGoOn (unloaded old.0.epochs) now.0.epochs
          epochs = subst (EpochsGoOn (unloaded old.0.epochs)) (sym known) (subst (λ (y : Me (Running S) (CellView S A R)). EpochsGoOn y.0.epochs freed.0.epochs) unlinks_so.is left.epochs)

          pin : now.0.epochs.pin ≡ old.0.epochs.pin
          pin = epochs.pin

          now_is : now ≡ (without_key old.0 now.0.seats.history now.0.epochs id way, [])
          now_is = ended_is
              ∙ (ap (λ (y : Me (Running S) (CellView S A R)).
              (record y.0 { epochs = freed.0.epochs; trie = record y.0.trie { locks = []; emptied = None; met_mark = None }; turn = None }, [])) unlinks_so.is
              ∙ (λ i. (without_key old.0 (sym same i) (sym known i) id way, [])))

  -- where there is none the turn is ended
  pub may_end_idle : (noted : Me (Running S) (CellView S A R)) → noted ≡ told → MayEndBy m Nothing id.slot noted
  may_end_idle noted is = subst (λ (y : Me (Running S) (CellView S A R)). MayEndBy m Nothing id.slot y) (sym is)
      (record { turn = turn_told; has = refl; there = refl; may = tt; carries = refl; phase = refl; settled = refl })

  pub has_none : (noted now : Me (Running S) (CellView S A R)) → noted ≡ told → TellsKilledKey m layout old.0 id way note →
      note ≡ 0 → now ≡ (record noted.0 { turn = None }, []) → HasNoKey m id way old now
  has_none noted now is tells none ended = record { dead = tells.dead; none = tells.zero.0 none; is = ended ∙ ap (λ (y : Me (Running S) (CellView S A R)). (record y.0 { turn = None }, [])) is }
