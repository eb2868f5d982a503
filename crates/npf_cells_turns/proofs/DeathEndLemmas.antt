-- What the end of a turn makes of deaths: an act that kills puts the connection among the pass's kills, which forgets the epoch that it loaded; any other act spares the dead.
use Rattle.std.specs.List.{Contains}
use Rattle.std.proofs.Common.{◌≡◌, ◌≢◌, ℕ, ◌+◌, ◌<◌, ◌≤◌, cond, eqb, eq-eqb, ne_eqb, List, ◌∷◌, map, set, refl, sym, ap, ◌∙◌, subst, ⊎_elim, inl, arith}
use Rattle.std.proofs.lemmas.{Bool.cases_eq, List.map-set}
use mathlib.Core.Option.{some}
use lib.ListN.{get_elem?}
use Rattle.atomic_table.{specs.Table.State, proofs.Lists.at_map}
use Rattle.npf_types.specs.declared.key.Key.{Key}
use Rattle.npf_core.specs.{declared.{conn_id.ConnId.ConnId, slot.Slot.Slot, stage.Stage.{Stage, TheVariants.{Vacant, Dead}}}, History.state_of}
use Rattle.npf_core.specs.{Machine.{Machine, stage_at, stage_of}, Meaning.Meaning}
use Rattle.npf_cells_words.specs.{declared.layout.{Layout.Layout, Pool.TheVariants.Slots}, Layout.{turn_field, notes_field, field_at, epoch_word, reader_word}}
use Rattle.npf_seats.{specs.Sums.occurs, proofs.{ListLemmas.{one_where, occurs-cons}, PrefixLemmas.{none_listed, cons_cases}, SumLemmas.{sum-set, side_same}}}
use Rattle.npf_cells_pins.{specs.{declared.pin.EpochSide.EpochSide, Epochs.{ReaderView, FitsEpochs, Epochs, pin_place}}, proofs.EpochLemmas.changed}
use Rattle.npf_cells_leaves.proofs.TrieLemmas.{KnowsNoMore, knows_same}
use Rattle.npf_cells_lives.specs.{Deaths.{is_dead, has_epoch, first_note, slots_named, killed_in, cleared_in, FitsKill, Deaths}, Turns.Running}
use Rattle.npf_cells_lives.proofs.DeathLemmas.{same_dates, Spares, spares_held, stays_dead, deaths-set}
use Rattle.npf_cells_rule.specs.{declared.view.CellView.CellView, Cells.IsCells, Views.{reader_view, dead_hand, death_side, unloaded}}
use Rattle.npf_cells_rule.proofs.{DeathFrames.{rests_less, deaths_spared}, Frames.epochs_apart, TurnFrames.{other_word, below}}
use Rattle.npf_cells_turns.proofs.ActLemmas.{ActsOn}

module _ {S : Type 0} (k k' : Machine S) (slot : ℕ) (stage : Stage S) (acts : ActsOn k k' slot stage) where
  -- an act spares the dead that leaves a slot Dead that was
  pub acts_spare : ((k.slot slot).stage ≡ Dead → stage ≡ Dead) → Spares k k'
  acts_spare stays = spares_held k k' acts.holder (λ p dead. ⊎_elim
      (λ (e : p ≡ slot).
      let was : (k.slot slot).stage ≡ Dead = ap (λ q. (k.slot q).stage) (sym e) ∙ dead in
      ap k'.slot e ∙ (acts.here ∙ (ap (λ y. record (k.slot slot) { stage = y }) (stays was ∙ sym was) ∙ ap k.slot (sym e))))
      (λ (ne : p ≢ slot). acts.elsewhere p ne)
      (cases_eq p slot))

  -- who is Dead stays the same, where the slot's connection is as Dead as it was
  pub dead_stays : is_dead stage ≡ is_dead (k.slot slot).stage → (p : ℕ) → is_dead (k'.slot p).stage ≡ is_dead (k.slot p).stage
  dead_stays same p = ⊎_elim
      (λ (e : p ≡ slot). ap (λ q. is_dead (k'.slot q).stage) e ∙ (ap (λ (x : Slot S). is_dead x.stage) acts.here ∙ (same ∙ ap (λ q. is_dead (k.slot q).stage) (sym e))))
      (λ (ne : p ≢ slot). ap (λ (x : Slot S). is_dead x.stage) (acts.elsewhere p ne))
      (cases_eq p slot)

  -- what is killed is Dead
  pub killed_stage : (conn : ConnId) → conn.slot ≡ slot → (k.slot slot).inc ≡ conn.inc → stage ≡ Dead → stage_of k' conn ≡ Dead
  killed_stage conn there last dead =
      ap (λ p. stage_at (k'.slot p) conn.inc) there ∙ (ap (λ (x : Slot S). stage_at x conn.inc) acts.here ∙ (ap (λ b. cond b stage Vacant) (eq-eqb (k.slot slot).inc conn.inc last) ∙ dead))

module _ {S A R : Type 0} (m : Meaning S A R) (digest : Key → ℕ) (layout : Layout) (s : State (Running S) (CellView S A R)) (kept : IsCells m digest layout s)
    (id : ℕ) (v : CellView S A R) (at : get_elem? s.views id ≡ some v) (slot : ℕ) (within : slot < layout.slots) where
  abbrev k : Machine S
  k = state_of m kept.log

  abbrev word : ℕ
  word = field_at layout Slots slot turn_field

  abbrev ws : List ℕ
  ws = set s.words word 0

  pub same_epoch : epoch_word s.words ≤ epoch_word ws
  same_epoch = let same = below m digest layout s kept slot turn_field 0 within (inl refl) 0 (omega arith) in omega (arith, same)

  pub same_notes : (p : ℕ) → p < layout.slots → first_note layout ws p ≡ first_note layout s.words p
  same_notes p h = other_word m digest layout s kept slot turn_field 0 within (inl refl) (field_at layout Slots p notes_field) (λ e. absurd (omega (arith, e)))

  -- an act that kills nobody
  pub deaths_stay : (k' : Machine S) (stage : Stage S) (acts : ActsOn k k' slot stage) → is_dead stage ≡ is_dead (k.slot slot).stage →
      ((k.slot slot).stage ≡ Dead → stage ≡ Dead) → (w : CellView S A R) → dead_hand w.pools ≡ dead_hand v.pools → w.epochs ≡ v.epochs → w.trie ≡ v.trie →
      Deaths death_side layout k' ws (set s.views id w)
  deaths_stay k' stage acts same stays w kills epochs trie = deaths_spared m digest layout s word 0 id v w k' kept at kills
      (ap (λ (e : EpochSide). e.loaded) epochs) (acts_spare k k' slot stage acts stays) (dead_stays k k' slot stage acts same)
      (rests_less k v w (subst (λ side. KnowsNoMore v.trie side) (sym trie) (knows_same v.trie)) (ap (λ (e : EpochSide). e.pin) epochs)) same_epoch same_notes

  -- and one that kills the slot's connection
  pub deaths_killed : (k' : Machine S) (conn : ConnId) (acts : ActsOn k k' slot Dead) → conn.slot ≡ slot → (k.slot slot).inc ≡ conn.inc → is_dead (k.slot slot).stage ≡ 0 →
      (w : CellView S A R) → w.pools.kills ≡ conn ∷ v.pools.kills → w.pools.reclaims ≡ v.pools.reclaims →
      w.pools.cleared ≡ v.pools.cleared → w.pools.dated ≡ v.pools.dated → w.epochs ≡ unloaded v.epochs → w.trie ≡ v.trie →
      Deaths death_side layout k' ws (set s.views id w)
  deaths_killed k' conn acts there last alive w kills reclaims cleared dated epochs trie = deaths-set death_side layout k k' s.words ws s.views id v w kept.deaths at spares same_epoch
      (rests_less k v w (subst (λ side. KnowsNoMore v.trie side) (sym trie) (knows_same v.trie)) (ap (λ (e : EpochSide). e.pin) epochs))
      reclaims cleared counted (λ p h. (let note = ap has_epoch (same_notes p h) in let was = kept.deaths.reclaimed p h in
      omega (arith, note, was))) mine (λ p epoch h note. sym (same_notes p h) ∙ note)
      (same_dates death_side layout k s.words ws s.views id v w kept.deaths at same_epoch dated)
    where
      spares : Spares k k'
      spares = acts_spare k k' slot Dead acts (λ was. refl)

      here : (p : ℕ) → occurs p (slots_named w.pools.kills) ≡ one_where (eqb conn.slot p) + occurs p (slots_named v.pools.kills)
      here p = ap (λ ids. occurs p (slots_named ids)) kills ∙ occurs-cons p conn.slot (slots_named v.pools.kills)

      counted : (p : ℕ) → p < layout.slots → killed_in death_side (set s.views id w) p + has_epoch (first_note layout ws p) + cleared_in death_side s.views p ≡ is_dead (k'.slot p).stage
      counted p h =
          let more = sum-set (λ (u : CellView S A R). occurs p (slots_named u.pools.kills)) s.views id v w at in
          let mine' = here p in
          let note = ap has_epoch (same_notes p h) in
          let was = kept.deaths.counted p h in
          ⊎_elim
          (λ (e : p ≡ slot).
          let one : one_where (eqb conn.slot p) ≡ 1 = ap one_where (eq-eqb conn.slot p (there ∙ sym e)) in
          let none : is_dead (k.slot p).stage ≡ 0 = ap (λ q. is_dead (k.slot q).stage) e ∙ alive in
          let now : is_dead (k'.slot p).stage ≡ 1 = ap (λ q. is_dead (k'.slot q).stage) e ∙ ap (λ (x : Slot S). is_dead x.stage) acts.here in
          omega (arith, more, mine', note, was, one, none, now))
          (λ (ne : p ≢ slot).
          let no : one_where (eqb conn.slot p) ≡ 0 = ap one_where (ne_eqb conn.slot p (λ e. ne (sym e ∙ there))) in
          let same : is_dead (k'.slot p).stage ≡ is_dead (k.slot p).stage = ap (λ (x : Slot S). is_dead x.stage) (acts.elsewhere p ne) in
          omega (arith, more, mine', note, was, no, same))
          (cases_eq p slot)

      unseen : w.epochs.loaded ≡ 0
      unseen = ap (λ (e : EpochSide). e.loaded) epochs

      mine : (i : ConnId) → Contains w.pools.kills i → FitsKill death_side k' (epoch_word ws) (set s.views id w) w.epochs.loaded i
      mine i c = record {
        dead = ⊎_elim
            (λ (same : conn ≡ i). subst (λ (x : ConnId). stage_of k' x ≡ Dead) same (killed_stage k k' slot Dead acts conn there last refl))
            (λ (c' : Contains v.pools.kills i). stays_dead k k' spares i (kept.deaths.kills id v i at c').dead)
            (cons_cases conn i v.pools.kills (subst (λ ids. Contains ids i) kills c));
        past = λ some' bare. absurd (let none = unseen in omega (arith, some', none));
      }

  -- the epochs are none the worse for what the pass forgets of them
  pub epochs_unloaded : (w : CellView S A R) → w.seats.readers ≡ v.seats.readers → w.epochs ≡ unloaded v.epochs → Epochs (epoch_word ws) (reader_word ws) (map reader_view (set s.views id w))
  epochs_unloaded w readers epochs =
      subst (λ rs. Epochs (epoch_word ws) (reader_word ws) rs)
      (sym (map-set reader_view s.views id w ∙ ap (λ (r : ReaderView). set readings id r) (λ i. record { places = readers i; side = epochs i })))
      (changed (epoch_word ws) (epoch_word ws) (reader_word ws) (reader_word ws) readings id forgetful moved (record {
        from = moved.from;
        most = moved.most;
        counted = (let sums = sum-set (λ (u : ReaderView). u.side.raises) readings id (reader_view v) forgetful there in let all = moved.counted in omega (arith, sums, all));
        fits = record { loaded = omega arith; greatest = fits.greatest; known = fits.known; guards = fits.guards; kept = fits.kept; pinned = fits.pinned };
        others = λ j q ne e. moved.each j q e;
        scanner = λ j q ne e c. absurd (none_listed (pin_place q.places) c);
        target = λ i q ne e. moved.scans i id q (reader_view v) e there;
        itself = λ c. absurd (none_listed (pin_place v.seats.readers) c);
      }))
    where
      readings : List ReaderView
      readings = map reader_view s.views

      forgetful : ReaderView
      forgetful = record { places = v.seats.readers; side = unloaded v.epochs }

      there : get_elem? readings id ≡ some (reader_view v)
      there = at_map reader_view s.views id v at

      moved : Epochs (epoch_word ws) (reader_word ws) readings
      moved = subst (λ rs. Epochs (epoch_word ws) (reader_word ws) rs) (side_same reader_view s.views id v v at refl)
          (epochs_apart m digest layout s word 0 id v v kept at refl (λ j h. below m digest layout s kept slot turn_field 0 within (inl refl) j (omega (arith, h))))

      fits : FitsEpochs (epoch_word ws) (reader_word ws) (reader_view v)
      fits = moved.each id (reader_view v) there
