-- A store in a note keeps the rule: of a way of which the connection holds no key, or under the slot's turn before its leaf is moved.
use Rattle.std.specs.List.{Contains}
use Rattle.std.proofs.Common.{◌≡◌, ◌≢◌, ◌⊎◌, ℕ, ◌+◌, ◌<◌, ◌≤◌, true, Some, None, List, [], ◌∷◌, set, length, slice_index, refl, sym, ap, ◌∙◌, subst, ⊎_elim, inl, inr, arith, length-set}
use Rattle.std.proofs.lemmas.{Bool.cases_eq, List.{get_or-set_same, get_or-set_other}}
use mathlib.Core.Option.{some}
use lib.ListN.{get_elem?}
use Rattle.atomic_table.{specs.Table.State, proofs.Lists.{at_set, at_map}}
use Rattle.npf_types.specs.declared.key.{Key.Key, Way.Way}
use Rattle.npf_core.specs.{declared.{conn_id.ConnId.ConnId, slot.Slot.Slot, stage.Stage.TheVariants.{Building, Dead}}, History.state_of}
use Rattle.npf_core.{specs.{Machine.{Machine, HoldsNone, HoldsSome}, Meaning.Meaning}, proofs.{EqualityLemmas.same_conn_id, HolderLemmas.holders_claimed}}
use Rattle.npf_core.proofs.LifeLemmas.{IsClaimed-last}
use Rattle.npf_paths.specs.{declared.{cell.Cell.TheVariants.{Leaf, Mark}, place.Place.Place}, Paths.{AreDigits, IsOnPath}, Places.lock_of}
use Rattle.npf_paths.proofs.PathLemmas.{same_places}
use Rattle.npf_cells_words.specs.declared.layout.{Layout.Layout, Pool.{Pool, TheVariants.{Slots, Nodes}}}
use Rattle.npf_cells_words.specs.{Layout.{turn_field, phase_field, inc_field, parent_field, key_field, note_field, field_at}, Places.{lock_at, place_at}}
use Rattle.npf_cells_words.proofs.WordLemmas.{field_behind, field_reach, key_short, not_slot, note_late, note_soon, same_note, slot_apart}
use Rattle.npf_seats.proofs.{PrefixLemmas.cons_cases, SumLemmas.set_there}
use Rattle.npf_cells_leaves.specs.Trie.{HasNoWalk, digits_of, key_word, trie_words, leaf_found}
use Rattle.npf_cells_leaves.proofs.TrieLemmas.{KeepsTrie, KnowsNoMore, are_digits, cell_kept, knows_same, trie_same}
use Rattle.npf_cells_lives.specs.{declared.{pools.{Note.Note, PoolSide.PoolSide}, turn.{Ahead.Ahead, Said.Said, Turn.Turn}}, Conns.{IsBuiltIn, inc_word}}
use Rattle.npf_cells_lives.specs.Deaths.{first_note, has_epoch, last_id, slot_by, unreclaimed, Deaths}
use Rattle.npf_cells_lives.specs.{Notes.{note_word, IsAheadOf, IsFirm, FitsAhead, FitsNote, notes_but, with_ahead, Notes}, Stored.IsOwnField}
use Rattle.npf_cells_lives.{specs.Turns.{Running, stage_phase, FitsTurn, Turns}, proofs.BuiltLemmas.bare_in_log}
use Rattle.npf_cells_lives.proofs.{ConnLemmas.{building_at, builds-kept, unstored-set, conns-same}, DeathLemmas.dead_at, FreedLemmas.still_there}
use Rattle.npf_cells_lives.proofs.{LockLemmas.{locks-same, holders-set}, NoteLemmas.{ahead_fits, ahead_turns, note_stays, notes_left, nobody_before}}
use Rattle.npf_cells_lives.proofs.{StoredLemmas.{stored_kept, stored-set, own_same}, TurnLemmas.{TurnsStay, turns-like, turns_alone}}
use Rattle.npf_cells_rule.specs.{declared.view.CellView.CellView, Cells.IsCells}
use Rattle.npf_cells_rule.{specs.Views.{seat_side, lock_side, pool_side, trie_side, turn_side, DeadHand, dead_hand, death_side}, proofs.DeathFrames.gone_same}
use Rattle.npf_cells_rule.proofs.{Frames.{alone_still, same_kills, private_step}, MarkFrames.{MeetsNoMore, marks_on, meets_same, words_slot}}
use Rattle.npf_cells_rule.proofs.LawLemmas.{builds_alone}
use Rattle.npf_cells_takes.{proofs.DeathKeepLemmas.{deaths_noted, built_unmarked, held_unmarked}, specs.PrivateKinds.{MayStoreNote, MayStoreAhead}}

module _ {S A R : Type 0} (m : Meaning S A R) (digest : Key → ℕ) (layout : Layout) (s : State (Running S) (CellView S A R))
    (kept : IsCells m digest layout s) (id : ℕ) (v : CellView S A R) (at : get_elem? s.views id ≡ some v)
    (slot : ℕ) (way : Way) (value : ℕ) (within : slot < layout.slots) (seated : 1 ≤ length v.seats.readers) where
  abbrev k : Machine S
  k = state_of m kept.log

  abbrev field : ℕ
  field = note_field way

  abbrev word : ℕ
  word = field_at layout Slots slot field

  abbrev words' : List ℕ
  words' = set s.words word value

  late : 18 ≤ field
  late = note_late way

  soon : field < 21
  soon = note_soon way

  other_word : (j : ℕ) → j ≢ word → slice_index words' j ≡ slice_index s.words j
  other_word j ne = get_or-set_other s.words word j value 0 ne

  here : note_word layout words' slot way ≡ value
  here = get_or-set_same s.words word value 0 (let reach = field_reach layout Slots slot field within soon in let long = kept.connections.reach in omega (arith, reach, long))

  -- another note
  pub other_note : (p : ℕ) (w : Way) → (p ≡ slot → w ≡ way → ⊥) → note_word layout words' p w ≡ note_word layout s.words p w
  other_note p w apart = other_word (field_at layout Slots p (note_field w)) (λ e.
      let late' = note_late w in
      let soon' = note_soon w in
      let low = late in
      let high = soon in
      let same : p ≡ slot = omega (arith, late', soon', low, high, e) in
      apart same (same_note w way (omega (arith, same, e))))

  -- of a slot and a way: this one, or another
  pub note_cases : (p : ℕ) (w : Way) → ((p ≡ slot) × (w ≡ way)) ⊎ (p ≡ slot → w ≡ way → ⊥)
  note_cases p w = ⊎_elim
      (λ (e : p ≡ slot). ⊎_elim
      (λ (f : note_field w ≡ field). inl (e, same_note w way f))
      (λ ne. inr (λ _ same. ne (ap note_field same)))
      (cases_eq (note_field w) field))
      (λ ne. inr (λ same _. ne same))
      (cases_eq p slot)

  inc_else : (p : ℕ) → inc_word layout words' p ≡ inc_word layout s.words p
  inc_else p = other_word (field_at layout Slots p inc_field) (λ e. let low = late in let high = soon in absurd (omega (arith, low, high, e)))

  keeps_trie : KeepsTrie layout.slots k k (trie_words layout s.words) (trie_words layout words')
  keeps_trie = record {
    holder = λ key. refl;
    claimed = λ i c. c;
    dead = λ i e. e;
    cells = λ digits are level p on. cell_kept layout s.words words' p (λ there. other_word (place_at layout p) (λ e. slot_apart layout p slot field there (sym e)));
    parents = λ digits level p node are on is. other_word (field_at layout Nodes node parent_field)
        (λ e. absurd (let in' = (kept.trie.nodes digits level p node are on is).exists in omega (arith, in', e)));
    keys = λ p w right. λ i. record {
      0 = key_same p w 0 (omega arith) i ∷ key_same p w 1 (omega arith) i ∷
          key_same p w 2 (omega arith) i ∷ key_same p w 3 (omega arith) i ∷ key_same p w 4 (omega arith) i ∷ [];
    };
    incs = λ p w right. inc_else p;
  }
    where
      key_same : (p : ℕ) (w : Way) (place : ℕ) → place < 5 → key_word layout words' p w place ≡ key_word layout s.words p w place
      key_same p w place h =
          let near = key_short w place h in
          let low = late in
          let high = soon in
          other_word (field_at layout Slots p (key_field w + place)) (λ e. absurd (omega (arith, near, low, high, e)))

  own_else : (side : PoolSide) (pool : Pool) (p f : ℕ) → IsOwnField layout side pool p f → slice_index words' (field_at layout pool p f) ≡ slice_index s.words (field_at layout pool p f)
  own_else side Slots p f own = other_word (field_at layout Slots p f) (λ e. let short = own.3 in let low = late in let high = soon in absurd (omega (arith, short, low, high, e)))
  own_else side Nodes p f own = other_word (field_at layout Nodes p f) (λ e. let in' = own.1 in let short = own.2 in absurd (omega (arith, in', short, e)))

  -- as turns see the connections
  abbrev seen : Machine S
  seen = unreclaimed death_side s.views k

  turns_stay : (w : CellView S A R) → dead_hand w.pools ≡ dead_hand v.pools → TurnsStay {V = CellView S A R} turn_side layout seen (unreclaimed death_side (set s.views id w) k) s.words words'
  turns_stay w hand = record {
    turn = λ p h. other_word (field_at layout Slots p turn_field) (λ e. let low = late in let high = soon in absurd (omega (arith, low, high, e)));
    phase = λ p h. other_word (field_at layout Slots p phase_field) (λ e. let low = late in let high = soon in absurd (omega (arith, low, high, e)));
    slots = λ p. inl (ap (λ n. slot_by n (k.slot p)) (gone_same m digest layout s.views id v w at hand p));
  }

  -- where what a pass was told of a note is firm the slot's connection is Dead
  pub firm_dead : (j : ℕ) (u : CellView S A R) (turn : Turn S) (said : Said) → get_elem? s.views j ≡ some u → u.turn ≡ Some turn → IsFirm u.pools.kills turn said → (k.slot turn.slot).stage ≡ Dead
  firm_dead j u turn said e has firm = ⊎_elim
      (λ (mine : IsBuiltIn u.pools.kills turn.slot). subst (λ p. (k.slot p).stage ≡ Dead) mine.there (dead_at (k.slot mine.id.slot) mine.id.inc (kept.deaths.kills j u mine.id e mine.built).dead).1)
      (λ (was : (turn.was.stage ≡ Dead) × (has_epoch said.value ≡ 1)).
      ap (λ (x : Slot S). x.stage) (still_there death_side s.views k turn.slot turn.was (kept.turns.each j u turn e has).stays
      (λ idle. absurd (let no : 2 ≡ 0 = sym (ap stage_phase was.0) ∙ idle in cc))).0 ∙ was.0)
      firm

  -- the rule, where the parts on turns and on notes hold
  note_step : (w : CellView S A R) → w.seats ≡ v.seats → w.epochs ≡ v.epochs → w.trie ≡ v.trie → w.pools.nodes ≡ v.pools.nodes → w.pools.builds ≡ v.pools.builds →
      w.pools.unstored ≡ v.pools.unstored → w.pools.stored ≡ v.pools.stored → dead_hand w.pools ≡ dead_hand v.pools →
      Turns turn_side layout (unreclaimed death_side (set s.views id w) k) words' s.homes (set s.views id w) →
      Notes turn_side pool_side layout (trie_words layout words').cell k words' (set s.views id w) → Deaths death_side layout k words' (set s.views id w) →
      IsCells m digest layout (record { words = words'; homes = s.homes; views = set s.views id w })
  note_step w seats epochs trie nodes builds unstored stored hand turns notes deaths =
      private_step m digest layout s word value id [] v w kept at (field_behind layout Slots slot field) seats (λ i. record {
        places = (seats i).readers;
        side = epochs i;
      }) nodes (ap (λ (h : DeadHand). h.unfreed) hand) builds (same_kills m digest layout v w hand)
      (alone_still v w (kept.alone id v at) (subst (λ side. 1 ≤ length side.readers) (sym seats) seated) (ap (λ side. side.pin) epochs) (λ none. subst (λ side. HasNoWalk side) (sym trie) none))
      (trie_same trie_side digest layout kept.published k k s.words words' s.views id v w kept.trie at (subst (λ side. KnowsNoMore v.trie side) (sym trie) (knows_same v.trie)) keeps_trie)
      (conns-same pool_side m layout kept.log s.words words' s.views (set s.views id w) kept.connections (length-set s.words word value) (λ p h. inc_else p)
      (builds-kept pool_side k s.views id v w at builds unstored kept.connections.each) (unstored-set pool_side s.views id v w at unstored))
      (stored-set pool_side layout words' s.views id w (stored_kept layout s.words words' v.pools w.pools
      (kept.stored id v at) stored (own_same layout v.pools w.pools nodes builds) (own_else v.pools))
      (λ j u ne e. stored_kept layout s.words words' u.pools u.pools (kept.stored j u e) refl (λ pool p f own. own) (own_else u.pools)))
      (locks-same lock_side layout s.words words' s.views (set s.views id w) kept.locks (λ lock h. other_word (lock_at layout lock) (λ e. not_slot layout slot field lock h (sym e)))
      (holders-set lock_side layout s.views id v w at (ap (λ side. side.locks) trie)))
      turns deaths notes
      (marks_on m digest layout s kept words' id v w at (words_slot layout kept.published s.words slot field value)
      (subst (λ side. MeetsNoMore v.trie side) (sym trie) (meets_same v.trie)) (ap (λ (h : DeadHand). h.unfreed) hand) (λ _. ap (λ side. side.loaded) epochs) (ap (λ side. side.pin) epochs))

  -- who holds a key of that way, by a connection of the slot, is the slot's last connection
  pub holds_last : (conn : ConnId) (w : Way) → conn.slot ≡ slot → HoldsSome k conn w → HoldsSome k (last_id k slot) w
  holds_last conn w there some' =
      let claimed = holders_claimed m layout.slots kept.log kept.connections.legal some'.0 (record { id = conn; way = w }) some'.1 in
      let last : (k.slot slot).inc ≡ conn.inc = subst (λ p. (k.slot p).inc ≡ conn.inc) there (IsClaimed-last (k.slot conn.slot) conn.inc claimed) in
      (some'.0, subst (λ (i : ConnId). k.holder some'.0 ≡ Some (record { id = i; way = w })) (λ i. record { slot = there i; inc = sym last i }) some'.1)

  -- and so is one that is being built there
  built_last : (j : ℕ) (u : CellView S A R) (conn : ConnId) → get_elem? s.views j ≡ some u → Contains u.pools.builds conn → conn.slot ≡ slot → conn ≡ last_id k slot
  built_last j u conn e built there =
      let is = building_at (k.slot conn.slot) conn.inc j ((kept.connections.each j u e).building conn built) in
      λ i. record { slot = there i; inc = (sym is.0 ∙ ap (λ p. (k.slot p).inc) there) i }

  -- a leaf that a path meets is held
  pub leaf_held : (digits : ℕ → ℕ) (level : ℕ) (p : Place) → AreDigits digits → IsOnPath digits (trie_words layout s.words).cell level p →
      (trie_words layout s.words).cell p ≡ Leaf slot way → HoldsSome k (last_id k slot) way
  leaf_held digits level p are on is =
      let right = kept.trie.leaves digits level p slot way are on is in
      holds_last (leaf_found (trie_words layout s.words) slot way).id way refl ((trie_words layout s.words).key slot way, right.held)

  pub was_on : (digits : ℕ → ℕ) (level : ℕ) (p : Place) → AreDigits digits → IsOnPath digits (trie_words layout words').cell level p → IsOnPath digits (trie_words layout s.words).cell level p
  was_on digits level p are on = same_places (keeps_trie.cells digits are) on

  -- of a way of which the connection that the pass is building holds no key
  module _ (lives : v.seats.lives ≡ true) (may : MayStoreNote m v slot field value) (way_is : may.way ≡ way) where
    abbrev new : Note
    new = record { slot = slot; field = field; value = value }

    abbrev pub noter : CellView S A R
    noter = record v { pools = record v.pools { notes = new ∷ notes_but slot field v.pools.notes } }

    bare_now : HoldsNone k may.id way
    bare_now =
        let seat = kept.seats.each id v.seats (at_map seat_side s.views id v at) in
        bare_in_log m layout.slots v.seats.history kept.log id may.id way kept.connections.legal seat.seen (seat.lives lives).own
        ((kept.connections.each id v at).building may.id may.built) (subst (HoldsNone (state_of m v.seats.history) may.id) way_is may.bare)

    none_holds : HoldsSome k (last_id k slot) way → ⊥
    none_holds some' = bare_now some'.0 (subst (λ (i : ConnId). k.holder some'.0 ≡ Some (record { id = i; way = way })) (sym (built_last id v may.id at may.built may.there)) some'.1)

    mine : (note : Note) → Contains noter.pools.notes note → FitsNote layout k words' noter.pools.builds note
    mine note c = ⊎_elim
        (λ (e : new ≡ note). subst (FitsNote layout k words' noter.pools.builds) e (record {
          id = may.id;
          built = may.built;
          there = may.there;
          way = way;
          field_is = refl;
          bare = bare_now;
          stands = here;
        }))
        (λ c'.
        let left = notes_left slot field v.pools.notes note c' in
        note_stays layout k k s.words words' v.pools.builds v.pools.builds note (λ w is. other_note note.slot w (λ e f. left.1 e (is ∙ ap note_field f)))
        (λ key i w a b d holds. holds) (λ i e c''. c'') (kept.notes.each id v note at left.0))
        (cons_cases new note (notes_but slot field v.pools.notes) c)

    -- so the slot isn't that of a Dead connection
    not_dead : (p : ℕ) → p ≡ slot → (k.slot p).stage ≡ Dead → ⊥
    not_dead p e dead =
        let built = building_at (k.slot may.id.slot) may.id.inc id ((kept.connections.each id v at).building may.id may.built) in
        let no : Building id ≡ Dead = sym built.1 ∙ (ap (λ q. (k.slot q).stage) (may.there ∙ sym e) ∙ dead) in
        cc

    pub noted : IsCells m digest layout (record { words = words'; homes = s.homes; views = set s.views id noter })
    noted = note_step noter refl refl refl refl refl refl refl refl
        (turns-like turn_side layout seen (unreclaimed death_side (set s.views id noter) k) s.words words' s.homes s.views id v noter kept.turns at
        (λ p. refl) (λ turn has. kept.turns.each id v turn at has) (turns_stay noter refl))
        (record {
          named = λ digits level p p' w are on is none. ⊎_elim
              (λ (e : (p' ≡ slot) × (w ≡ way)).
              absurd (none_holds (leaf_held digits level p are (was_on digits level p are on)
              (sym (keeps_trie.cells digits are level p (was_on digits level p are on)) ∙ (is ∙ (λ i. Leaf (e.0 i) (e.1 i)))))))
              (λ apart. other_note p' w apart ∙ kept.notes.named digits level p p' w are (was_on digits level p are on) (sym (keeps_trie.cells digits are level p (was_on digits level p are on)) ∙ is)
              (nobody_before turn_side s.views id v noter p' (note_field w) at (λ a. a) none))
              (note_cases p' w);
          bare = λ p w h live none. ⊎_elim
              (λ (e : (p ≡ slot) × (w ≡ way)). absurd (
              let built = building_at (k.slot may.id.slot) may.id.inc id ((kept.connections.each id v at).building may.id may.built) in
              let no : 0 ≡ 1 = sym (ap stage_phase built.1) ∙ (ap (λ n. stage_phase (k.slot n).stage) (may.there ∙ sym e.0) ∙ live) in
              cc
              ))
              (λ apart. other_note p w apart ∙ kept.notes.bare p w h live none)
              (note_cases p w);
          given = λ j u i w e c not none.
              let was = before j u e in
              let had = subst (λ (h : DeadHand). Contains h.kills i) (sym was.3) c in
              let dead = dead_at (k.slot i.slot) i.inc (kept.deaths.kills j was.0 i was.1 had).dead in
              other_note i.slot w (λ a b. not_dead i.slot a dead.1) ∙ kept.notes.given j was.0 i w was.1 had
              (λ d. not (subst (λ (h : DeadHand). Contains h.gave_up (record { id = i; way = w })) was.3 d)) none;
          said = λ j u turn said w e has is firm field.
              let was = before j u e in
              let firm' = subst (λ (h : DeadHand). IsFirm h.kills turn said) (sym was.3) firm in
              other_note turn.slot w (λ a b. not_dead turn.slot a (firm_dead j was.0 turn said was.1 (was.2 ∙ has) firm')) ∙ kept.notes.said j was.0 turn said w was.1 (was.2 ∙ has) is firm' field;
          ahead = λ j u turn note e has is.
              let was = before j u e in
              let fits = kept.notes.ahead j was.0 turn note was.1 (was.2 ∙ has) is in
              ahead_fits layout k k s.words words' turn.slot note fits
              (other_note turn.slot fits.way (λ a b. none_holds (holds_last fits.id way (fits.id_there ∙ a) (subst (HoldsSome k fits.id) b fits.held)))) (λ key found x. x);
          each = λ j u note e c. ⊎_elim
              (λ (x : (j ≡ id) × (noter ≡ u)). subst (λ (y : CellView S A R). FitsNote layout k words' y.pools.builds note) x.1
              (mine note (subst (λ (y : CellView S A R). Contains y.pools.notes note) (sym x.1) c)))
              (λ (x : (j ≢ id) × (get_elem? s.views j ≡ some u)).
              let was = kept.notes.each j u note x.1 c in
              let apart : note.slot ≢ slot = (λ same. x.0 (builds_alone m layout digest s j id u v was.id may.id kept x.1 at was.built may.built (was.there ∙ (same ∙ sym may.there)))) in
              note_stays layout k k s.words words' u.pools.builds u.pools.builds note (λ w is. other_note note.slot w (λ a b. apart a)) (λ key i w a b d holds. holds) (λ i e' c'. c') was)
              (at_set s.views id j noter u e);
        })
        (deaths_noted m digest layout s id (v, []) kept at slot field value within soon noter refl refl refl
        (subst (λ p. has_epoch (first_note layout s.words p) ≡ 0) may.there (built_unmarked m digest layout s id (
          v,
          [],
        ) kept at may.id may.built (subst (λ p. p < layout.slots) (sym may.there) within))) may.low)
      where
        -- who has which turn and which dead connections is as it was
        before : (j : ℕ) (u : CellView S A R) → get_elem? (set s.views id noter) j ≡ some u →
            (y : CellView S A R) × (get_elem? s.views j ≡ some y) × (y.turn ≡ u.turn) × (dead_hand y.pools ≡ dead_hand u.pools)
        before j u e = ⊎_elim
            (λ (x : (j ≡ id) × (noter ≡ u)). (v, ap (get_elem? s.views) x.0 ∙ at, ap (λ (y : CellView S A R). y.turn) x.1, ap (λ (y : CellView S A R). dead_hand y.pools) x.1))
            (λ (x : (j ≢ id) × (get_elem? s.views j ≡ some u)). (u, x.1, refl, refl))
            (at_set s.views id j noter u e)

  -- under the slot's turn, of a leaf that the pass sees under the lock of its place
  module _ (may : MayStoreAhead v slot way value) where
    abbrev led_note : Ahead
    led_note = record { field = field; value = value }

    abbrev led_turn : Turn S
    led_turn = record may.turn { ahead = Some led_note; said = None }

    abbrev pub leader : CellView S A R
    leader = record v { turn = with_ahead (Some led_note) v.turn }

    -- the leaf stands there, so its key is held
    is_held : HoldsSome k (last_id k slot) way
    is_held =
        let saw = (kept.trie.each id v at).seen may.sees.saw may.sees.seen in
        let stands = saw.locked (subst (λ q. Contains v.trie.locks (lock_of q)) (sym may.sees.there) may.sees.locked)
        (λ mark. absurd (let no : Leaf slot way ≡ Mark = sym may.sees.was ∙ mark in cc)) ∙ may.sees.was in
        leaf_held (digits_of digest may.sees.saw.key) may.sees.saw.level may.sees.saw.place (are_digits digest may.sees.saw.key) saw.on_path stands

    ahead_is : leader.turn ≡ Some led_turn
    ahead_is = ap (with_ahead (Some led_note)) may.has

    unsettled : (p f : ℕ) → IsAheadOf v.turn p f → ⊥
    unsettled p f is =
        let same : is.mine ≡ may.turn = (let e : Some is.mine ≡ Some may.turn = sym is.has ∙ may.has in cc) in
        let no : None ≡ Some is.note = sym may.settled ∙ (ap (λ (t : Turn S). t.ahead) (sym same) ∙ is.ahead) in
        cc

    pub led : IsCells m digest layout (record { words = words'; homes = s.homes; views = set s.views id leader })
    led = note_step leader refl refl refl refl refl refl refl refl
        (turns-like turn_side layout seen (unreclaimed death_side (set s.views id leader) k) s.words words' s.homes s.views id v leader kept.turns at (λ p. ahead_turns (Some led_note) v.turn p)
        (λ turn has.
        let same : led_turn ≡ turn = (let e : Some led_turn ≡ Some turn = sym ahead_is ∙ has in cc) in
        let fits = kept.turns.each id v may.turn at may.has in
        subst (FitsTurn layout seen s.words) same (record { exists = fits.exists; phase = fits.phase; stays = fits.stays })) (turns_stay leader refl))
        (record {
          named = λ digits level p p' w are on is none. ⊎_elim
              (λ (e : (p' ≡ slot) × (w ≡ way)). absurd (none id leader (set_there s.views id v leader at) (record {
                mine = led_turn;
                has = ahead_is;
                there = may.there ∙ sym e.0;
                note = led_note;
                ahead = refl;
                field_is = ap note_field (sym e.1);
              })))
              (λ apart. other_note p' w apart ∙ kept.notes.named digits level p p' w are (was_on digits level p are on) (sym (keeps_trie.cells digits are level p (was_on digits level p are on)) ∙ is)
              (nobody_before turn_side s.views id v leader p' (note_field w) at (λ a. absurd (unsettled p' (note_field w) a)) none))
              (note_cases p' w);
          bare = λ p w h live none. ⊎_elim
              (λ (e : (p ≡ slot) × (w ≡ way)). absurd (let held = subst (λ (y : ℕ × Way). HoldsSome k (last_id k y.0) y.1) (λ i. (sym e.0 i, sym e.1 i)) is_held in none held.0 held.1))
              (λ apart. other_note p w apart ∙ kept.notes.bare p w h live none)
              (note_cases p w);
          given = λ j u i w e c not none.
              let was = before j u e in
              let had = subst (λ (h : DeadHand). Contains h.kills i) (sym was.4) c in
              let dead = dead_at (k.slot i.slot) i.inc (kept.deaths.kills j was.0 i was.1 had).dead in
              other_note i.slot w (λ a b.
              let held = is_held in
              let same : i ≡ last_id k slot = same_conn_id i (last_id k slot) (a, sym (sym (ap (λ p. (k.slot p).inc) a) ∙ dead.0)) in
              none held.0 (subst (λ (y : ConnId × Way). k.holder held.0 ≡ Some (record { id = y.0; way = y.1 })) (λ i'. (sym same i', sym b i')) held.1))
              ∙ kept.notes.given j was.0 i w was.1 had (λ d. not (subst (λ (h : DeadHand). Contains h.gave_up (record { id = i; way = w })) was.4 d)) none;
          said = λ j u turn said w e has is firm field. ⊎_elim
              (λ (x : (j ≡ id) × (leader ≡ u)). absurd (
              let turn_is : led_turn ≡ turn = (let d : Some led_turn ≡ Some turn = sym ahead_is ∙ (ap (λ (y : CellView S A R). y.turn) x.1 ∙ has) in cc) in
              let no : None ≡ Some said = ap (λ (t : Turn S). t.said) turn_is ∙ is in
              cc
              ))
              (λ (x : (j ≢ id) × (get_elem? s.views j ≡ some u)).
              other_note turn.slot w (λ a b. x.0 (turns_alone turn_side layout seen s.words s.homes s.views j id u v turn may.turn kept.turns x.1 at has may.has (a ∙ sym may.there)))
              ∙ kept.notes.said j u turn said w x.1 has is firm field)
              (at_set s.views id j leader u e);
          ahead = λ j u turn note e has is. ⊎_elim
              (λ (x : (j ≡ id) × (leader ≡ u)).
              let turn_is : led_turn ≡ turn = (let d : Some led_turn ≡ Some turn = sym ahead_is ∙ (ap (λ (y : CellView S A R). y.turn) x.1 ∙ has) in cc) in
              let note_is : led_note ≡ note = (let d : Some led_note ≡ Some note = ap (λ (t : Turn S). t.ahead) turn_is ∙ is in cc) in
              let there : turn.slot ≡ slot = ap (λ (t : Turn S). t.slot) (sym turn_is) ∙ may.there in
              subst (λ (y : ℕ × Ahead). FitsAhead layout k words' y.0 y.1) (λ i. (sym there i, note_is i)) (record {
                way = way;
                field_is = refl;
                id = last_id k slot;
                id_there = refl;
                held = is_held;
                stands = here;
                place = may.to;
                names = may.names;
              }))
              (λ (x : (j ≢ id) × (get_elem? s.views j ≡ some u)).
              let apart : turn.slot ≢ slot = (λ same. x.0 (turns_alone turn_side layout seen s.words s.homes s.views j id u v turn may.turn kept.turns x.1 at has may.has (same ∙ sym may.there))) in
              let fits = kept.notes.ahead j u turn note x.1 has is in
              ahead_fits layout k k s.words words' turn.slot note fits (other_note turn.slot fits.way (λ a b. apart a)) (λ key found y. y))
              (at_set s.views id j leader u e);
          each = λ j u note e c.
              let was = before j u e in
              let fits = kept.notes.each j was.0 note was.1 (subst (λ ns. Contains ns note) (sym was.2) c) in
              let held = is_held in
              let stays = note_stays layout k k s.words words' was.0.pools.builds was.0.pools.builds note
              (λ w is. other_note note.slot w (λ a b.
              let same = built_last j was.0 fits.id was.1 fits.built (fits.there ∙ a) in
              let ways : way ≡ fits.way = same_note way fits.way (ap note_field (sym b) ∙ (sym is ∙ fits.field_is)) in
              fits.bare held.0 (subst (λ (y : ConnId × Way). k.holder held.0 ≡ Some (record { id = y.0; way = y.1 })) (λ i. (sym same i, ways i)) held.1)))
              (λ key i w a b d holds. holds) (λ i e' c'. c') fits in
              subst (λ ids. FitsNote layout k words' ids note) was.3 stays;
        })
        (deaths_noted m digest layout s id (v, []) kept at slot field value within soon leader refl refl refl (held_unmarked m digest layout s id (v, []) kept at slot way within is_held) may.low)
      where
        before : (j : ℕ) (u : CellView S A R) → get_elem? (set s.views id leader) j ≡ some u → (y : CellView S A R) × (get_elem? s.views j ≡ some y) ×
            (y.pools.notes ≡ u.pools.notes) × (y.pools.builds ≡ u.pools.builds) × (dead_hand y.pools ≡ dead_hand u.pools)
        before j u e = ⊎_elim
            (λ (x : (j ≡ id) × (leader ≡ u)). (
              v,
              ap (get_elem? s.views) x.0 ∙ at,
              ap (λ (y : CellView S A R). y.pools.notes) x.1,
              ap (λ (y : CellView S A R). y.pools.builds) x.1,
              ap (λ (y : CellView S A R). dead_hand y.pools) x.1,
            ))
            (λ (x : (j ≢ id) × (get_elem? s.views j ≡ some u)). (u, x.1, refl, refl, refl))
            (at_set s.views id j leader u e)
