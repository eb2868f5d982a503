-- The rule after a step on the word of a place or of a lock, that leaves what a pass has of connections, of turns and of its protection: what it leaves are
-- the parts but those on epochs, pools, the trie, stored words, locks and marks. The pass may get nodes back, and forget the epoch that it loaded.
use Rattle.std.specs.List.{Contains}
use Rattle.std.proofs.Common.{◌≡◌, ◌≢◌, ℕ, ◌<◌, ◌≤◌, List, map, set, slice_index, Option, Some, ◌⊎◌, refl, sym, ap, ◌∙◌, subst, inl, arith, length-set}
use Rattle.std.proofs.lemmas.List.{get_or-set_other}
use mathlib.Core.Option.{some}
use lib.ListN.{get_elem?}
use Rattle.atomic_table.specs.Table.{State, stepped, keeps}
use Rattle.npf_types.specs.declared.key.{Key.Key, Way.Way}
use Rattle.npf_core.specs.{declared.{conn_id.ConnId.ConnId, entry.Entry.Entry}, History.state_of, Machine.Machine, Meaning.Meaning}
use Rattle.npf_connections.specs.Pass.{all_places}
use Rattle.npf_paths.{specs.{declared.{cell.Cell.{Cell, TheVariants.Leaf}, place.Place.Place}, Paths.{AreDigits, IsOnPath}}, proofs.PathLemmas.same_places}
use Rattle.npf_cells_words.specs.declared.layout.{Layout.Layout, Pool.TheVariants.Slots}
use Rattle.npf_cells_words.specs.Layout.{epoch_word, field_at, inc_field, note_field, notes_field, phase_field, reader_word, root_at, turn_field}
use Rattle.npf_seats.{specs.{declared.side.SeatSide.SeatSide, Seats.Seats, Sums.occurs}, proofs.SumLemmas.{side_same, sum-set}}
use Rattle.npf_cells_pins.specs.Epochs.{Epochs}
use Rattle.npf_cells_leaves.specs.Trie.{Trie, trie_words}
use Rattle.npf_cells_lives.specs.{Conns.{entry_seat, Conns}, Deaths.{Deaths, FitsKill, IsPast, has_epoch, slots_named, unreclaimed}, Known.Known, Locks.Locks}
use Rattle.npf_cells_lives.specs.{Notes.Notes, Pools.{taken, Pools}, Stored.StoredWords, Turns.{Running, Turns}}
use Rattle.npf_cells_lives.proofs.{ConnLemmas.{builds-kept, conns-same, unstored-set}, DeathLemmas.{RestsNoMore, deaths-set, kill_kept, same_dates, spares_all}}
use Rattle.npf_cells_lives.proofs.{FreedLemmas.{freed_stays, gone_in}, NoteLemmas.{notes-set, same_ahead}, TurnLemmas.turns-kept}
use Rattle.npf_cells_marks.specs.Marks.{Marks}
use Rattle.npf_cells_rule.specs.{declared.view.CellView.CellView, Cells.{FitsAlone, IsCells}}
use Rattle.npf_cells_rule.specs.Views.{death_side, leaf_id, lock_side, mark_side, pool_side, protecting_epoch, reader_view, seat_side, seen_side, trie_side, turn_side}
use Rattle.npf_cells_rule.proofs.{DeathFrames.known_apart, Frames.{alone-set, framed}}

-- what a pass has of connections and of turns stays, and so does its protection
pub record LeavesLives {S A R : Type 0} (v w : CellView S A R) : Type 0 where
  pub seats : w.seats ≡ v.seats
  pub turn : w.turn ≡ v.turn
  pub pin : w.epochs.pin ≡ v.epochs.pin
  pub loaded : 1 ≤ w.epochs.loaded → w.epochs.loaded ≡ v.epochs.loaded
  pub builds : w.pools.builds ≡ v.pools.builds
  pub unstored : w.pools.unstored ≡ v.pools.unstored
  pub kills : w.pools.kills ≡ v.pools.kills
  pub gave_up : w.pools.gave_up ≡ v.pools.gave_up
  pub reclaims : w.pools.reclaims ≡ v.pools.reclaims
  pub cleared : w.pools.cleared ≡ v.pools.cleared
  pub dated : w.pools.dated ≡ v.pools.dated
  pub notes : w.pools.notes ≡ v.pools.notes
  pub answered : w.trie.answered ≡ v.trie.answered
  pub leaf : w.trie.leaf ≡ v.trie.leaf

module _ {S A R : Type 0} (m : Meaning S A R) (digest : Key → ℕ) (layout : Layout) (s : State (Running S) (CellView S A R)) (kept : IsCells m digest layout s)
    (word n id : ℕ) (v w : CellView S A R) (at : get_elem? s.views id ≡ some v) (leaves : LeavesLives v w)
    (behind : root_at layout ≤ word) (slots : (slot field : ℕ) → field_at layout Slots slot field ≢ word) where
  abbrev k : Machine S
  k = state_of m kept.log

  abbrev pub words' : List ℕ
  words' = set s.words word n

  abbrev pub views' : List (CellView S A R)
  views' = set s.views id w

  abbrev cell : Place → Cell
  cell = (trie_words layout s.words).cell

  abbrev cell' : Place → Cell
  cell' = (trie_words layout words').cell

  pub other_word : (j : ℕ) → j ≢ word → slice_index words' j ≡ slice_index s.words j
  other_word j ne = get_or-set_other s.words word j n 0 ne

  pub below : (j : ℕ) → j < root_at layout → slice_index words' j ≡ slice_index s.words j
  below j h = other_word j (λ e. absurd (omega (arith, e, h, behind)))

  slot_word : (slot field : ℕ) → slice_index words' (field_at layout Slots slot field) ≡ slice_index s.words (field_at layout Slots slot field)
  slot_word slot field = other_word (field_at layout Slots slot field) (slots slot field)

  goes : epoch_word s.words ≤ epoch_word words'
  goes = let same = below 0 (omega arith) in omega (arith, same)

  seats_stay : Seats entry_seat layout.slots all_places kept.log (map seat_side views')
  seats_stay = subst (λ sides. Seats entry_seat layout.slots all_places kept.log sides) (sym (side_same seat_side s.views id v w at leaves.seats)) kept.seats

  connections_stay : Conns pool_side m layout kept.log words' views'
  connections_stay = conns-same pool_side m layout kept.log s.words words' s.views views' kept.connections (length-set s.words word n) (λ slot h. slot_word slot inc_field)
      (builds-kept pool_side k s.views id v w at leaves.builds leaves.unstored kept.connections.each) (unstored-set pool_side s.views id v w at leaves.unstored)

  -- as many slots are reclaimed
  gone_same : (slot : ℕ) → gone_in death_side views' slot ≡ gone_in death_side s.views slot
  gone_same slot =
      let one = sum-set (λ (u : CellView S A R). occurs slot (slots_named u.pools.reclaims)) s.views id v w at in
      let two = sum-set (λ (u : CellView S A R). occurs slot (slots_named u.pools.cleared)) s.views id v w at in
      let same = ap (λ ids. occurs slot (slots_named ids)) leaves.reclaims in
      let also = ap (λ ids. occurs slot (slots_named ids)) leaves.cleared in
      omega (arith, one, two, same, also)

  turns_stay : Turns turn_side layout (unreclaimed death_side views' k) words' s.homes views'
  turns_stay = turns-kept turn_side layout (unreclaimed death_side s.views k) (unreclaimed death_side views' k) s.words words' s.homes s.views id v w kept.turns at leaves.turn (record {
    turn = λ slot h. slot_word slot turn_field;
    phase = λ slot h. slot_word slot phase_field;
    slots = λ slot. freed_stays death_side s.views views' k k slot (gone_same slot) (inl refl);
  })

  rests_so : RestsNoMore k (death_side v) (death_side w)
  rests_so = record {
    rests = λ conn dead bare rests. (
      subst (λ (x : List ConnId × Option ConnId). Contains x.0 conn ⊎ (x.1 ≡ Some conn)) (λ i. (leaves.answered i, leaf_id (leaves.leaf i))) rests,
      ap protecting_epoch leaves.pin,
    );
  }

  deaths_stay : Deaths death_side layout k words' views'
  deaths_stay = deaths-set death_side layout k k s.words words' s.views id v w kept.deaths at (spares_all k) goes rests_so leaves.reclaims leaves.cleared
      (λ slot h.
      let more = sum-set (λ (u : CellView S A R). occurs slot (slots_named u.pools.kills)) s.views id v w at in
      let same = ap (λ ids. occurs slot (slots_named ids)) leaves.kills in
      let note = ap has_epoch (slot_word slot notes_field) in
      let was = kept.deaths.counted slot h in
      omega (arith, more, same, note, was))
      (λ slot h. (let note = ap has_epoch (slot_word slot notes_field) in let was = kept.deaths.reclaimed slot h in omega (arith, note, was)))
      kill_stays
      (λ slot epoch h note. sym (slot_word slot notes_field) ∙ note)
      (same_dates death_side layout k s.words words' s.views id v w kept.deaths at goes leaves.dated)
    where
      kill_stays : (conn : ConnId) → Contains w.pools.kills conn → FitsKill death_side k (epoch_word words') views' w.epochs.loaded conn
      kill_stays conn c =
          let was = kill_kept death_side layout k k s.words words' s.views id v w kept.deaths at (spares_all k) goes rests_so v.epochs.loaded conn
          (kept.deaths.kills id v conn at (subst (λ ids. Contains ids conn) leaves.kills c)) in
          record {
            dead = was.dead;
            past = λ some' bare. subst (λ x. IsPast death_side (epoch_word words') views' conn x) (sym (leaves.loaded some'))
                (was.past (let same = leaves.loaded some' in omega (arith, same, some')) bare);
          }

  known_stays : Known (seen_side m) pool_side k views'
  known_stays = known_apart m digest layout s id v w k kept at (λ conn c. subst (λ ids. Contains ids conn) leaves.kills c)
      (ap (λ (x : SeatSide ℕ (Entry S A R)). x.history) leaves.seats) (spares_all k)

  -- the notes stay, of the paths as they were; a leaf that a path meets then is one that it met before
  notes_stay : ((digits : ℕ → ℕ) (level : ℕ) (q : Place) (slot : ℕ) (way : Way) → AreDigits digits → IsOnPath digits cell' level q → cell' q ≡ Leaf slot way →
      IsOnPath digits cell level q × (cell q ≡ Leaf slot way)) → Notes turn_side pool_side layout cell' k words' views'
  notes_stay met = record {
    named = λ digits level q slot way are on is none. (let was = met digits level q slot way are on is in same.named digits level q slot way are was.0 was.1 none);
    bare = same.bare;
    given = same.given;
    said = same.said;
    ahead = same.ahead;
    each = same.each;
  }
    where
      same : Notes turn_side pool_side layout cell k words' views'
      same = notes-set turn_side pool_side layout k k cell cell s.words words' s.views id v w kept.notes at
          (same_ahead v.turn w.turn leaves.turn) leaves.kills leaves.gave_up leaves.notes (λ conn c. subst (λ ids. Contains ids conn) (sym leaves.builds) c) (record {
            cells = λ digits are level p on. refl;
            notes = λ slot way. slot_word slot (note_field way);
            held = λ key found h. h;
            back = λ key found h. h;
            slots = λ slot. inl refl;
          })

  -- the rule, where the other parts hold
  pub back_step : (published : List ℕ) (c : List (ℕ × Running S)) → Epochs (epoch_word words') (reader_word words') (map reader_view views') →
      Pools layout (taken pool_side published k views') words' → Trie trie_side digest layout published k words' views' →
      StoredWords pool_side layout words' views' → Locks lock_side layout words' views' →
      ((digits : ℕ → ℕ) (level : ℕ) (q : Place) (slot : ℕ) (way : Way) → AreDigits digits → IsOnPath digits cell' level q → cell' q ≡ Leaf slot way →
      IsOnPath digits cell level q × (cell q ≡ Leaf slot way)) → Marks mark_side layout published words' views' → FitsAlone w → IsCells m digest layout (stepped s word n id c w keeps)
  back_step published c epochs pools trie stored locks met marks alone = framed m digest layout s (stepped s word n id c w keeps) kept published kept.log (length-set s.words word n)
      seats_stay epochs pools trie connections_stay stored locks turns_stay deaths_stay known_stays (notes_stay met) marks (alone-set s.views id w alone kept.alone)

-- which leaves are met stays where all cells do
pub same_leaves : (cell cell' : Place → Cell) → ((q : Place) → cell' q ≡ cell q) → (digits : ℕ → ℕ) (level : ℕ) (q : Place) (slot : ℕ) (way : Way) →
    AreDigits digits → IsOnPath digits cell' level q → cell' q ≡ Leaf slot way → IsOnPath digits cell level q × (cell q ≡ Leaf slot way)
same_leaves cell cell' same digits level q slot way are on is = (same_places (λ l p _. same p) on, sym (same q) ∙ is)
