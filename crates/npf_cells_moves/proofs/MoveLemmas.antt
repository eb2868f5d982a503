-- The base's moves keep the rule, and what they leave in the passes.
use Rattle.std.specs.List.{Contains}
use Rattle.std.proofs.Common.{◌≡◌, ◌≢◌, ℕ, ◌+◌, ◌-◌, ◌≤◌, eqb, true, false, None, List, [], ◌∷◌, ◌++◌, map, set, length, take, drop, refl}
use Rattle.std.proofs.{Common.{sym, ap, ◌∙◌, subst, ⊎_elim, inl, inr, arith, append-nil, length-append}, lemmas.List.Sums.{sum_by-append, sum_by_push}}
use Rattle.std.proofs.lemmas.List.{length-drop, length-take-le, take-append-drop, append_cancel_left, get_or-take, get_or_append_left}
use Rattle.std.proofs.lemmas.{List.Elements.{Contains-append_left, Contains-append_right, Contains-push}, Bool.cases_eq}
use mathlib.Core.Option.{some, some-injective}
use lib.ListN.{get_elem?}
use Rattle.atomic_table.{specs.{Seated.TableId, Table.{State, Me, Step, Allows, Splits, Joins, keeps}}, proofs.Lists.{at_map, set_else}}
use Rattle.npf_types.specs.declared.key.Key.{Key}
use Rattle.npf_shelf.proofs.ListLemmas.{map-set_push, map-set_set}
use Rattle.npf_core.{specs.{History.state_of, Machine.Machine, Meaning.Meaning}, proofs.HistoryLemmas.Legal-prefix}
use Rattle.npf_connections.specs.{Joining.{IsSplit, IsJoined}, Pass.{IsPass, all_places}}
use Rattle.npf_cells_words.specs.{declared.layout.{Layout.Layout, Pool.{Pool, TheVariants.{Slots, Nodes}}}, Layout.{epoch_word, reader_word}}
use Rattle.npf_seats.{specs.{Moves.{given_seat, taking_seat}, Seats.Seats, Sums.occurs}, proofs.ListLemmas.one_where}
use Rattle.npf_seats.proofs.PrefixLemmas.{none_listed, none_in_prefix, seen_entry}
use Rattle.npf_seats.proofs.SeatLemmas.{unspent, seats-split, none_seen, seats-born, seats-join, long, mine_seen, told_seen, seats-read, only_seat, most_places, owned_within}
use Rattle.npf_seats.proofs.SumLemmas.{first_occurs, sum-set, set_there}
use Rattle.npf_cells_pins.{specs.{declared.pin.Pin.TheVariants.Idle, Epochs.{Epochs, pin_place}}, proofs.EpochLemmas.{epochs-split, epochs-join, within_last}}
use Rattle.npf_cells_leaves.specs.Trie.{HasNoWalk, TrieWords, trie_words, unread_side, FitsTrie}
use Rattle.npf_cells_leaves.proofs.TrieLemmas.{CountsSame, counts_on, KeepsTrie, knows_same, grown-set, grown-push, trie_kept, fits-set, fits-push, fits_unread, keeps_words}
use Rattle.npf_cells_lives.{specs.{Conns.entry_seat, Deaths.{slots_named, unreclaimed, Deaths}}, proofs.FreedLemmas.{gone_in, freed_stays}}
use Rattle.npf_cells_lives.{proofs.KnownLemmas.{known-spared, known-push}, specs.{Pools.taken, Stored.FitsStored}}
use Rattle.npf_cells_lives.proofs.ConnLemmas.{fits_nothing, owes_nothing, builds-set, builds-kept, builds-push, unstored-set, unstored-push, conns-same}
use Rattle.npf_cells_lives.proofs.DeathLemmas.{spares_all, RestsNoMore, KeepsDates, later_dates, deaths-same, deaths-push}
use Rattle.npf_cells_lives.proofs.{LockLemmas.{locks-same, holders-set, holders-push}, PoolLemmas.{pools-same, taken-set, taken-push}}
use Rattle.npf_cells_lives.proofs.StoredLemmas.{fits_unstored, own_same, stored_kept, stored-set, stored-push}
use Rattle.npf_cells_lives.{proofs.TurnLemmas.{TurnsStay, turns_so, turns-kept, turns-push}, specs.{Notes.Notes, Turns.{Homes, Running, Turns}}}
use Rattle.npf_cells_rule.specs.{declared.view.CellView.CellView, Cells.{FitsAlone, IsCells}, Passes.{cell_pass, IsPassOf}}
use Rattle.npf_cells_rule.specs.Views.{seat_side, reader_view, nothing_left, lock_side, pool_side, trie_side, turn_side, death_side, seen_side}
use Rattle.npf_cells_rule.proofs.{DeathFrames.{rests_none, rests_on_none, known_apart}, OverLemmas.known_more}
use Rattle.npf_cells_rule.proofs.{Frames.{framed, seats_step, alone-set, alone-push, alone_still}, NoteFrames.notes_behind}
use Rattle.npf_cells_moves.specs.Moves.{gives_reader, given_view, joined_pools, joined_trie, takes_in, IsBorn, HasRead}
use Rattle.npf_cells_lives.proofs.NoteLemmas.{same_ahead, NotesStay, no_notes, notes-set, notes-less, notes-push}
use Rattle.npf_cells_moves.proofs.MarkMoveLemmas.{marks_split, marks_joined}

module _ {S A R : Type 0} (m : Meaning S A R) (digest : Key → ℕ) (layout : Layout) where
  keeps_all : (s : State (Running S) (CellView S A R)) (kept : IsCells m digest layout s) →
      KeepsTrie layout.slots (state_of m kept.log) (state_of m kept.log) (trie_words layout s.words) (trie_words layout s.words)
  keeps_all s kept = keeps_words layout (state_of m kept.log) (state_of m kept.log) s.words s.words (λ key. refl) (λ identity c. c) (λ identity e. e) (λ j h. refl)

  turns_same : (k : Machine S) (words : List ℕ) (views views' : List (CellView S A R)) → ((slot : ℕ) → gone_in death_side views' slot ≡ gone_in death_side views slot) →
      TurnsStay {V = CellView S A R} turn_side layout (unreclaimed death_side views k) (unreclaimed death_side views' k) words words
  turns_same k words views views' same = record { turn = λ slot h. refl; phase = λ slot h. refl; slots = λ slot. freed_stays death_side views views' k k slot (same slot) (inl refl) }

  turns_still : (s : State (Running S) (CellView S A R)) (id : ℕ) (v w : CellView S A R) (kept : IsCells m digest layout s) →
      get_elem? s.views id ≡ some v → w.turn ≡ v.turn → w.pools.reclaims ≡ v.pools.reclaims → w.pools.cleared ≡ v.pools.cleared →
      Turns turn_side layout (unreclaimed death_side (set s.views id w) (state_of m kept.log)) s.words s.homes (set s.views id w)
  turns_still s id v w kept at same reclaims cleared = turns-kept turn_side layout (unreclaimed death_side s.views (state_of m kept.log))
      (unreclaimed death_side (set s.views id w) (state_of m kept.log)) s.words s.words s.homes s.views id v w kept.turns at same
      (turns_same (state_of m kept.log) s.words s.views (set s.views id w) gone)
    where
      gone : (slot : ℕ) → gone_in death_side (set s.views id w) slot ≡ gone_in death_side s.views slot
      gone slot =
          let one = sum-set (λ (u : CellView S A R). occurs slot (slots_named u.pools.reclaims)) s.views id v w at in
          let two = sum-set (λ (u : CellView S A R). occurs slot (slots_named u.pools.cleared)) s.views id v w at in
          let same' = ap (λ ids. occurs slot (slots_named ids)) reclaims in
          let also = ap (λ ids. occurs slot (slots_named ids)) cleared in
          omega (arith, one, two, same', also)

  -- of a seat that comes or goes with nothing reclaimed, turns stay
  turns_seen : (k : Machine S) (words : List ℕ) (homes : Homes S) (views views' : List (CellView S A R)) → ((slot : ℕ) → gone_in death_side views' slot ≡ gone_in death_side views slot) →
      Turns turn_side layout (unreclaimed death_side views k) words homes views' → Turns turn_side layout (unreclaimed death_side views' k) words homes views'
  turns_seen k words homes views views' same kept = turns_so turn_side layout (unreclaimed death_side views k)
      (unreclaimed death_side views' k) words words homes views' views' kept (turns_same k words views views' same) (λ slot. refl) kept.each

  deaths_still : (s : State (Running S) (CellView S A R)) (id : ℕ) (v w : CellView S A R) (kept : IsCells m digest layout s) → get_elem? s.views id ≡ some v →
      w.pools.kills ≡ v.pools.kills → w.pools.reclaims ≡ v.pools.reclaims → w.pools.cleared ≡ v.pools.cleared → v.pools.dated ≤ w.pools.dated → w.pools.dated ≤ epoch_word s.words →
      w.epochs.loaded ≡ v.epochs.loaded → RestsNoMore (state_of m kept.log) (death_side v) (death_side w) → Deaths death_side layout (state_of m kept.log) s.words (set s.views id w)
  deaths_still s id v w kept at kills reclaims cleared more reached loaded less =
      deaths-same death_side layout (state_of m kept.log) (state_of m kept.log) s.words s.words s.views id v w kept.deaths at
      (spares_all (state_of m kept.log)) (omega arith) less kills reclaims cleared
      (later_dates death_side (epoch_word s.words) s.views id v w at more reached) (λ conn c. loaded) (λ slot h. refl) (λ slot h. refl)

  nothing_walked : HasNoWalk unread_side
  nothing_walked = record { stands = refl; leaf = refl; seen = refl; meets = refl; answered = refl; locks = refl }

  notes_same : (s : State (Running S) (CellView S A R)) (kept : IsCells m digest layout s) →
      NotesStay layout (state_of m kept.log) (state_of m kept.log) (trie_words layout s.words).cell (trie_words layout s.words).cell s.words s.words
  notes_same s kept = notes_behind layout (state_of m kept.log) (state_of m kept.log) s.words s.words (λ j h. refl) (λ key. refl) (λ slot. inl refl)

  -- one view changes, but neither its turn nor its notes
  notes_moved : (s : State (Running S) (CellView S A R)) (id : ℕ) (v w : CellView S A R) (kept : IsCells m digest layout s) → get_elem? s.views id ≡ some v →
      w.turn ≡ v.turn → w.pools.kills ≡ v.pools.kills → w.pools.gave_up ≡ v.pools.gave_up → w.pools.notes ≡ v.pools.notes → w.pools.builds ≡ v.pools.builds →
      Notes turn_side pool_side layout (trie_words layout s.words).cell (state_of m kept.log) s.words (set s.views id w)
  notes_moved s id v w kept at turn kills gave notes builds =
      notes-set turn_side pool_side layout (state_of m kept.log) (state_of m kept.log) (trie_words layout s.words).cell (trie_words layout s.words).cell s.words s.words s.views id v w kept.notes at
      (same_ahead v.turn w.turn turn) kills gave notes (λ conn c. subst (λ ids. Contains ids conn) (sym builds) c) (notes_same s kept)

  -- a seat is split so
  pub splits : (id : ℕ) (v : CellView S A R) → v.seats.lives ≡ true → v.epochs.pin ≡ Idle → 2 ≤ length v.seats.readers →
      Splits (IsCells m digest layout) id v (gives_reader v) (given_view v)
  splits id v lives idle places s kept at =
      framed m digest layout s (record { words = s.words; homes = s.homes; views = set s.views id (gives_reader v) ++ given_view v ∷ [] }) kept kept.published kept.log refl
      (subst (λ sides. Seats entry_seat layout.slots all_places kept.log sides) (sym (map-set_push seat_side s.views id (gives_reader v) (given_view v)))
      (seats-split entry_seat layout.slots all_places kept.log (map seat_side s.views) id v.seats kept.seats (at_map seat_side s.views id v at) lives places))
      (subst (λ rs. Epochs (epoch_word s.words) (reader_word s.words) rs) (sym (map-set_push reader_view s.views id (gives_reader v) (given_view v)))
      (epochs-split (epoch_word s.words) (reader_word s.words) (map reader_view s.views) kept.epochs id (length v.seats.readers - 1) (reader_view v) (at_map reader_view s.views id v at) idle))
      (pools-same layout (taken pool_side kept.published (state_of m kept.log) s.views)
      (taken pool_side kept.published (state_of m kept.log) (set s.views id (gives_reader v) ++ given_view v ∷ [])) s.words s.words kept.pools refl (λ j h. refl)
      (λ pool p. taken-push pool_side kept.published (state_of m kept.log) (set s.views id (gives_reader v)) (given_view v) refl refl pool p
      ∙ taken-set pool_side kept.published (state_of m kept.log) s.views id v (gives_reader v) at refl refl pool p))
      (trie_kept trie_side digest layout kept.published (state_of m kept.log) (state_of m kept.log) s.words s.words s.views
      (set s.views id (gives_reader v) ++ given_view v ∷ []) kept.trie (keeps_all s kept)
      (counts_on trie_side s.views (set s.views id (gives_reader v)) (set s.views id (gives_reader v) ++ given_view v ∷
      []) (grown-set trie_side s.views id v (gives_reader v) at refl refl) (grown-push trie_side (set s.views id (gives_reader v)) (given_view v) refl refl))
      (fits-push trie_side digest layout.slots (state_of m kept.log) (trie_words layout s.words) (set s.views id (gives_reader v))
      (given_view v) (fits_unread digest layout.slots (state_of m kept.log) (trie_words layout s.words))
      (fits-set trie_side digest layout.slots (state_of m kept.log) (trie_words layout s.words) s.views id (gives_reader v) (kept.trie.each id v at) kept.trie.each)))
      (conns-same pool_side m layout kept.log s.words s.words s.views (set s.views id (gives_reader v) ++ given_view v ∷ []) kept.connections refl (λ slot h. refl)
      (builds-push pool_side (state_of m kept.log) (set s.views id (gives_reader v)) (given_view v) refl refl
      (builds-kept pool_side (state_of m kept.log) s.views id v (gives_reader v) at refl refl kept.connections.each))
      (λ slot. unstored-push pool_side (set s.views id (gives_reader v)) (given_view v) refl slot ∙ unstored-set pool_side s.views id v (gives_reader v) at refl slot))
      (stored-push pool_side layout s.words (set s.views id (gives_reader v)) (given_view v) (fits_unstored layout s.words (given_view v).pools refl)
      (stored-set pool_side layout s.words s.views id (gives_reader v) (kept.stored id v at) (λ j u ne there. kept.stored j u there)))
      (locks-same lock_side layout s.words s.words s.views (set s.views id (gives_reader v) ++ given_view v ∷ []) kept.locks (λ lock h. refl)
      (λ lock. holders-push lock_side layout (set s.views id (gives_reader v)) (given_view v) refl lock ∙ holders-set lock_side layout s.views id v (gives_reader v) at refl lock))
      (turns_seen (state_of m kept.log) s.words s.homes (set s.views id (gives_reader v)) (set s.views id (gives_reader v) ++ given_view v ∷ []) gone_pushed
      (turns-push turn_side layout (unreclaimed death_side (set s.views id (gives_reader v)) (state_of m kept.log)) s.words s.homes
      (set s.views id (gives_reader v)) (given_view v) (turns_still s id v (gives_reader v) kept at refl refl refl) refl))
      (deaths-push death_side layout (state_of m kept.log) s.words (set s.views id (gives_reader v)) (given_view v) (deaths_still s id v (gives_reader v) kept at refl refl refl
      (omega arith) (kept.deaths.dates id v at) refl (record { rests = λ conn dead bare rests. (rests, refl) })) refl refl refl refl (rests_on_none (given_view v) nothing_walked))
      (known-push (seen_side m) pool_side (state_of m kept.log) (set s.views id (gives_reader v)) (given_view v)
      (known_apart m digest layout s id v (gives_reader v) (state_of m kept.log) kept at (λ conn c. c) refl (spares_all (state_of m kept.log))) refl)
      (notes-push turn_side pool_side layout (state_of m kept.log) (state_of m kept.log) (trie_words layout s.words).cell
      (trie_words layout s.words).cell s.words s.words (set s.views id (gives_reader v)) (given_view v)
      (notes_moved s id v (gives_reader v) kept at refl refl refl refl refl) refl refl refl (notes_same s kept))
      (marks_split m digest layout s id v kept at)
      (alone-push (set s.views id (gives_reader v)) (given_view v) given_alone
      (alone-set s.views id (gives_reader v) (alone_still v (gives_reader v) (kept.alone id v at) some_left refl (λ none. none)) kept.alone))
    where
      some_left : 1 ≤ length (gives_reader v).seats.readers
      some_left = let left = length-take-le (length v.seats.readers - 1) v.seats.readers (omega arith) in omega (arith, left, places)

      gone_pushed : (slot : ℕ) → gone_in death_side (set s.views id (gives_reader v) ++ given_view v ∷ []) slot ≡ gone_in death_side (set s.views id (gives_reader v)) slot
      gone_pushed slot =
          let one = sum_by_push (λ (u : CellView S A R). occurs slot (slots_named u.pools.reclaims)) (set s.views id (gives_reader v)) (given_view v) in
          let two = sum_by_push (λ (u : CellView S A R). occurs slot (slots_named u.pools.cleared)) (set s.views id (gives_reader v)) (given_view v) in
          omega (arith, one, two)

      given_alone : FitsAlone (given_view v)
      given_alone = record {
        out = λ _. record { stands = refl; leaf = refl; seen = refl; meets = refl; answered = refl; locks = refl };
        spent = λ none. (let dropped = length-drop (length v.seats.readers - 1) v.seats.readers in absurd (omega (arith, dropped, none, places)));
      }

  -- two seats are joined so
  pub joins : (id : ℕ) (v : CellView S A R) (other : ℕ) (w : CellView S A R) → v.seats.lives ≡ true → v.seats.theirs ≡ [] → v.epochs.pin ≡ Idle → 1 ≤ length v.seats.readers →
      w.seats.lives ≡ true → w.seats.theirs ≡ [] → w.epochs.pin ≡ Idle → w.pools.nodes ≡ [] → w.pools.builds ≡ [] → w.pools.kills ≡ [] → w.pools.reclaims ≡ [] →
      w.pools.cleared ≡ [] → w.trie.locks ≡ [] → w.turn ≡ None → Joins (IsCells m digest layout) id v other w (takes_in v w) nothing_left
  joins id v other w lives theirs idle place w-lives w-theirs w-idle w-nodes w-builds w-kills w-reclaims w-cleared w-locks w-turn s kept at apart there =
      let was : get_elem? s.views other ≡ some w = sym (set_else s.views id other (takes_in v w) apart) ∙ there in
      framed m digest layout s (record { words = s.words; homes = s.homes; views = set (set s.views id (takes_in v w)) other nothing_left }) kept kept.published kept.log refl
      (subst (λ sides. Seats entry_seat layout.slots all_places kept.log sides) (sym (map-set_set seat_side s.views id other (takes_in v w) nothing_left))
      (seats-join entry_seat layout.slots all_places kept.log (map seat_side s.views) id v.seats other w.seats 0 kept.seats
      (at_map seat_side s.views id v at) apart (at_map seat_side s.views other w was)
      lives theirs place w-lives w-theirs))
      (subst (λ rs. Epochs (epoch_word s.words) (reader_word s.words) rs) (sym (map-set_set reader_view s.views id other (takes_in v w) nothing_left))
      (epochs-join (epoch_word s.words) (reader_word s.words) (map reader_view s.views) kept.epochs id other (reader_view v) (reader_view w) apart
      (at_map reader_view s.views id v at) (at_map reader_view s.views other w was) idle w-idle))
      (pools-same layout (taken pool_side kept.published (state_of m kept.log) s.views)
      (taken pool_side kept.published (state_of m kept.log) (set (set s.views id (takes_in v w)) other nothing_left)) s.words s.words kept.pools refl (λ j h. refl)
      taken_joined)
      (trie_kept trie_side digest layout kept.published (state_of m kept.log) (state_of m kept.log) s.words s.words s.views
      (set (set s.views id (takes_in v w)) other nothing_left) kept.trie (keeps_all s kept) grown_so
      (fits-set trie_side digest layout.slots (state_of m kept.log) (trie_words layout s.words) (set s.views id (takes_in v w)) other nothing_left
      (fits_unread digest layout.slots (state_of m kept.log) (trie_words layout s.words))
      (fits-set trie_side digest layout.slots (state_of m kept.log) (trie_words layout s.words) s.views id (takes_in v w) (taker_fits (kept.trie.each id v at)) kept.trie.each)))
      (conns-same pool_side m layout kept.log s.words s.words s.views (set (set s.views id (takes_in v w)) other nothing_left) kept.connections refl (λ slot h. refl)
      (builds-set pool_side (state_of m kept.log) (set s.views id (takes_in v w)) other nothing_left (fits_nothing (state_of m kept.log) other)
      (builds-kept pool_side (state_of m kept.log) s.views id v (takes_in v w) at refl refl kept.connections.each))
      (λ slot. unstored-set pool_side (set s.views id (takes_in v w)) other w nothing_left there
      (sym (owes_nothing (state_of m kept.log) other w.pools.builds w.pools.unstored (kept.connections.each other w was) w-builds)) slot
      ∙ unstored-set pool_side s.views id v (takes_in v w) at refl slot))
      (stored-set pool_side layout s.words (set s.views id (takes_in v w)) other nothing_left (fits_unstored layout s.words (nothing_left {S = S} {A = A} {R = R}).pools refl)
      (λ j u ne there'. stored-set pool_side layout s.words s.views id (takes_in v w) (taker_stored (kept.stored id v at)) (λ i x ne' e. kept.stored i x e) j u there'))
      (locks-same lock_side layout s.words s.words s.views (set (set s.views id (takes_in v w)) other nothing_left) kept.locks (λ lock h. refl)
      (λ lock. holders-set lock_side layout (set s.views id (takes_in v w)) other w nothing_left there (sym w-locks) lock ∙ holders-set lock_side layout s.views id v (takes_in v w) at refl lock))
      (turns-kept turn_side layout (unreclaimed death_side (set s.views id (takes_in v w)) (state_of m kept.log))
      (unreclaimed death_side (set (set s.views id (takes_in v w)) other nothing_left) (state_of m kept.log)) s.words s.words s.homes (set s.views id (takes_in v w)) other w nothing_left
      (turns_still s id v (takes_in v w) kept at refl refl refl) there (sym w-turn)
      (turns_same (state_of m kept.log) s.words (set s.views id (takes_in v w)) (set (set s.views id (takes_in v w)) other nothing_left) gone_left))
      (deaths-same death_side layout (state_of m kept.log) (state_of m kept.log) s.words s.words (set s.views id (takes_in v w)) other w nothing_left
      (taken_deaths s kept at was) there (spares_all (state_of m kept.log)) (omega arith) (rests_none (state_of m kept.log) w nothing_left nothing_walked)
      (sym w-kills) (sym w-reclaims) (sym w-cleared) (left_dates s kept at (λ e. apart (sym e)) there) (λ conn c. absurd (none_listed conn c)) (λ slot h. refl) (λ slot h. refl))
      (known-spared (seen_side m) pool_side (state_of m kept.log) (state_of m kept.log) (set s.views id (takes_in v w)) other nothing_left
      (known_apart m digest layout s id v (takes_in v w) (state_of m kept.log) kept at (λ conn c. c) refl (spares_all (state_of m kept.log)))
      (spares_all (state_of m kept.log)) (λ j u conn e c. ((taken_deaths s kept at was).kills j u conn e c).dead) (λ conn c. absurd (none_listed conn c)))
      (notes-less turn_side pool_side layout (state_of m kept.log) (state_of m kept.log) (trie_words layout s.words).cell
      (trie_words layout s.words).cell s.words s.words (set s.views id (takes_in v w)) other w nothing_left
      (notes_moved s id v (takes_in v w) kept at refl refl refl refl refl) there (same_ahead w.turn None (sym w-turn))
      (λ conn way c. absurd (none_listed conn c)) (λ conn c. absurd (none_listed conn c))
      (sym (no_notes layout (state_of m kept.log) s.words w.pools.builds w.pools.notes w-builds (λ note c. kept.notes.each other w note was c)))
      (λ conn c. absurd (none_listed conn (subst (λ ids. Contains ids conn) w-builds c))) (notes_same s kept))
      (marks_joined m digest layout s id v kept at other w apart was)
      (alone-set (set s.views id (takes_in v w)) other nothing_left
      (record { out = λ _. record { stands = refl; leaf = refl; seen = refl; meets = refl; answered = refl; locks = refl }; spent = λ _. refl })
      (alone-set s.views id (takes_in v w) (alone_still v (takes_in v w) (kept.alone id v at) some_left refl (λ none. record {
        stands = none.stands;
        leaf = none.leaf;
        seen = none.seen;
        meets = none.meets;
        answered = none.answered;
        locks = none.locks;
      })) kept.alone))
    where
      -- the later of the two epochs is one that the table reached, and no connection was let go with a later one than it or another seat's
      taken_deaths : (s' : State (Running S) (CellView S A R)) (kept' : IsCells m digest layout s') → get_elem? s'.views id ≡ some v →
          get_elem? s'.views other ≡ some w → Deaths death_side layout (state_of m kept'.log) s'.words (set s'.views id (takes_in v w))
      taken_deaths s' kept' at' was' = deaths_still s' id v (takes_in v w) kept' at' refl refl refl (omega arith) (let mine = kept'.deaths.dates id v at' in
          let theirs = kept'.deaths.dates other w was' in omega (arith, mine, theirs)) refl (record { rests = λ conn dead bare rests. (rests, refl) })

      left_dates : (s' : State (Running S) (CellView S A R)) (kept' : IsCells m digest layout s') →
          get_elem? s'.views id ≡ some v → id ≢ other → get_elem? (set s'.views id (takes_in v w)) other ≡ some w →
          KeepsDates death_side (epoch_word s'.words) (set s'.views id (takes_in v w)) (set (set s'.views id (takes_in v w)) other nothing_left) nothing_left
      left_dates s' kept' at' apart' there' = record {
        within = omega arith;
        still = λ epoch dated. ⊎_elim
            (λ (same : dated.seat ≡ other).
            let late = dated.since in
            let theirs = ap (λ (u : CellView S A R). u.pools.dated) (some-injective dated.view w (sym dated.there ∙ (ap (get_elem? (set s'.views id (takes_in v w))) same ∙ there'))) in
            record {
              seat = id;
              view = takes_in v w;
              there = set_else (set s'.views id (takes_in v w)) other id nothing_left apart' ∙ set_there s'.views id v (takes_in v w) at';
              since = omega (arith, late, theirs);
            })
            (λ (ne : dated.seat ≢ other). record {
              seat = dated.seat;
              view = dated.view;
              there = set_else (set s'.views id (takes_in v w)) other dated.seat nothing_left ne ∙ dated.there;
              since = dated.since;
            })
            (cases_eq dated.seat other);
      }

      taker_stored : {words : List ℕ} → FitsStored layout words v.pools → FitsStored layout words (joined_pools v.pools w.pools)
      taker_stored {words} fits = stored_kept layout words words v.pools (joined_pools v.pools w.pools) fits refl
          (own_same layout v.pools (joined_pools v.pools w.pools) refl refl) (λ pool place field own. refl)

      taker_fits : {k : Machine S} {t : TrieWords} → FitsTrie digest layout.slots k t v.trie → FitsTrie digest layout.slots k t (joined_trie v.trie w.trie)
      taker_fits fits = record { stands = fits.stands; leaf = fits.leaf; seen = fits.seen; claimed = fits.claimed }

      some_left : 1 ≤ length (v.seats.readers ++ w.seats.readers)
      some_left = let has = length-append v.seats.readers w.seats.readers in omega (arith, has, place)

      gone_left : (slot : ℕ) → gone_in death_side (set (set s.views id (takes_in v w)) other nothing_left) slot ≡ gone_in death_side (set s.views id (takes_in v w)) slot
      gone_left slot =
          let one = sum-set (λ (u : CellView S A R). occurs slot (slots_named u.pools.reclaims)) (set s.views id (takes_in v w)) other w nothing_left there in
          let two = sum-set (λ (u : CellView S A R). occurs slot (slots_named u.pools.cleared)) (set s.views id (takes_in v w)) other w nothing_left there in
          let none : occurs slot (slots_named w.pools.reclaims) ≡ 0 = ap (λ ids. occurs slot (slots_named ids)) w-reclaims in
          let also : occurs slot (slots_named w.pools.cleared) ≡ 0 = ap (λ ids. occurs slot (slots_named ids)) w-cleared in
          omega (arith, one, two, none, also)

      grown_so : CountsSame trie_side s.views (set (set s.views id (takes_in v w)) other nothing_left)
      grown_so = record {
        grown =
            let one = sum-set (λ (u : CellView S A R). u.trie.grown) s.views id v (takes_in v w) at in
            let two = sum-set (λ (u : CellView S A R). u.trie.grown) (set s.views id (takes_in v w)) other w nothing_left there in
            omega (arith, one, two);
        regained =
            let one = sum-set (λ (u : CellView S A R). u.trie.regained) s.views id v (takes_in v w) at in
            let two = sum-set (λ (u : CellView S A R). u.trie.regained) (set s.views id (takes_in v w)) other w nothing_left there in
            omega (arith, one, two);
      }

      -- the pass has the nodes that the other got back
      taken_joined : (pool : Pool) (p : ℕ) →
          taken pool_side kept.published (state_of m kept.log) (set (set s.views id (takes_in v w)) other nothing_left) pool p ≡ taken pool_side kept.published (state_of m kept.log) s.views pool p
      taken_joined Slots p = refl
      taken_joined Nodes p =
          let one = sum-set (λ (u : CellView S A R). occurs p u.pools.nodes) s.views id v (takes_in v w) at in
          let two = sum-set (λ (u : CellView S A R). occurs p u.pools.nodes) (set s.views id (takes_in v w)) other w nothing_left there in
          let none : occurs p w.pools.nodes ≡ 0 = ap (occurs p) w-nodes in
          let back = sum-set (λ (u : CellView S A R). occurs p u.pools.unfreed) s.views id v (takes_in v w) at in
          let left = sum-set (λ (u : CellView S A R). occurs p u.pools.unfreed) (set s.views id (takes_in v w)) other w nothing_left there in
          let both : occurs p (v.pools.unfreed ++ w.pools.unfreed) ≡ occurs p v.pools.unfreed + occurs p w.pools.unfreed =
          sum_by-append (λ (y : ℕ). one_where (eqb y p)) v.pools.unfreed w.pools.unfreed in
          omega (arith, one, two, none, back, left, both)

  -- a new seat gets its number by a load
  pub gets_born : (st : Step (Running S)) (id n i : ℕ) (me : Me (Running S) (CellView S A R)) → me.0.seats.lives ≡ false → 1 ≤ length me.0.seats.readers →
      Allows (IsCells m digest layout) n id me i (λ k. k) (IsBorn m st me)
  gets_born st id n i me lives place s kept homes at bound =
      let v = me.0 in
      let there = at_map seat_side s.views id v at in
      let fits = kept.seats.each id v.seats there in (
        record v { seats = record v.seats { number = id; lives = true; others = [] } },
        keeps,
        tt,
        seats_step m digest layout s i id me.1 v (record v { seats = record v.seats { number = id; lives = true; others = [] } }) kept at refl refl
            (knows_same v.trie) refl (alone_still v (record v { seats = record v.seats { number = id; lives = true; others = [] } }) (kept.alone id v at) place refl (λ none. none))
            (λ conn c. kept.known id v conn at c)
            (seats-born entry_seat layout.slots all_places kept.log (map seat_side s.views) id v.seats kept.seats there lives place),
        record {
          number = id;
          is = refl;
          apart = fits.others;
          reader = owned_within entry_seat layout.slots all_places kept.log (map seat_side s.views) id (pin_place v.seats.readers) v.seats kept.seats there (first_occurs v.seats.readers place);
          unused = none_seen entry_seat layout.slots all_places kept.log (map seat_side s.views) id v.seats kept.seats there lives place;
          legal = Legal-prefix m v.seats.about v.seats.history kept.log fits.seen (rw (fits.sized place) kept.connections.legal);
        },
      )

  -- a seat reads what it was told by a load
  pub reads : (st : Step (Running S)) (id n i : ℕ) (me : Me (Running S) (CellView S A R)) → me.0.seats.lives ≡ true → 1 ≤ length me.0.seats.readers →
      Allows (IsCells m digest layout) n id me i (λ k. k) (HasRead m st me)
  reads st id n i me lives place s kept homes at bound =
      let v = me.0 in
      let sides = map seat_side s.views in
      let there = at_map seat_side s.views id v at in
      let fits = kept.seats.each id v.seats there in
      let seated = fits.lives lives in
      let long = long entry_seat layout.slots all_places kept.log sides id v.seats kept.seats there lives in
      let next : CellView S A R = record v { seats = record v.seats { history = long.history; joined = v.seats.theirs ++ v.seats.joined; told = []; theirs = [] } } in (
        next,
        keeps,
        tt,
        seats_step m digest layout s i id me.1 v next kept at refl refl (knows_same v.trie) refl (alone_still v next (kept.alone id v at) place refl (λ none. none))
            (λ conn c. known_more m layout.slots conn v.seats.history long.history kept.log kept.connections.legal long.mine long.within
            (kept.deaths.kills id v conn at c).dead (kept.known id v conn at c)) (seats-read entry_seat layout.slots all_places kept.log sides id v.seats kept.seats there lives),
        record {
          history = long.history;
          is = refl;
          longer = long.longer;
          mine = long.mine;
          theirs = long.theirs;
          own = mine_seen entry_seat layout.slots all_places kept.log sides id v.seats kept.seats there lives v.seats.number (rw seated.number seated.own);
          kept = λ j c. mine_seen entry_seat layout.slots all_places kept.log sides id v.seats kept.seats there lives j (fits.joined j c).same;
          listed = λ j c. told_seen entry_seat layout.slots all_places kept.log sides id v.seats kept.seats there lives j (fits.theirs j c).same;
          apart = λ j c e. unspent entry_seat layout.slots all_places kept.log sides id j v.seats there place (fits.theirs j c).spent (e ∙ seated.number);
          legal = Legal-prefix m v.seats.about long.history kept.log long.within (rw (fits.sized place) kept.connections.legal);
          most = most_places entry_seat layout.slots all_places kept.log sides id v.seats kept.seats there lives;
          epoch = within_last _ _ _ kept.epochs id (reader_view v) (at_map reader_view s.views id v at);
          sole = λ all j. ⊎_elim
              (λ none. inl (none_in_prefix entry_seat j long.history kept.log long.within none))
              (λ seat. inr (⊎_elim (λ e. inl (e ∙ sym seated.number)) (λ c. inr c) (only_seat entry_seat layout.slots all_places kept.log sides id v.seats kept.seats there lives all j seat)))
              (kept.seats.known j);
        },
      )

-- what a split leaves
pub split_so : {S A R : Type 0} (m : Meaning S A R) (st : Step (Running S)) (v : CellView S A R) (found : ℕ) (given : Me (Running S) (CellView S A R)) →
    v.epochs.pin ≡ Idle → 2 ≤ length v.seats.readers →
    IsBorn m st (given_view v, []) found given → IsSplit (cell_pass v) (cell_pass (gives_reader v)) (cell_pass given.0)
split_so m st v found given idle places born =
    let is : given.0 ≡ record (given_view v) { seats = record (given_seat v.seats) { number = born.number; lives = true; others = [] } } = ap (λ y. y.0) born.is in
    let number : given.0.seats.number ≡ born.number = ap (λ (y : CellView _ _ _). y.seats.number) is in
    let kept : length (take (length v.seats.readers - 1) v.seats.readers) ≡ length v.seats.readers - 1 = length-take-le (length v.seats.readers - 1) v.seats.readers (omega arith) in
    let dropped : length (drop (length v.seats.readers - 1) v.seats.readers) ≡ 1 = (let d = length-drop (length v.seats.readers - 1) v.seats.readers in omega (arith, d, places)) in
    record {
      adds = record { rest = []; goes_on = sym (append-nil v.seats.history); own = refl; listed = λ n c. refl };
      left = rw kept refl;
      another = λ e. born.apart v.seats.number (Contains-append_left (v.seats.number ∷ []) v.seats.joined v.seats.number (Contains-push [] v.seats.number)) (sym e ∙ number);
      unlisted = λ c. born.apart given.0.seats.number (Contains-append_right (v.seats.number ∷ []) v.seats.joined given.0.seats.number c) number;
      unused = rw number born.unused;
      gives = rw (is, dropped) refl;
    }

-- what a join leaves
module _ {S A R : Type 0} (m : Meaning S A R) (st : Step (Running S)) (v w : CellView S A R) (slots : List (ℕ × Running S)) (found : ℕ) (next : Me (Running S) (CellView S A R))
    (l : HasRead m st (takes_in v w, slots) found next) where
  abbrev read_seat : CellView S A R
  read_seat = record (takes_in v w) { seats = record (taking_seat v.seats w.seats) { history = l.history; joined = (w.seats.number ∷ w.seats.joined) ++ v.seats.joined; told = []; theirs = [] } }

  view : next.0 ≡ read_seat
  view = ap (λ (y : Me (Running S) (CellView S A R)). y.0) l.is

  w_first : Contains (w.seats.number ∷ w.seats.joined) w.seats.number
  w_first = Contains-append_left (w.seats.number ∷ []) w.seats.joined w.seats.number (Contains-push [] w.seats.number)

  pub joined_so : w.seats.about ≡ v.seats.about → IsJoined (cell_pass v) (cell_pass w) (cell_pass next.0)
  joined_so tables = rw view (record {
    tables = tables;
    another = l.apart w.seats.number w_first;
    longer = l.longer;
    mine = l.mine;
    theirs = l.theirs;
    own = l.own;
    others = l.listed w.seats.number w_first;
    kept = l.kept;
    listed = λ n c. l.listed n (Contains-append_right (w.seats.number ∷ []) w.seats.joined n c);
    takes = rw (length-append v.seats.readers w.seats.readers) refl;
  })

  pub joined_pass : v.pools.builds ≡ [] → v.trie.answered ≡ [] → IsPass m (cell_pass next.0)
  joined_pass done quiet = record {
    legal = rw view l.legal;
    stays = λ id c. absurd (none_listed id (subst (λ ids. Contains ids id) answered c));
    building = λ id c. absurd (none_listed id (subst (λ ids. Contains ids id) builds c));
    unanswered = λ _. answered;
    idle = λ _. builds;
    alone = λ all e c. ⊎_elim (λ none. absurd (seen_entry entry_seat l.history e none (rw view at c))) (λ own. own)
        (l.sole (sym (ap (λ (y : CellView S A R). length y.seats.readers) view) ∙ all) e.seat);
    most = rw view l.epoch;
  }
    where
      answered : next.0.trie.answered ≡ []
      answered = ap (λ (y : CellView S A R). y.trie.answered) view ∙ quiet

      builds : next.0.pools.builds ≡ []
      builds = ap (λ (y : CellView S A R). y.pools.builds) view ∙ done

-- a new pass has as its own what it was given
pub given_pass : {S A R : Type 0} (m : Meaning S A R) (st : Step (Running S)) (v : CellView S A R) (found : ℕ) (given : Me (Running S) (CellView S A R)) → 2 ≤ length v.seats.readers →
    IsBorn m st (given_view v, []) found given → IsPass m (cell_pass given.0)
given_pass m st v found given places born =
    let is : given.0 ≡ record (given_view v) { seats = record (given_seat v.seats) { number = born.number; lives = true; others = [] } } = ap (λ y. y.0) born.is in
    let dropped : length (drop (length v.seats.readers - 1) v.seats.readers) ≡ 1 = (let d = length-drop (length v.seats.readers - 1) v.seats.readers in omega (arith, d, places)) in
    rw is (record {
      legal = born.legal;
      stays = λ id c. absurd (none_listed id c);
      building = λ id c. absurd (none_listed id c);
      unanswered = λ _. refl;
      idle = λ _. refl;
      alone = λ all. absurd (omega (arith, dropped, all));
      most = omega arith;
    })

-- the pass that gave a place up, the new one, and the one that took another in are passes of the table
module _ {S A R : Type 0} (m : Meaning S A R) (layout : Layout) (table seat : TableId) (readers : List ℕ) (me : Me (Running S) (CellView S A R)) (own : IsPassOf layout table seat readers me) where
  pub giver_on : (seat' : TableId) (readers' : List ℕ) (next : Me (Running S) (CellView S A R)) → 2 ≤ length me.0.seats.readers → seat' ≡ seat → next ≡ (gives_reader me.0, me.1) →
      readers' ≡ take (length readers - 1) readers → IsPassOf layout table seat' readers' next
  giver_on seat' readers' next places same is left =
      let kept : length (take (length me.0.seats.readers - 1) me.0.seats.readers) ≡ length me.0.seats.readers - 1 = length-take-le (length me.0.seats.readers - 1) me.0.seats.readers (omega arith) in
      let first = get_or-take (length me.0.seats.readers - 1) me.0.seats.readers 0 0 (omega (arith, places)) in
      rw is (record {
        same = same ∙ own.same;
        words = own.words;
        carries = own.carries;
        sized = own.sized;
        lives = own.lives;
        theirs = own.theirs;
        owns = left ∙ ap (λ (xs : List ℕ). take (length xs - 1) xs) own.owns;
        place = omega (arith, kept, places);
        most = (let a = own.most in omega (arith, kept, a));
        reader = (let a = own.reader in omega (arith, first, a));
        epoch = own.epoch;
        unanswered = own.unanswered;
        unlocked = own.unlocked;
        marked = own.marked;
      })

  pub given_on : (st : Step (Running S)) (seat' : TableId) (readers' : List ℕ) (found : ℕ) (next : Me (Running S) (CellView S A R)) → 2 ≤ length me.0.seats.readers → seat' ≡ seat →
      IsBorn m st (given_view me.0, []) found next → readers' ≡ drop (length readers - 1) readers → IsPassOf layout table seat' readers' next
  given_on st seat' readers' found next places same born left =
      let dropped : length (drop (length me.0.seats.readers - 1) me.0.seats.readers) ≡ 1 = (let d = length-drop (length me.0.seats.readers - 1) me.0.seats.readers in omega (arith, d, places)) in
      rw born.is (record {
        same = same ∙ own.same;
        words = own.words;
        carries = refl;
        sized = own.sized;
        lives = refl;
        theirs = refl;
        owns = left ∙ ap (λ (xs : List ℕ). drop (length xs - 1) xs) own.owns;
        place = omega (arith, dropped);
        most = omega (arith, dropped);
        reader = born.reader;
        epoch = omega arith;
        unanswered = λ _. refl;
        unlocked = λ _. refl;
        marked = λ mark c. absurd (none_listed mark c);
      })

  pub joined_on : (w : CellView S A R) (st : Step (Running S)) (seat' : TableId) (readers' : List ℕ) (found : ℕ) (next : Me (Running S) (CellView S A R)) → seat' ≡ seat →
      HasRead m st (takes_in me.0 w, me.1) found next → readers' ≡ readers ++ w.seats.readers → IsPassOf layout table seat' readers' next
  joined_on w st seat' readers' found next same read joined =
      let has = length-append me.0.seats.readers w.seats.readers in
      let some' = own.place in
      let first = get_or_append_left me.0.seats.readers w.seats.readers 0 0 (omega (arith, some')) in
      rw read.is (record {
        same = same ∙ own.same;
        words = own.words;
        carries = own.carries;
        sized = own.sized;
        lives = own.lives;
        theirs = refl;
        owns = joined ∙ ap (λ (xs : List ℕ). xs ++ w.seats.readers) own.owns;
        place = omega (arith, has, some');
        most = read.most;
        reader = (let a = own.reader in omega (arith, first, a));
        epoch = own.epoch;
        unanswered = own.unanswered;
        unlocked = own.unlocked;
        marked = own.marked;
      })

-- the last of the reader places is what is dropped
pub last_dropped : (xs ys : List ℕ) → xs ≡ take (length xs - 1) xs ++ ys → ys ≡ drop (length xs - 1) xs
last_dropped xs ys e = append_cancel_left (take (length xs - 1) xs) ys (drop (length xs - 1) xs) (sym e ∙ sym (take-append-drop (length xs - 1) xs))
