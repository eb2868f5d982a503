-- What stores in a pass's own words make of deaths: another word, or a value below any epoch where none stood, leaves them.
use Rattle.std.specs.List.{Contains}
use Rattle.std.proofs.Common.{◌≡◌, ◌≢◌, ℕ, ◌+◌, ◌-◌, ◌^◌, ◌<◌, ◌≤◌, List, set, length, slice_index, refl, sym, ap, ◌∙◌, subst, ⊎_elim, arith}
use Rattle.std.proofs.lemmas.{Bool.{cases_eq, cases_lt}, List.{get_or-set_same, get_or-set_other}}
use mathlib.Core.Option.{some}
use lib.ListN.{get_elem?}
use Rattle.atomic_table.specs.Table.{State, Me}
use Rattle.npf_types.specs.declared.key.{Key.Key, Way.Way}
use Rattle.npf_core.specs.{declared.conn_id.ConnId.ConnId, History.state_of, Machine.{Machine, HoldsSome}, Meaning.Meaning}
use Rattle.npf_cells_words.specs.{declared.layout.{Layout.Layout, Pool.TheVariants.{Slots, Nodes}}, Layout.{notes_field, field_at, epoch_word}}
use Rattle.npf_cells_words.proofs.WordLemmas.{field_behind, field_reach}
use Rattle.npf_seats.{specs.Sums.occurs, proofs.SumLemmas.sum-set}
use Rattle.npf_cells_pins.specs.declared.pin.EpochSide.{EpochSide}
use Rattle.npf_cells_leaves.specs.declared.trie.TrieSide.{TrieSide}
use Rattle.npf_cells_lives.specs.Deaths.{is_dead, has_epoch, first_note, slots_named, killed_in, reclaimed_in, cleared_in, last_id, FitsKill, Deaths}
use Rattle.npf_cells_lives.{specs.Turns.Running, proofs.ConnLemmas.building_at}
use Rattle.npf_cells_lives.proofs.DeathLemmas.{spares_all, RestsNoMore, same_dates, low_note, kill_kept, deaths-set}
use Rattle.npf_cells_rule.{specs.{declared.view.CellView.CellView, Cells.IsCells, Views.{DeadHand, dead_hand, death_side}}, proofs.DeathFrames.deaths_on}

module _ {S A R : Type 0} (m : Meaning S A R) (digest : Key → ℕ) (layout : Layout) (s : State (Running S) (CellView S A R)) (id : ℕ)
    (me : Me (Running S) (CellView S A R)) (kept : IsCells m digest layout s) (at : get_elem? s.views id ≡ some me.0) where
  abbrev k : Machine S
  k = state_of m kept.log

  -- no note but this one is in such a word, and the epoch isn't
  module _ (slot field value : ℕ) (within : slot < layout.slots) (short : field < 21) where
    abbrev word : ℕ
    word = field_at layout Slots slot field

    abbrev words' : List ℕ
    words' = set s.words word value

    other : (j : ℕ) → j ≢ word → slice_index words' j ≡ slice_index s.words j
    other j ne = get_or-set_other s.words word j value 0 ne

    there : word < length s.words
    there = let reach = field_reach layout Slots slot field within short in let long = kept.connections.reach in omega (arith, reach, long)

    same_epoch : epoch_word s.words ≤ epoch_word words'
    same_epoch = let same = other 0 (λ e. absurd (let far = field_behind layout Slots slot field in omega (arith, e, far))) in omega (arith, same)

    note_else : (p : ℕ) → p ≢ slot → first_note layout words' p ≡ first_note layout s.words p
    note_else p ne = other (field_at layout Slots p notes_field) (λ e. ne (omega (arith, e, short)))

    module _ (w : CellView S A R) (hand : dead_hand w.pools ≡ dead_hand me.0.pools) (epochs : w.epochs ≡ me.0.epochs) (trie : w.trie ≡ me.0.trie) where
      less : RestsNoMore k (death_side me.0) (death_side w)
      less = subst (λ (y : EpochSide × TrieSide). RestsNoMore k (death_side me.0) (death_side (record w { epochs = y.0; trie = y.1 })))
          (λ i. (sym epochs i, sym trie i)) (record { rests = λ i dead bare rests. (rests, refl) })

      -- a store in another word
      pub deaths_elsewhere : field ≢ notes_field → Deaths death_side layout k words' (set s.views id w)
      deaths_elsewhere ne = deaths_on m digest layout s word value id me.0 w kept at hand (ap (λ (e : EpochSide). e.loaded) epochs) less same_epoch
          (λ p h. other (field_at layout Slots p notes_field) (λ e. absurd (ne (omega (arith, e, short)))))

      -- and one of less than an epoch, where no epoch stood
      pub deaths_noted : has_epoch (first_note layout s.words slot) ≡ 0 → value < 2 ^ 63 → Deaths death_side layout k words' (set s.views id w)
      deaths_noted unmarked low = ⊎_elim at_note deaths_elsewhere (cases_eq field notes_field)
        where
          at_note : field ≡ notes_field → Deaths death_side layout k words' (set s.views id w)
          at_note is = deaths-set death_side layout k k s.words words' s.views id me.0 w kept.deaths at (spares_all k) same_epoch less
              (ap (λ (h : DeadHand). h.reclaims) hand) (ap (λ (h : DeadHand). h.cleared) hand) counted reclaimed
              (λ i c. subst (λ n. FitsKill death_side k (epoch_word words') (set s.views id w) n i) (sym (ap (λ (e : EpochSide). e.loaded) epochs))
              (kill_kept death_side layout k k s.words words' s.views id me.0 w kept.deaths at (spares_all k) same_epoch less me.0.epochs.loaded i
              (kept.deaths.kills id me.0 i at (subst (λ (h : DeadHand). Contains h.kills i) hand c))))
              (λ p epoch h note. ⊎_elim
              (λ (e : p ≡ slot). absurd (let small = low in let now : first_note layout words' p ≡ value = here p e in omega (arith, small, now, note)))
              (λ ne. sym (note_else p ne) ∙ note)
              (cases_eq p slot))
              (same_dates death_side layout k s.words words' s.views id me.0 w kept.deaths at same_epoch (ap (λ (h : DeadHand). h.dated) hand))
            where
              here : (p : ℕ) → p ≡ slot → first_note layout words' p ≡ value
              here p e = let same : field_at layout Slots p notes_field ≡ word = omega (arith, e, is) in ap (slice_index words') same ∙ get_or-set_same s.words word value 0 there

              counted : (p : ℕ) → p < layout.slots → killed_in death_side (set s.views id w) p + has_epoch (first_note layout words' p) + cleared_in death_side s.views p ≡ is_dead (k.slot p).stage
              counted p h =
                  let more = sum-set (λ (u : CellView S A R). occurs p (slots_named u.pools.kills)) s.views id me.0 w at in
                  let same = ap (λ (d : DeadHand). occurs p (slots_named d.kills)) hand in
                  let was = kept.deaths.counted p h in
                  ⊎_elim
                  (λ (e : p ≡ slot).
                  let before : has_epoch (first_note layout s.words p) ≡ 0 = ap (λ q. has_epoch (first_note layout s.words q)) e ∙ unmarked in
                  let now : has_epoch (first_note layout words' p) ≡ 0 = ap has_epoch (here p e) ∙ low_note value low in
                  omega (arith, more, same, was, before, now))
                  (λ (ne : p ≢ slot). let note = ap has_epoch (note_else p ne) in omega (arith, more, same, was, note))
                  (cases_eq p slot)

              reclaimed : (p : ℕ) → p < layout.slots → reclaimed_in death_side s.views p ≤ has_epoch (first_note layout words' p)
              reclaimed p h =
                  let was = kept.deaths.reclaimed p h in
                  ⊎_elim
                  (λ (e : p ≡ slot). let before : has_epoch (first_note layout s.words p) ≡ 0 = ap (λ q. has_epoch (first_note layout s.words q)) e ∙ unmarked in omega (arith, was, before))
                  (λ (ne : p ≢ slot). let note = ap has_epoch (note_else p ne) in omega (arith, was, note))
                  (cases_eq p slot)

  -- a store in a node is in no note
  pub deaths_in_node : (node field value : ℕ) (w : CellView S A R) → node < layout.nodes → field < 18 → dead_hand w.pools ≡ dead_hand me.0.pools → w.epochs ≡ me.0.epochs → w.trie ≡ me.0.trie →
      Deaths death_side layout k (set s.words (field_at layout Nodes node field) value) (set s.views id w)
  deaths_in_node node field value w within short hand epochs trie =
      deaths_on m digest layout s (field_at layout Nodes node field) value id me.0 w kept at hand (ap (λ (e : EpochSide). e.loaded) epochs)
      (subst (λ (y : EpochSide × TrieSide). RestsNoMore k (death_side me.0) (death_side (record w { epochs = y.0; trie = y.1 })))
      (λ i. (sym epochs i, sym trie i)) (record { rests = λ i dead bare rests. (rests, refl) }))
      (let same = get_or-set_other s.words (field_at layout Nodes node field) 0 value 0 (λ e. absurd (let far = field_behind layout Nodes node field in omega (arith, e, far))) in omega (arith, same))
      (λ slot h. get_or-set_other s.words (field_at layout Nodes node field) (field_at layout Slots slot notes_field) value 0 (λ e. absurd (omega (arith, e, within, short))))

  -- no epoch stands in the note of a slot where the pass builds, nor where the last connection holds a key
  pub built_unmarked : (conn : ConnId) → Contains me.0.pools.builds conn → conn.slot < layout.slots → has_epoch (first_note layout s.words conn.slot) ≡ 0
  built_unmarked conn built within =
      let alive : is_dead (k.slot conn.slot).stage ≡ 0 = ap is_dead (building_at (k.slot conn.slot) conn.inc id ((kept.connections.each id me.0 at).building conn built)).1 in
      let was = kept.deaths.counted conn.slot within in
      omega (arith, was, alive)

  pub held_unmarked : (slot : ℕ) (way : Way) → slot < layout.slots → HoldsSome k (last_id k slot) way → has_epoch (first_note layout s.words slot) ≡ 0
  held_unmarked slot way within held = ⊎_elim
      (λ (low : first_note layout s.words slot < 2 ^ 63). low_note (first_note layout s.words slot) low)
      (λ (high : 2 ^ 63 ≤ first_note layout s.words slot).
      let split : first_note layout s.words slot ≡ 2 ^ 63 + (first_note layout s.words slot - 2 ^ 63) = omega (arith, high) in
      absurd ((kept.deaths.left slot (first_note layout s.words slot - 2 ^ 63) within split).keyless way held.0 held.1))
      (cases_lt (first_note layout s.words slot) (2 ^ 63))
