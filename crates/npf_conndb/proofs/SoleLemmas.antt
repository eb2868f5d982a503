-- A pass that owns all reader places has seen all of the history, and what it finds of a slot says whether a Dead connection is there.
use Rattle.std.specs.List.{Contains}
use Rattle.std.proofs.Common.{◌≡◌, ◌≢◌, ℕ, ◌+◌, ◌-◌, ◌^◌, ◌<◌, ◌≤◌, true, true≢false, Some, None, List, [], ◌∷◌, ◌++◌, length, slice_index, append-nil, refl, sym, ap, ◌∙◌, subst, ⊎_elim, arith}
use Rattle.std.proofs.lemmas.List.Elements.{Contains-append_left, Contains-append_right, Contains-push}
use mathlib.Core.Option.{some}
use lib.ListN.{get_elem?}
use Rattle.atomic_table.{specs.Table.State, proofs.Lists.at_map}
use Rattle.npf_types.specs.declared.key.Key.{Key}
use Rattle.npf_core.specs.{declared.{entry.Entry.Entry, slot.Slot.Slot, stage.Stage.TheVariants.Dead}, History.{Legal, by, state_of}}
use Rattle.npf_core.{specs.{Machine.{Machine, IsClaimed}, Meaning.Meaning}, proofs.ClaimedLemmas.was_claimed}
use Rattle.npf_connections.specs.{Adding.Adds, Pass.{Pass, IsOwn, all_places}, Worn.ClaimsLast}
use Rattle.npf_cells_words.specs.{declared.layout.{Layout.Layout, Pool.TheVariants.Slots}, Layout.{turn_field, phase_field, notes_field, field_at}}
use Rattle.npf_seats.{specs.Sums.occurs, proofs.{PrefixLemmas.seen_entry, SumLemmas.sum_alone}}
use Rattle.npf_cells_lives.specs.{declared.turn.Turn.Turn, Conns.entry_seat, Deaths.{slots_named, last_id, unreclaimed}}
use Rattle.npf_cells_lives.{specs.Turns.{Running, StaysAt, stage_phase, phase_word}, proofs.{DeathLemmas.last_stage, FreedLemmas.{gone_in, freed_none}}}
use Rattle.npf_cells_rule.specs.{declared.view.CellView.CellView, Cells.IsCells, DeathLaw.{IsLeftThere, HasNoDeadOfItsOwn}, Passes.cell_pass, Stood.StoodSo}
use Rattle.npf_cells_rule.{specs.Views.{seat_side, death_side}, proofs.{DeathLawLemmas.sole_finds_left, EntryLemmas.{sees_nothing, sole_seen}}}
use Rattle.npf_cells_rule.proofs.SoleLemmas.{others_spent}
use Rattle.npf_cells_turns.specs.TurnKinds.{turn_at}
use Rattle.npf_turn.specs.Reclaims.{IsLongLeft, turning, WhyLeft, was_taken, was_alive, was_early, was_last}

-- a history that goes on by a pass's own entries alone, and by none of its own, doesn't go on
nothing_more : {S A R : Type 0} (pass : Pass (Entry S A R)) (log : List (Entry S A R)) (adds : Adds pass log []) → ((e : Entry S A R) → Contains log e → IsOwn pass e.seat) → log ≡ pass.history
nothing_more {S} {A} {R} pass log adds own = by_rest adds.rest refl
  where
    by_rest : (rest : List (Entry S A R)) → adds.rest ≡ rest → log ≡ pass.history
    by_rest [] is = adds.goes_on ∙ (ap (λ r. pass.history ++ r) is ∙ append-nil pass.history)
    by_rest (e ∷ es) is =
        let here : Contains adds.rest e = subst (λ r. Contains r e) (sym is) (Contains-append_left (e ∷ []) es e (Contains-push [] e)) in
        let there : Contains log e = subst (λ r. Contains r e) (sym adds.goes_on) (Contains-append_right pass.history adds.rest e here) in
        absurd (⊎_elim
        (λ (same : e.seat ≡ pass.number). seen_entry entry_seat adds.rest e (ap (λ n. by n adds.rest) same ∙ adds.own) here)
        (λ (c : Contains pass.joined e.seat). seen_entry entry_seat adds.rest e (adds.listed e.seat c) here)
        (own e there))

module _ {S A R : Type 0} (m : Meaning S A R) (digest : Key → ℕ) (layout : Layout) where
  -- so where the pass owns all reader places it has seen the whole of it
  pub sole_log : (v : CellView S A R) (state : State (Running S) (CellView S A R)) (rule : IsCells m digest layout state) → get_elem? state.views v.seats.number ≡ some v →
      v.seats.lives ≡ true → v.seats.theirs ≡ [] → length v.seats.readers ≡ all_places → rule.log ≡ v.seats.history
  sole_log v state rule seated lives settled all =
      let there = at_map seat_side state.views v.seats.number v seated in
      nothing_more (cell_pass v) rule.log (sees_nothing layout.slots rule.log _ v.seats.number v rule.seats there lives)
      (sole_seen layout.slots rule.log _ v.seats.number v rule.seats there lives settled all)

  module _ (v : CellView S A R) (word n : ℕ) (stood : StoodSo m digest layout v word n) (lives : v.seats.lives ≡ true) (settled : v.seats.theirs ≡ [])
      (all : length v.seats.readers ≡ all_places) (hand : HasNoDeadOfItsOwn v) (slot : ℕ) (within : slot < layout.slots) where
    abbrev k : Machine S
    k = state_of m v.seats.history

    log_seen : stood.rule.log ≡ v.seats.history
    log_seen = sole_log v stood.state stood.rule stood.seated lives settled all

    same_slot : (state_of m stood.rule.log).slot slot ≡ k.slot slot
    same_slot = ap (λ h. (state_of m h).slot slot) log_seen

    pub left_at : (k.slot slot).stage ≡ Dead → IsLeftThere layout stood.state.words v slot
    left_at dead = sole_finds_left m layout digest stood.state stood.rule v.seats.number slot v within stood.seated all hand (ap (λ (x : Slot S). x.stage) same_slot ∙ dead)

    none_gone : gone_in death_side stood.state.views slot ≡ 0
    none_gone =
        let one = sum_alone (λ (u : CellView S A R). occurs slot (slots_named u.pools.reclaims)) stood.state.views v.seats.number v stood.seated
        (λ i u ne there. ap (λ (x : CellView S A R). occurs slot (slots_named x.pools.reclaims))
        (others_spent m digest layout stood.state v.seats.number v stood.rule stood.seated all i u ne there)) in
        let two = sum_alone (λ (u : CellView S A R). occurs slot (slots_named u.pools.cleared)) stood.state.views v.seats.number v stood.seated
        (λ i u ne there. ap (λ (x : CellView S A R). occurs slot (slots_named x.pools.cleared))
        (others_spent m digest layout stood.state v.seats.number v stood.rule stood.seated all i u ne there)) in
        let mine = ap (λ ids. occurs slot (slots_named ids)) hand.reclaims in
        let also = ap (λ ids. occurs slot (slots_named ids)) hand.cleared in
        omega (arith, one, two, mine, also)

    -- who has the turn of a slot of a Dead connection got it when it was
    pub was_dead : (turn : Turn S) → v.turn ≡ Some turn → turn.slot ≡ slot → (k.slot slot).stage ≡ Dead → turn.was ≡ k.slot slot
    was_dead turn has there dead =
        let fits = stood.rule.turns.each v.seats.number v turn stood.seated has in
        let stays = subst (λ p. StaysAt turn.was ((unreclaimed death_side stood.state.views (state_of m stood.rule.log)).slot p)) there fits.stays in
        let seen = freed_none death_side stood.state.views (state_of m stood.rule.log) slot none_gone ∙ same_slot in
        ⊎_elim
        (λ (e : (unreclaimed death_side stood.state.views (state_of m stood.rule.log)).slot slot ≡ turn.was). sym e ∙ seen)
        (λ (idle : (stage_phase turn.was.stage ≡ 0) × (stage_phase ((unreclaimed death_side stood.state.views (state_of m stood.rule.log)).slot slot).stage ≡ 0)).
        absurd (let no : 2 ≡ 0 = sym (ap stage_phase dead) ∙ (ap (λ (x : Slot S). stage_phase x.stage) (sym seen) ∙ idle.1) in cc))
        stays

    pub phase_is : (turn : Turn S) → v.turn ≡ Some turn → turn.slot ≡ slot → word ≡ field_at layout Slots slot phase_field → n ≡ turn.phase
    phase_is turn has there is =
        let fits = stood.rule.turns.each v.seats.number v turn stood.seated has in
        sym stood.there ∙ (ap (slice_index stood.state.words) is ∙ subst (λ p. phase_word layout stood.state.words p ≡ turn.phase) there fits.phase)

    -- a first note of one has an epoch with which the pass let it go
    pub note_is : word ≡ field_at layout Slots slot notes_field → (k.slot slot).stage ≡ Dead → (epoch : ℕ) × (n ≡ 2 ^ 63 + epoch) × (epoch ≤ v.pools.dated)
    note_is is dead = let left = left_at dead in (left.epoch, sym stood.there ∙ (ap (slice_index stood.state.words) is ∙ left.note), left.since)

  -- so where it isn't worn and loaded an epoch two later, each reason for which a slot was left says that nothing Dead is there
  module _ (v : CellView S A R) (lives : v.seats.lives ≡ true) (settled : v.seats.theirs ≡ []) (all : length v.seats.readers ≡ all_places)
      (hand : HasNoDeadOfItsOwn v) (turnless : v.turn ≡ None) (slot epoch : ℕ) (within : slot < layout.slots)
      (slots : ℕ) (legal : Legal m slots v.seats.history) (unworn : ¬ ClaimsLast v.seats.history) (later : v.pools.dated + 2 ≤ epoch) where
    abbrev known : Machine S
    known = state_of m v.seats.history

    turned : (was : Slot S) → HasNoDeadOfItsOwn (turning v slot was)
    turned was = record { kills = hand.kills; reclaims = hand.reclaims; cleared = hand.cleared }

    claims_last : (known.slot slot).stage ≡ Dead → (known.slot slot).inc ≡ 2 ^ 64 - 1 → ClaimsLast v.seats.history
    claims_last dead last = record {
      id = last_id known slot;
      claimed = was_claimed m slots v.seats.history (last_id known slot) legal (subst IsClaimed (sym (last_stage known slot ∙ dead)) tt);
      last = last;
    }

    pub left_alive : WhyLeft m digest layout v slot epoch → (known.slot slot).stage ≢ Dead
    left_alive (was_taken got) dead =
        let free = (left_at v (field_at layout Slots slot turn_field) got.found got.stood lives settled all hand slot within dead).turn turnless in
        absurd (true≢false (sym (got.answers.1 (sym got.stood.there ∙ free))))
    left_alive (was_alive was phase stood other) dead =
        let v' = turning v slot was in
        let same = was_dead v' (field_at layout Slots slot phase_field) phase stood lives settled all (turned was) slot within (turn_at slot was) refl refl dead in
        other (phase_is v' (field_at layout Slots slot phase_field) phase stood lives settled all (turned was) slot within (turn_at slot was) refl refl refl
        ∙ (ap (λ (x : Slot S). stage_phase x.stage) same ∙ ap stage_phase dead))
    left_alive (was_early was note stood early) dead =
        let told = note_is (turning v slot was) (field_at layout Slots slot notes_field) note stood lives settled all (turned was) slot within refl dead in
        let is = told.1 in
        let since = told.2 in
        early (record { left = omega (arith, is); long = omega (arith, is, since, later) })
    left_alive (was_last was note stood last) dead =
        let same = was_dead (turning v slot was) (field_at layout Slots slot notes_field) note stood lives settled all (turned was) slot within (turn_at slot was) refl refl dead in
        unworn (claims_last dead (ap (λ (x : Slot S). x.inc) (sym same) ∙ last))

    -- and so does a first note that has no epoch, or a later one
    pub early_alive : (note : ℕ) → StoodSo m digest layout v (field_at layout Slots slot notes_field) note → ¬ IsLongLeft note epoch → (known.slot slot).stage ≢ Dead
    early_alive note stood early dead =
        let told = note_is v (field_at layout Slots slot notes_field) note stood lives settled all hand slot within refl dead in
        let is = told.1 in
        let since = told.2 in
        early (record { left = omega (arith, is); long = omega (arith, is, since, later) })
