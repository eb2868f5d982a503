-- While a seat may speak of a connection that was let go, the epoch is at most one more than that of its note; and where a seat owns all reader
-- places, each Dead connection that isn't its own was let go.
use Rattle.std.proofs.{Common.{◌≡◌, ◌≢◌, ℕ, ◌+◌, ◌-◌, ◌^◌, ◌<◌, ◌≤◌, None, length, refl, sym, ap, ◌∙◌, ⊎_elim, arith}, lemmas.Bool.cases_eq}
use mathlib.Core.Option.{some, some-injective}
use lib.ListN.{get_elem?}
use Rattle.atomic_table.{specs.Table.State, proofs.Lists.at_map}
use Rattle.npf_types.specs.declared.key.Key.{Key}
use Rattle.npf_core.specs.{declared.{slot.Slot.Slot, stage.Stage.TheVariants.Dead}, History.state_of, Machine.Machine, Meaning.Meaning}
use Rattle.npf_cells_words.specs.{declared.layout.Layout.Layout, Layout.epoch_word}
use Rattle.npf_cells_pins.specs.{declared.pin.Pin.{Pin, TheVariants.{Idle, Pinned, Protected}}, Epochs.PinAllows}
use Rattle.npf_connections.specs.Pass.{all_places}
use Rattle.npf_seats.{specs.Sums.occurs, proofs.{SeatLemmas.cases_lt, SumLemmas.sum_alone}}
use Rattle.npf_cells_lives.specs.Deaths.{IsProtectedBy, is_dead, first_note, slots_named, killed_in, reclaimed_in, cleared_in}
use Rattle.npf_cells_lives.{specs.Turns.{Running, stage_phase, has_turn, turn_holders}, proofs.{DeathLemmas.low_note, FreedLemmas.freed_none}}
use Rattle.npf_cells_rule.specs.{declared.view.CellView.CellView, Cells.IsCells, DeathLaw.{RestsHoldBack, IsLeftThere, HasNoDeadOfItsOwn, SoleFindsLeft}}
use Rattle.npf_cells_rule.{specs.Views.{reader_view, turn_side, death_side, nothing_left, protecting_epoch}, proofs.SoleLemmas.others_spent}

held_back : (pin : Pin) (now epoch : ℕ) → IsProtectedBy epoch (protecting_epoch pin) → PinAllows pin now → now ≤ epoch + 1
held_back Idle now epoch h allows = absurd h
held_back (Pinned pinned) now epoch h allows = absurd h
held_back (Protected pinned protecting) now epoch h allows = let next = allows.2 in omega (arith, h, next)

pub rests_hold_back : {S A R : Type 0} (m : Meaning S A R) (layout : Layout) → RestsHoldBack m layout
rests_hold_back m layout digest s kept j slot epoch v within at note rests =
    held_back v.epochs.pin (epoch_word s.words) epoch ((kept.deaths.left slot epoch within note).past.rested j v at rests)
    (kept.epochs.each j (reader_view v) (at_map reader_view s.views j v at)).guards

module _ {S A R : Type 0} (m : Meaning S A R) (layout : Layout) (digest : Key → ℕ) (s : State (Running S) (CellView S A R)) (kept : IsCells m digest layout s)
    (j slot : ℕ) (v : CellView S A R) (within : slot < layout.slots) (at : get_elem? s.views j ≡ some v)
    (all : length v.seats.readers ≡ all_places) (none : HasNoDeadOfItsOwn v) (dead : ((state_of m kept.log).slot slot).stage ≡ Dead) where
  abbrev k : Machine S
  k = state_of m kept.log

  spent : (f : CellView S A R → ℕ) → f nothing_left ≡ 0 → (i : ℕ) (u : CellView S A R) → i ≢ j → get_elem? s.views i ≡ some u → f u ≡ 0
  spent f idle i u ne there = ap f (others_spent m digest layout s j v kept at all i u ne there) ∙ idle

  none_killed : killed_in death_side s.views slot ≡ 0
  none_killed = sum_alone (λ (u : CellView S A R). occurs slot (slots_named u.pools.kills)) s.views j v at
      (spent (λ u. occurs slot (slots_named u.pools.kills)) refl) ∙ ap (λ ids. occurs slot (slots_named ids)) none.kills

  none_reclaimed : reclaimed_in death_side s.views slot ≡ 0
  none_reclaimed = sum_alone (λ (u : CellView S A R). occurs slot (slots_named u.pools.reclaims)) s.views j v at
      (spent (λ u. occurs slot (slots_named u.pools.reclaims)) refl) ∙ ap (λ ids. occurs slot (slots_named ids)) none.reclaims

  none_cleared : cleared_in death_side s.views slot ≡ 0
  none_cleared = sum_alone (λ (u : CellView S A R). occurs slot (slots_named u.pools.cleared)) s.views j v at
      (spent (λ u. occurs slot (slots_named u.pools.cleared)) refl) ∙ ap (λ ids. occurs slot (slots_named ids)) none.cleared

  none_has : v.turn ≡ None → turn_holders turn_side s.views slot ≡ 0
  none_has turnless = sum_alone (λ (u : CellView S A R). has_turn slot u.turn) s.views j v at (spent (λ u. has_turn slot u.turn) refl) ∙ ap (has_turn slot) turnless

  high : 2 ^ 63 ≤ first_note layout s.words slot
  high = ⊎_elim
      (λ (low : first_note layout s.words slot < 2 ^ 63).
      let no = low_note (first_note layout s.words slot) low in
      let sum = kept.deaths.counted slot within in
      let one : is_dead (k.slot slot).stage ≡ 1 = ap is_dead dead in
      absurd (let a = none_killed in let b = none_cleared in omega (arith, no, sum, one, a, b)))
      (λ h. h)
      (cases_lt (first_note layout s.words slot) (2 ^ 63))

  abbrev epoch : ℕ
  epoch = first_note layout s.words slot - 2 ^ 63

  is_epoch : first_note layout s.words slot ≡ 2 ^ 63 + epoch
  is_epoch = let h = high in omega (arith, h)

  since : epoch ≤ v.pools.dated
  since =
      let told = kept.deaths.dated slot epoch within is_epoch in
      let late = told.since in
      ⊎_elim
      (λ (same : told.seat ≡ j). let mine = ap (λ (u : CellView S A R). u.pools.dated) (some-injective told.view v (sym told.there ∙ (ap (get_elem? s.views) same ∙ at))) in omega (arith, late, mine))
      (λ (ne : told.seat ≢ j). let none = spent (λ u. u.pools.dated) refl told.seat told.view ne told.there in omega (arith, late, none))
      (cases_eq told.seat j)

  pub left_there : IsLeftThere layout s.words v slot
  left_there = record {
    epoch = epoch;
    note = is_epoch;
    reached = (kept.deaths.left slot epoch within is_epoch).past.reached;
    since = since;
    turn = λ turnless. kept.turns.says slot within ∙ none_has turnless;
    phase = λ turnless. (kept.turns.home slot within (none_has turnless)).phase
        ∙ (ap (λ (x : Slot S). stage_phase x.stage) (freed_none death_side s.views k slot (let a = none_reclaimed in let b = none_cleared in omega (arith, a, b))) ∙ ap stage_phase dead);
  }

pub sole_finds_left : {S A R : Type 0} (m : Meaning S A R) (layout : Layout) → SoleFindsLeft m layout
sole_finds_left m layout digest s kept j slot v within at all none dead = left_there m layout digest s kept j slot v within at all none dead
