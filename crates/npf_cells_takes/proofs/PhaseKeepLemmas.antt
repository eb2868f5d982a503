-- A store of a phase under the turn of its slot keeps the rule.
use Rattle.std.proofs.Common.{◌≡◌, ◌≢◌, ℕ, ◌≤◌, Option, Some, None, List, set, length, slice_index, refl, sym, ap, ◌∙◌, subst, inl, inr, arith}
use Rattle.std.proofs.lemmas.List.{get_or-set_same}
use mathlib.Core.Option.{some}
use lib.ListN.{get_elem?}
use Rattle.atomic_table.specs.Table.{State}
use Rattle.npf_types.specs.declared.key.Key.{Key}
use Rattle.npf_core.specs.{History.state_of, Machine.Machine, Meaning.Meaning}
use Rattle.npf_cells_words.specs.{declared.layout.{Layout.Layout, Pool.TheVariants.Slots}, Layout.{turn_field, phase_field, field_at}}
use Rattle.npf_cells_words.proofs.WordLemmas.{field_reach}
use Rattle.npf_seats.proofs.SumLemmas.{sum-set}
use Rattle.npf_cells_lives.specs.{declared.turn.Turn.Turn, Deaths.{slot_by, unreclaimed}, Turns.{Running, has_turn, turn_holders, StaysAt, FitsTurn, Turns}}
use Rattle.npf_cells_lives.proofs.{NoteLemmas.{SameAhead, same_ahead}, TurnLemmas.{turn_held, turns_alone, turns-changed}}
use Rattle.npf_cells_rule.{specs.{declared.view.CellView.CellView, Cells.IsCells, Views.{turn_side, death_side}}, proofs.DeathFrames.gone_same}
use Rattle.npf_cells_rule.proofs.{Frames.alone_still, TurnFrames.{other_word, turn_step}}
use Rattle.npf_cells_takes.specs.PrivateKinds.{with_phase}

module _ {S A R : Type 0} (m : Meaning S A R) (digest : Key → ℕ) (layout : Layout) where
  module _ (s : State (Running S) (CellView S A R)) (kept : IsCells m digest layout s) (id : ℕ) (v : CellView S A R)
      (turn : Turn S) (value : ℕ) (at : get_elem? s.views id ≡ some v) (has : v.turn ≡ Some turn) where
    abbrev k : Machine S
    k = state_of m kept.log

    abbrev w : CellView S A R
    w = record v { turn = with_phase value v.turn }

    fits : FitsTurn layout (unreclaimed death_side s.views k) s.words turn
    fits = kept.turns.each id v turn at has

    -- as many have each slot reclaimed
    same_slot : (p : ℕ) → (unreclaimed death_side (set s.views id w) k).slot p ≡ (unreclaimed death_side s.views k).slot p
    same_slot p = ap (λ n. slot_by n (k.slot p)) (gone_same m digest layout s.views id v w at refl p)

    abbrev ws : List ℕ
    ws = set s.words (field_at layout Slots turn.slot phase_field) value

    other : (j : ℕ) → j ≢ field_at layout Slots turn.slot phase_field → slice_index ws j ≡ slice_index s.words j
    other j ne = other_word m digest layout s kept turn.slot phase_field value fits.exists (inr refl) j ne

    has_same : (p : ℕ) → has_turn p w.turn ≡ has_turn p v.turn
    has_same p = ap (λ t. has_turn p (with_phase value t)) has ∙ sym (ap (has_turn p) has)

    holders_same : (p : ℕ) → turn_holders turn_side (set s.views id w) p ≡ turn_holders turn_side s.views p
    holders_same p = let more = sum-set (λ (u : CellView S A R). has_turn p u.turn) s.views id v w at in let one = has_same p in omega (arith, more, one)

    held : turn_holders turn_side (set s.views id w) turn.slot ≡ 1
    held = holders_same turn.slot ∙ turn_held turn_side layout (unreclaimed death_side s.views k) s.words s.homes s.views id v turn kept.turns at has

    turns : Turns turn_side layout (unreclaimed death_side (set s.views id w) k) ws s.homes (set s.views id w)
    turns = turns-changed turn_side layout (unreclaimed death_side s.views k) (unreclaimed death_side (set s.views id w) k) s.words ws s.homes s.homes s.views id v w turn.slot kept.turns at (record {
      reach = refl;
      turn = λ p h ne. other (field_at layout Slots p turn_field) (λ e. absurd (omega (arith, e)));
      phase = λ p h ne. other (field_at layout Slots p phase_field) (λ e. absurd (ne (omega (arith, e))));
      home = λ p ne. refl;
      slots = λ p ne. inl (same_slot p);
      has = λ p ne. has_same p;
      others = λ j u theirs ne e theirs_is same.
          ne (sym (turns_alone turn_side layout (unreclaimed death_side s.views k) s.words s.homes s.views id j v u turn theirs kept.turns at e has theirs_is (sym same)));
      says = other (field_at layout Slots turn.slot turn_field) (λ e. absurd (omega (arith, e))) ∙ (kept.turns.says turn.slot fits.exists ∙ sym (holders_same turn.slot));
      alone = (let one = held in omega (arith, one));
      at_home = λ none. absurd (let one = held in omega (arith, one, none));
      mine = λ turn' is.
          let same : Some (record turn { phase = value }) ≡ Some turn' = sym (ap (with_phase value) has) ∙ is in
          let now : record turn { phase = value } ≡ turn' = cc in
          subst (FitsTurn layout (unreclaimed death_side (set s.views id w) k) ws) now (record {
            exists = fits.exists;
            phase = get_or-set_same s.words (field_at layout Slots turn.slot phase_field) value 0
                (let reach = field_reach layout Slots turn.slot phase_field fits.exists (omega arith) in let long = kept.connections.reach in omega (arith, reach, long));
            stays = subst (StaysAt turn.was) (sym (same_slot turn.slot)) fits.stays;
          });
    })

    -- the pass is ahead of what it was
    phase_ahead : (turn' : Option (Turn S)) → SameAhead turn' (with_phase value turn')
    phase_ahead None = same_ahead None None refl
    phase_ahead (Some t) = record {
      on = λ slot field is.
          let same : t ≡ is.mine = (let e = is.has in cc) in
          record {
            mine = record t { phase = value };
            has = refl;
            there = ap (λ (y : Turn S). y.slot) same ∙ is.there;
            note = is.note;
            ahead = ap (λ (y : Turn S). y.ahead) same ∙ is.ahead;
            field_is = is.field_is;
          };
      was = λ turn' note has' ahead.
          let same : record t { phase = value } ≡ turn' = cc in
          (t, refl, ap (λ (y : Turn S). y.slot) same, ap (λ (y : Turn S). y.ahead) same ∙ ahead);
      told = λ turn' said has' is.
          let same : record t { phase = value } ≡ turn' = cc in
          (t, refl, ap (λ (y : Turn S). y.slot) same, ap (λ (y : Turn S). y.was) same, ap (λ (y : Turn S). y.said) same ∙ is);
    }

    pub phase_stored : 1 ≤ length v.seats.readers → IsCells m digest layout (record { words = ws; homes = s.homes; views = set s.views id w })
    phase_stored seated = turn_step m digest layout s kept turn.slot phase_field value fits.exists (inr refl) id v w s.homes at refl refl refl refl
        (phase_ahead v.turn) (alone_still v w (kept.alone id v at) seated refl (λ none. none)) turns
