-- A load of a node's state or parent, or of a connection's phase or note, keeps the rule.
use Rattle.std.proofs.{Common.{◌≡◌, ℕ, ◌<◌, ◌≤◌, true, Some, None, List, set, slice_index, refl, sym, ap, ◌∙◌, subst, ⊎_elim, arith}, lemmas.List.set-get_or}
use mathlib.Core.Option.{some, some-injective}
use lib.ListN.{get_elem?}
use Rattle.atomic_table.{specs.Table.{State, Me, Step, Allows, stepped, keeps}, proofs.Lists.{at_map, set_again}}
use Rattle.npf_types.specs.declared.key.Key.{Key}
use Rattle.npf_core.specs.{declared.slot.Slot.Slot, History.state_of, Machine.{Machine, Holds}, Meaning.Meaning}
use Rattle.npf_cells_words.specs.declared.layout.{Layout.Layout, Pool.{Pool, TheVariants.{Slots, Nodes}}}
use Rattle.npf_cells_words.specs.Layout.{phase_field, notes_field, note_field, field_at, field_count}
use Rattle.npf_cells_lives.{specs.{declared.turn.Turn.Turn, Deaths.{unreclaimed, last_id}, Notes.{note_word, NobodyAhead}}, proofs.FreedLemmas.still_there}
use Rattle.npf_cells_lives.{specs.Turns.{Running, stage_phase}, proofs.TurnLemmas.turns_alone}
use Rattle.npf_cells_rule.{specs.{NoteLaw.NamesEnd, Views.{seat_side, turn_side, death_side}}, proofs.NoteLawLemmas.{code_above, names_end}}
use Rattle.npf_cells_rule.{specs.{declared.view.CellView.CellView, Cells.IsCells}, proofs.StoodLemmas.stood_so}
use Rattle.npf_cells_turns.specs.WordKinds.{ShowsByTurn, ShowsNote, IsLoadField, ShowsPhase, LoadsWord}

-- such a field is one of the place's words
pub field_within : (pool : Pool) (field : ℕ) → IsLoadField pool field → field < field_count pool
field_within Slots field is = ⊎_elim (λ (same : field ≡ phase_field). omega (arith, same)) (λ (note : (notes_field ≤ field) × (field < field_count Slots)). note.1) is
field_within Nodes field is = is.1

module _ {S A R : Type 0} (m : Meaning S A R) (digest : Key → ℕ) (layout : Layout) where
  -- a step in which nothing changes keeps the rule
  pub still : (s : State (Running S) (CellView S A R)) (i id : ℕ) (c : List (ℕ × Running S)) (v : CellView S A R) → IsCells m digest layout s →
      get_elem? s.views id ≡ some v → IsCells m digest layout (stepped s i (slice_index s.words i) id c v keeps)
  still s i id c v kept at =
      subst (λ (vs : List (CellView S A R)). IsCells m digest layout (record { words = set s.words i (slice_index s.words i); homes = s.homes; views = vs })) (sym (set_again s.views id v at))
      (subst (λ (ws : List ℕ). IsCells m digest layout (record { words = ws; homes = s.homes; views = s.views })) (sym (set-get_or s.words i 0)) kept)

  shows_phase : (s : State (Running S) (CellView S A R)) (id : ℕ) (v : CellView S A R) (kept : IsCells m digest layout s) → get_elem? s.views id ≡ some v → (pool : Pool) (place field : ℕ) →
      ShowsPhase v.turn pool place field (slice_index s.words (field_at layout pool place field))
  shows_phase s id v kept at Slots slot field = λ turn has there phase. ap (slice_index s.words) (λ i. field_at layout Slots (sym there i) (phase i)) ∙ (kept.turns.each id v turn at has).phase
  shows_phase s id v kept at Nodes node field = tt

  pub shows_note : (s : State (Running S) (CellView S A R)) (id : ℕ) (v : CellView S A R) (kept : IsCells m digest layout s) → get_elem? s.views id ≡ some v → (pool : Pool) (place field : ℕ) →
      ShowsNote v.pools.notes pool place field (slice_index s.words (field_at layout pool place field))
  shows_note s id v kept at Slots slot field = λ value c. let fits = kept.notes.each id v (record { slot = slot; field = field; value = value }) at c in
      ap (λ f. slice_index s.words (field_at layout Slots slot f)) fits.field_is ∙ fits.stands
  shows_note s id v kept at Nodes node field = tt

  -- while a pass that has a slot's turn is ahead of none of its notes, nobody is
  pub own_alone : (s : State (Running S) (CellView S A R)) (id : ℕ) (v : CellView S A R) (turn : Turn S) (kept : IsCells m digest layout s) →
      get_elem? s.views id ≡ some v → v.turn ≡ Some turn → turn.ahead ≡ None → (slot field : ℕ) → turn.slot ≡ slot →
      NobodyAhead turn_side s.views slot field
  own_alone s id v turn kept at has settled slot field there j u e a =
      let same : j ≡ id =
      turns_alone turn_side layout (unreclaimed death_side s.views (state_of m kept.log)) s.words s.homes s.views j id u v a.mine turn kept.turns e at a.has has (a.there ∙ sym there) in
      let one : u ≡ v = some-injective u v (sym e ∙ (ap (get_elem? s.views) same ∙ at)) in
      let turns : a.mine ≡ turn = (let d : Some a.mine ≡ Some turn = sym a.has ∙ (ap (λ (y : CellView S A R). y.turn) one ∙ has) in cc) in
      let no : None ≡ Some a.note = sym settled ∙ (ap (λ (t : Turn S). t.ahead) (sym turns) ∙ a.ahead) in
      cc

  pub shows_by_turn : (s : State (Running S) (CellView S A R)) (id : ℕ) (v : CellView S A R) (kept : IsCells m digest layout s) →
      get_elem? s.views id ≡ some v → v.seats.lives ≡ true → (pool : Pool) (place field : ℕ) →
      ShowsByTurn m digest layout v pool place field (slice_index s.words (field_at layout pool place field))
  shows_by_turn s id v kept at lives Slots slot field = λ turn way has there settled live is.
      let k : Machine S = state_of m kept.log in
      let fits = kept.turns.each id v turn at has in
      let same : k.slot turn.slot ≡ turn.was = (still_there death_side s.views k turn.slot turn.was fits.stays (λ idle. absurd (let no : 1 ≡ 0 = sym live ∙ idle in cc))).0 in
      let now : stage_phase (k.slot slot).stage ≡ 1 = ap (λ p. stage_phase (k.slot p).stage) (sym there) ∙ (ap (λ (x : Slot S). stage_phase x.stage) same ∙ live) in
      let nobody : NobodyAhead turn_side s.views slot (note_field way) = own_alone s id v turn kept at has settled slot (note_field way) there in
      let noted : slice_index s.words (field_at layout Slots slot field) ≡ note_word layout s.words slot way = ap (λ f. slice_index s.words (field_at layout Slots slot f)) is in
      let names : (key : Key) → Holds k (last_id k slot) way key → NamesEnd digest layout s.words key (slice_index s.words (field_at layout Slots slot field)) =
      (λ key holds. subst (NamesEnd digest layout s.words key) (sym noted) (names_end m layout digest s kept slot way key nobody holds)) in
      record {
        state = s;
        rule = kept;
        seated = ap (get_elem? s.views) (((kept.seats.each id v.seats (at_map seat_side s.views id v at)).lives lives).number) ∙ at;
        zero = (
          λ none key holds. (let end = names key holds in let some' = code_above end.place in absurd (omega (arith, none, end.names, some'))),
          λ none. noted ∙ kept.notes.bare slot way (subst (λ p. p < layout.slots) there fits.exists) now none,
        );
        names = names;
      }
  shows_by_turn s id v kept at lives Nodes node field = tt

  pub may_load_word : (st : Step (Running S)) (id n : ℕ) (pool : Pool) (place field : ℕ) (me : Me (Running S) (CellView S A R)) → me.0.seats.lives ≡ true →
      Allows (IsCells m digest layout) n id me (field_at layout pool place field) (λ k. k) (LoadsWord m digest layout pool place field st me)
  may_load_word st id n pool place field me lives s kept homes at bound =
      let i = field_at layout pool place field in (
        me.0,
        keeps,
        tt,
        still s i id me.1 me.0 kept at,
        record {
          is = refl;
          stored = λ n e. (kept.stored id me.0 at).stands i n e;
          by_turn = shows_by_turn s id me.0 kept at lives pool place field;
          noted = shows_note s id me.0 kept at pool place field;
          phase = shows_phase s id me.0 kept at pool place field;
          stood = stood_so m digest layout s id me.0 i i kept at lives refl;
        },
      )
