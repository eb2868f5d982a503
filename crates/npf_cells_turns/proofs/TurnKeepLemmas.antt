-- A try to get a slot's turn keeps the rule.
use Rattle.std.proofs.Common.{◌≡◌, ◌≢◌, ℕ, ◌<◌, ◌≤◌, true, eqb, Some, None, List, [], set, length, slice_index, refl, sym, ap, ◌∙◌, subst, inl, arith, length-set}
use Rattle.std.proofs.lemmas.List.{get_or-set_same}
use mathlib.Core.Option.{none, some}
use lib.ListN.{get_elem?}
use prog.Atomic.{either}
use Rattle.atomic_table.{specs.Table.{State, Me, Act, Step, stepped, Allows, Valid, carried_after, keeps, takes}, proofs.Lists.{exchanged, set_else}}
use Rattle.npf_types.specs.declared.key.Key.{Key}
use Rattle.npf_core.specs.{History.state_of, Machine.Machine, Meaning.Meaning}
use Rattle.npf_cells_words.specs.{declared.layout.{Layout.Layout, Pool.TheVariants.Slots}, Layout.{turn_field, phase_field, field_at}}
use Rattle.npf_cells_words.proofs.WordLemmas.{field_reach}
use Rattle.npf_seats.proofs.SumLemmas.{sum-set, one_of_sum}
use Rattle.npf_cells_lives.specs.{declared.turn.Turn.Turn, Deaths.unreclaimed}
use Rattle.npf_cells_lives.{specs.Turns.{Homes, Running, running, has_turn, turn_holders, StaysAt, FitsTurn, IsAtHome, Turns}, proofs.FreedLemmas.freed_stays}
use Rattle.npf_cells_lives.proofs.{NoteLemmas.{SameAhead, ahead_of_none}, TurnLemmas.{has_once, has_none, turns-changed}}
use Rattle.npf_cells_rule.{specs.{declared.view.CellView.CellView, Cells.IsCells, Views.{turn_side, death_side}}, proofs.DeathFrames.gone_same}
use Rattle.npf_cells_rule.proofs.{Frames.alone_still, StoodLemmas.stood_so, TurnFrames.{other_word, turn_step}}
use Rattle.npf_cells_turns.{specs.TurnKinds.{turn_at, TriesTurn}, proofs.WordKeepLemmas.still}

module _ {S A R : Type 0} (m : Meaning S A R) (digest : Key → ℕ) (layout : Layout) where
  module _ (s : State (Running S) (CellView S A R)) (kept : IsCells m digest layout s) (id slot : ℕ) (v : CellView S A R) (at : get_elem? s.views id ≡ some v)
      (within : slot < layout.slots) (turnless : v.turn ≡ None) (free : slice_index s.words (field_at layout Slots slot turn_field) ≡ 0) where
    abbrev k : Machine S
    k = state_of m kept.log

    -- the connections as turns see them
    abbrev free_k : Machine S
    free_k = unreclaimed death_side s.views k

    abbrev turn : Turn S
    turn = turn_at slot (free_k.slot slot)

    abbrev taker : CellView S A R
    taker = record v { turn = Some turn }

    abbrev ws : List ℕ
    ws = set s.words (field_at layout Slots slot turn_field) 1

    abbrev homes' : Homes S
    homes' = set s.homes slot none

    abbrev free_k' : Machine S
    free_k' = unreclaimed death_side (set s.views id taker) k

    same_slot : (p : ℕ) → StaysAt (free_k.slot p) (free_k'.slot p)
    same_slot p = freed_stays death_side s.views (set s.views id taker) k k p (gone_same m digest layout s.views id v taker at refl p) (inl refl)

    other : (j : ℕ) → j ≢ field_at layout Slots slot turn_field → slice_index ws j ≡ slice_index s.words j
    other j ne = other_word m digest layout s kept slot turn_field 1 within (inl refl) j ne

    -- nobody had the turn, so what the slot holds is at home
    none_had : turn_holders turn_side s.views slot ≡ 0
    none_had = sym (kept.turns.says slot within) ∙ free

    pub home : IsAtHome layout free_k s.words s.homes slot
    home = kept.turns.home slot within none_had

    -- the pass alone has it then
    one_has : turn_holders turn_side (set s.views id taker) slot ≡ 1
    one_has =
        let more = sum-set (λ (u : CellView S A R). has_turn slot u.turn) s.views id v taker at in
        let before : has_turn slot v.turn ≡ 0 = ap (has_turn slot) turnless in
        let now : has_turn slot (Some turn) ≡ 1 = has_once turn in
        let none' = none_had in
        omega (arith, more, before, now, none')

    turns : Turns turn_side layout free_k' ws homes' (set s.views id taker)
    turns = turns-changed turn_side layout free_k free_k' s.words ws s.homes homes' s.views id v taker slot kept.turns at (record {
      reach = length-set s.homes slot none;
      turn = λ p h ne. other (field_at layout Slots p turn_field) (λ e. absurd (ne (omega (arith, e))));
      phase = λ p h ne. other (field_at layout Slots p phase_field) (λ e. absurd (omega (arith, e)));
      home = λ p ne. set_else s.homes slot p none ne;
      slots = λ p ne. same_slot p;
      has = λ p ne. has_none turn p (λ e. ne (sym e)) ∙ sym (ap (has_turn p) turnless);
      others = λ j u theirs ne e has same.
          let mine = one_of_sum (λ (x : CellView S A R). has_turn slot x.turn) s.views j u e in
          let once : has_turn slot u.turn ≡ 1 = ap (has_turn slot) has ∙ (ap (λ p. has_turn p (Some theirs)) (sym same) ∙ has_once theirs) in
          let none' = none_had in
          absurd (omega (arith, mine, once, none'));
      says = get_or-set_same s.words (field_at layout Slots slot turn_field) 1 0 (let reach = field_reach layout Slots slot turn_field within (omega arith) in
          let long = kept.connections.reach in omega (arith, reach, long)) ∙ sym one_has;
      alone = (let one = one_has in omega (arith, one));
      at_home = λ none'. absurd (let one = one_has in omega (arith, one, none'));
      mine = λ turn' is.
          let same : turn ≡ turn' = cc in
          subst (FitsTurn layout free_k' ws) same (record {
            exists = within;
            phase = other (field_at layout Slots slot phase_field) (λ e. absurd (omega (arith, e))) ∙ home.phase;
            stays = same_slot slot;
          });
    })

    ahead_none : SameAhead v.turn (Some turn)
    ahead_none = ahead_of_none v.turn (Some turn) (λ t is. absurd (let no : None ≡ Some t = sym turnless ∙ is in cc)) (λ t is. let same : turn ≡ t = cc in
        ap (λ (y : Turn S). y.ahead) (sym same)) (λ t is. let same : turn ≡ t = cc in ap (λ (y : Turn S). y.said) (sym same))

    pub got : 1 ≤ length v.seats.readers → IsCells m digest layout (record { words = ws; homes = homes'; views = set s.views id taker })
    got seated = turn_step m digest layout s kept slot turn_field 1 within (inl refl) id v taker homes' at refl refl refl refl ahead_none
        (alone_still v taker (kept.alone id v at) seated refl (λ none'. none')) turns

  -- a try that makes the word of the turn this
  abbrev TurnTry : (st : Step (Running S)) (id slot : ℕ) (v : CellView S A R) (s : State (Running S) (CellView S A R)) → ℕ → Type 0
  TurnTry st id slot v s n = (w : CellView S A R) × (a : Act (Running S)) × Valid s.homes [] a × IsCells m digest layout (stepped s (field_at layout Slots slot turn_field) n id [] w a)
      × TriesTurn m digest layout slot st (v, []) (slice_index s.words (field_at layout Slots slot turn_field)) (w, carried_after [] a)

  tries : (st : Step (Running S)) (id n slot : ℕ) (v : CellView S A R) → v.seats.lives ≡ true → 1 ≤ length v.seats.readers → slot < layout.slots → v.turn ≡ None →
      Allows (IsCells m digest layout) n id (v, []) (field_at layout Slots slot turn_field) (λ x. either (eqb x 0) 1 x) (TriesTurn m digest layout slot st (v, []))
  tries st id n slot v lives seated within turnless s kept homes at bound = exchanged (slice_index s.words (field_at layout Slots slot turn_field)) 0 1 (TurnTry st id slot v s)
      (λ free.
      let x = (unreclaimed death_side s.views (state_of m kept.log)).slot slot in (
        taker s kept id slot v at within turnless free,
        takes slot (running x.stage),
        (home s kept id slot v at within turnless free).there,
        got s kept id slot v at within turnless free seated,
        record {
          stood = stood_so m digest layout s id v (field_at layout Slots slot turn_field) (field_at layout Slots slot turn_field) kept at lives refl;
          won = λ _. record { was = x; is = refl };
          lost = λ taken. absurd (taken free);
        },
      ))
      (λ taken. (
        v,
        keeps,
        tt,
        still m digest layout s (field_at layout Slots slot turn_field) id [] v kept at,
        record {
          stood = stood_so m digest layout s id v (field_at layout Slots slot turn_field) (field_at layout Slots slot turn_field) kept at lives refl;
          won = λ free. absurd (taken free);
          lost = λ _. refl;
        },
      ))

  pub may_take : (st : Step (Running S)) (id n slot : ℕ) (me : Me (Running S) (CellView S A R)) → me.0.seats.lives ≡ true →
      1 ≤ length me.0.seats.readers → slot < layout.slots → me.0.turn ≡ None → me.1 ≡ [] →
      Allows (IsCells m digest layout) n id me (field_at layout Slots slot turn_field) (λ x. either (eqb x 0) 1 x) (TriesTurn m digest layout slot st me)
  may_take st id n slot me lives seated within turnless free =
      subst (λ (y : Me (Running S) (CellView S A R)). Allows (IsCells m digest layout) n id y (field_at layout Slots slot turn_field)
      (λ x. either (eqb x 0) 1 x) (TriesTurn m digest layout slot st y)) (λ i. (me.0, sym free i))
      (tries st id n slot me.0 lives seated within turnless)
