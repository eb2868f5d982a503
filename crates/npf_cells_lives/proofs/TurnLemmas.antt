-- The part on turns stays through steps that leave its words, and through one that changes who has the turn of a slot.
use Rattle.std.proofs.Common.{◌≡◌, ◌≢◌, ℕ, ◌<◌, ◌≤◌, cond, eq-eqb, ne_eqb, Option, Some, None, List, [], ◌∷◌, ◌++◌, set, length, refl, sym, ap, ◌∙◌, subst, ⊎_elim, inl, inr, arith}
use Rattle.std.proofs.lemmas.{Bool.cases_eq, List.Sums.sum_by_push}
use mathlib.Core.Option.{some}
use lib.ListN.{get_elem?}
use Rattle.atomic_table.proofs.Lists.{at_set, at_snoc}
use Rattle.npf_core.specs.{declared.{slot.Slot.Slot, stage.Stage.{Stage, TheVariants.{Vacant, Building, Live, Dead}}}, Machine.Machine}
use Rattle.npf_cells_words.specs.declared.layout.Layout.{Layout}
use Rattle.npf_seats.proofs.SumLemmas.{sum-set, one_of_sum, two_of_sum}
use Rattle.npf_cells_lives.specs.{declared.turn.Turn.Turn, LivesLaw.TurnAlone}
use Rattle.npf_cells_lives.specs.Turns.{Homes, running, stage_phase, turn_word, phase_word, has_turn, turn_holders, StaysAt, FitsTurn, IsAtHome, Turns}

-- a slot whose phase is 0 holds nothing
nothing_runs : {S : Type 0} (stage : Stage S) → stage_phase stage ≡ 0 → running stage ≡ None
nothing_runs Vacant e = refl
nothing_runs (Building seat) e = refl
nothing_runs (Live flow steps) e = absurd cc
nothing_runs Dead e = refl

pub phase_stays : {S : Type 0} (was now : Slot S) → StaysAt was now → stage_phase now.stage ≡ stage_phase was.stage
phase_stays {S} was now stays = ⊎_elim (λ (same : now ≡ was). ap (λ (x : Slot S). stage_phase x.stage) same)
    (λ (none : (stage_phase was.stage ≡ 0) × (stage_phase now.stage ≡ 0)). none.1 ∙ sym none.0) stays

pub running_stays : {S : Type 0} (was now : Slot S) → StaysAt was now → running now.stage ≡ running was.stage
running_stays {S} was now stays = ⊎_elim
    (λ (same : now ≡ was). ap (λ (x : Slot S). running x.stage) same)
    (λ (none : (stage_phase was.stage ≡ 0) × (stage_phase now.stage ≡ 0)). nothing_runs now.stage none.1 ∙ sym (nothing_runs was.stage none.0))
    stays

stays_on : {S : Type 0} (x y z : Slot S) → StaysAt x y → StaysAt y z → StaysAt x z
stays_on {S} x y z first second = ⊎_elim
    (λ (same : y ≡ x). subst (λ (a : Slot S). StaysAt a z) same second)
    (λ (none : (stage_phase x.stage ≡ 0) × (stage_phase y.stage ≡ 0)). inr (none.0, phase_stays y z second ∙ none.1))
    first

-- who has a slot's turn has it once
pub has_once : {S : Type 0} (turn : Turn S) → has_turn turn.slot (Some turn) ≡ 1
has_once turn = ap (λ b. cond b 1 0) (eq-eqb turn.slot turn.slot refl)

pub has_none : {S : Type 0} (turn : Turn S) (slot : ℕ) → turn.slot ≢ slot → has_turn slot (Some turn) ≡ 0
has_none turn slot ne = ap (λ b. cond b 1 0) (ne_eqb turn.slot slot ne)

module _ {S V : Type 0} (turn_of : V → Option (Turn S)) (layout : Layout) where
  -- the words of turns and of phases are the same, and each slot is still at what it was
  pub record TurnsStay (k k' : Machine S) (words words' : List ℕ) : Type 0 where
    pub turn : (slot : ℕ) → slot < layout.slots → turn_word layout words' slot ≡ turn_word layout words slot
    pub phase : (slot : ℕ) → slot < layout.slots → phase_word layout words' slot ≡ phase_word layout words slot
    pub slots : (slot : ℕ) → StaysAt (k.slot slot) (k'.slot slot)

  fits_stay : (k k' : Machine S) (words words' : List ℕ) → TurnsStay k k' words words' → (turn : Turn S) → FitsTurn layout k words turn → FitsTurn layout k' words' turn
  fits_stay k k' words words' same turn fits = record {
    exists = fits.exists;
    phase = same.phase turn.slot fits.exists ∙ fits.phase;
    stays = stays_on turn.was (k.slot turn.slot) (k'.slot turn.slot) fits.stays (same.slots turn.slot);
  }

  -- the part after such a step, where who has a turn is the same
  pub turns_so : (k k' : Machine S) (words words' : List ℕ) (homes : Homes S) (views views' : List V) → Turns turn_of layout k words homes views → TurnsStay k k' words words' →
      ((slot : ℕ) → turn_holders turn_of views' slot ≡ turn_holders turn_of views slot) →
      ((j : ℕ) (v : V) (turn : Turn S) → get_elem? views' j ≡ some v → turn_of v ≡ Some turn → FitsTurn layout k words turn) →
      Turns turn_of layout k' words' homes views'
  turns_so k k' words words' homes views views' kept same holders each = record {
    reach = kept.reach;
    says = λ slot h. same.turn slot h ∙ (kept.says slot h ∙ sym (holders slot));
    alone = λ slot h. subst (λ n. n ≤ 1) (sym (holders slot)) (kept.alone slot h);
    home = λ slot h free.
        let was = kept.home slot h (sym (holders slot) ∙ free) in
        record {
          there = was.there ∙ ap (λ x. some (some x)) (sym (running_stays (k.slot slot) (k'.slot slot) (same.slots slot)));
          phase = same.phase slot h ∙ (was.phase ∙ sym (phase_stays (k.slot slot) (k'.slot slot) (same.slots slot)));
        };
    each = λ j v turn there has. fits_stay k k' words words' same turn (each j v turn there has);
  }

  holders-set : (views : List V) (i : ℕ) (v w : V) → get_elem? views i ≡ some v → turn_of w ≡ turn_of v → (slot : ℕ) → turn_holders turn_of (set views i w) slot ≡ turn_holders turn_of views slot
  holders-set views i v w at same slot =
      let more = sum-set (λ (u : V). has_turn slot (turn_of u)) views i v w at in
      let one = ap (has_turn slot) same in
      omega (arith, more, one)

  each-set : (k : Machine S) (words : List ℕ) (homes : Homes S) (views : List V) (i : ℕ) (v w : V) → Turns turn_of layout k words homes views → get_elem? views i ≡ some v → turn_of w ≡ turn_of v →
      (j : ℕ) (u : V) (turn : Turn S) → get_elem? (set views i w) j ≡ some u → turn_of u ≡ Some turn → FitsTurn layout k words turn
  each-set k words homes views i v w kept at same j u turn e has = ⊎_elim
      (λ (x : (j ≡ i) × (w ≡ u)). kept.each i v turn at (sym same ∙ (ap turn_of x.1 ∙ has)))
      (λ (x : (j ≢ i) × (get_elem? views j ≡ some u)). kept.each j u turn x.1 has)
      (at_set views i j w u e)

  -- one view changes, and has the turn that it had
  pub turns-kept : (k k' : Machine S) (words words' : List ℕ) (homes : Homes S) (views : List V) (i : ℕ) (v w : V) →
      Turns turn_of layout k words homes views → get_elem? views i ≡ some v → turn_of w ≡ turn_of v →
      TurnsStay k k' words words' → Turns turn_of layout k' words' homes (set views i w)
  turns-kept k k' words words' homes views i v w kept at same stay =
      turns_so k k' words words' homes views (set views i w) kept stay (holders-set views i v w at same) (each-set k words homes views i v w kept at same)

  -- one view changes, which has a turn of the same slot, that fits
  pub turns-like : (k k' : Machine S) (words words' : List ℕ) (homes : Homes S) (views : List V) (i : ℕ) (v w : V) → Turns turn_of layout k words homes views →
      get_elem? views i ≡ some v → ((slot : ℕ) → has_turn slot (turn_of w) ≡ has_turn slot (turn_of v)) →
      ((turn : Turn S) → turn_of w ≡ Some turn → FitsTurn layout k words turn) → TurnsStay k k' words words' → Turns turn_of layout k' words' homes (set views i w)
  turns-like k k' words words' homes views i v w kept at same fits stay =
      turns_so k k' words words' homes views (set views i w) kept stay
      (λ slot. (let more = sum-set (λ (u : V). has_turn slot (turn_of u)) views i v w at in let one = same slot in omega (arith, more, one)))
      (λ j u turn e has. ⊎_elim
      (λ (x : (j ≡ i) × (w ≡ u)). fits turn (ap turn_of x.1 ∙ has))
      (λ (x : (j ≢ i) × (get_elem? views j ≡ some u)). kept.each j u turn x.1 has)
      (at_set views i j w u e))

  -- a view comes that has no turn
  pub turns-push : (k : Machine S) (words : List ℕ) (homes : Homes S) (views : List V) (w : V) →
      Turns turn_of layout k words homes views → turn_of w ≡ None → Turns turn_of layout k words homes (views ++ w ∷ [])
  turns-push k words homes views w kept none = turns_so k k words words homes views (views ++ w ∷ []) kept (record { turn = λ slot h. refl; phase = λ slot h. refl; slots = λ slot. inl refl })
      (λ slot. (let more = sum_by_push (λ (u : V). has_turn slot (turn_of u)) views w in
      let no : has_turn slot (turn_of w) ≡ 0 = ap (has_turn slot) none in
      omega (arith, more, no)))
      (λ j u turn e has. ⊎_elim
      (λ (there : get_elem? views j ≡ some u). kept.each j u turn there has)
      (λ (x : w ≡ u). absurd (let no : None ≡ Some turn = sym none ∙ (ap turn_of x ∙ has) in cc))
      (at_snoc views w u j e))

  -- the turn of a pass is had once
  pub turn_held : (k : Machine S) (words : List ℕ) (homes : Homes S) (views : List V) (i : ℕ) (v : V) (turn : Turn S) →
      Turns turn_of layout k words homes views → get_elem? views i ≡ some v → turn_of v ≡ Some turn →
      turn_holders turn_of views turn.slot ≡ 1
  turn_held k words homes views i v turn kept at has =
      let most = kept.alone turn.slot (kept.each i v turn at has).exists in
      let mine = one_of_sum (λ (u : V). has_turn turn.slot (turn_of u)) views i v at in
      let once : has_turn turn.slot (turn_of v) ≡ 1 = ap (has_turn turn.slot) has ∙ has_once turn in
      omega (arith, most, mine, once)

  -- two passes don't have one slot's turn
  pub turns_alone : (k : Machine S) (words : List ℕ) (homes : Homes S) (views : List V) (i j : ℕ) (v w : V) (mine theirs : Turn S) → Turns turn_of layout k words homes views →
      get_elem? views i ≡ some v → get_elem? views j ≡ some w → turn_of v ≡ Some mine → turn_of w ≡ Some theirs → mine.slot ≡ theirs.slot → i ≡ j
  turns_alone k words homes views i j v w mine theirs kept at there a b same = ⊎_elim
      (λ e. e)
      (λ (ne : i ≢ j).
      let both = two_of_sum (λ (u : V). has_turn mine.slot (turn_of u)) views i j v w at there ne in
      let one : has_turn mine.slot (turn_of v) ≡ 1 = ap (has_turn mine.slot) a ∙ has_once mine in
      let two : has_turn mine.slot (turn_of w) ≡ 1 = ap (has_turn mine.slot) b ∙ (ap (λ slot. has_turn slot (Some theirs)) same ∙ has_once theirs) in
      let most = kept.alone mine.slot (kept.each i v mine at a).exists in
      absurd (omega (arith, both, one, two, most)))
      (cases_eq i j)

  -- one slot changes: its words, its value, what it is at, and who of a seat has its turn. Nobody else has it
  pub record Changes (k k' : Machine S) (words words' : List ℕ) (homes homes' : Homes S) (views : List V) (id : ℕ) (v w : V) (slot : ℕ) : Type 0 where
    pub reach : length homes' ≡ length homes
    pub turn : (p : ℕ) → p < layout.slots → p ≢ slot → turn_word layout words' p ≡ turn_word layout words p
    pub phase : (p : ℕ) → p < layout.slots → p ≢ slot → phase_word layout words' p ≡ phase_word layout words p
    pub home : (p : ℕ) → p ≢ slot → get_elem? homes' p ≡ get_elem? homes p
    pub slots : (p : ℕ) → p ≢ slot → StaysAt (k.slot p) (k'.slot p)
    pub has : (p : ℕ) → p ≢ slot → has_turn p (turn_of w) ≡ has_turn p (turn_of v)
    pub others : (j : ℕ) (u : V) (theirs : Turn S) → j ≢ id → get_elem? views j ≡ some u → turn_of u ≡ Some theirs → theirs.slot ≢ slot
    pub says : turn_word layout words' slot ≡ turn_holders turn_of (set views id w) slot
    pub alone : turn_holders turn_of (set views id w) slot ≤ 1
    pub at_home : turn_holders turn_of (set views id w) slot ≡ 0 → IsAtHome layout k' words' homes' slot
    pub mine : (turn' : Turn S) → turn_of w ≡ Some turn' → FitsTurn layout k' words' turn'

  pub turns-changed : (k k' : Machine S) (words words' : List ℕ) (homes homes' : Homes S) (views : List V) (id : ℕ) (v w : V) (slot : ℕ) →
      Turns turn_of layout k words homes views → get_elem? views id ≡ some v →
      Changes k k' words words' homes homes' views id v w slot → Turns turn_of layout k' words' homes' (set views id w)
  turns-changed k k' words words' homes homes' views id v w slot kept at change = record {
    reach = change.reach ∙ kept.reach;
    says = λ p h. ⊎_elim
        (λ (e : p ≡ slot). subst (λ n. turn_word layout words' n ≡ turn_holders turn_of (set views id w) n) (sym e) change.says)
        (λ (ne : p ≢ slot). change.turn p h ne ∙ (kept.says p h ∙ sym (holders p ne)))
        (cases_eq p slot);
    alone = λ p h. ⊎_elim
        (λ (e : p ≡ slot). subst (λ n. turn_holders turn_of (set views id w) n ≤ 1) (sym e) change.alone)
        (λ (ne : p ≢ slot). subst (λ n. n ≤ 1) (sym (holders p ne)) (kept.alone p h))
        (cases_eq p slot);
    home = λ p h free. ⊎_elim
        (λ (e : p ≡ slot). subst (λ n. IsAtHome layout k' words' homes' n) (sym e) (change.at_home (ap (turn_holders turn_of (set views id w)) (sym e) ∙ free)))
        (λ (ne : p ≢ slot).
        let was = kept.home p h (sym (holders p ne) ∙ free) in
        record {
          there = change.home p ne ∙ (was.there ∙ ap (λ x. some (some x)) (sym (running_stays (k.slot p) (k'.slot p) (change.slots p ne))));
          phase = change.phase p h ne ∙ (was.phase ∙ sym (phase_stays (k.slot p) (k'.slot p) (change.slots p ne)));
        })
        (cases_eq p slot);
    each = λ j u turn e has. ⊎_elim
        (λ (x : (j ≡ id) × (w ≡ u)). change.mine turn (ap turn_of x.1 ∙ has))
        (λ (x : (j ≢ id) × (get_elem? views j ≡ some u)).
        let was = kept.each j u turn x.1 has in
        let ne = change.others j u turn x.0 x.1 has in
        record {
          exists = was.exists;
          phase = change.phase turn.slot was.exists ne ∙ was.phase;
          stays = stays_on turn.was (k.slot turn.slot) (k'.slot turn.slot) was.stays (change.slots turn.slot ne);
        })
        (at_set views id j w u e);
  }
    where
      holders : (p : ℕ) → p ≢ slot → turn_holders turn_of (set views id w) p ≡ turn_holders turn_of views p
      holders p ne =
          let more = sum-set (λ (u : V). has_turn p (turn_of u)) views id v w at in
          let one = change.has p ne in
          omega (arith, more, one)

pub turn_alone : (layout : Layout) → {S : Type 0} → TurnAlone S layout
turn_alone layout k words homes turns i j mine theirs kept at there same = turns_alone (λ x. x) layout k words homes turns i j (Some mine) (Some theirs) mine theirs kept at there refl refl same
