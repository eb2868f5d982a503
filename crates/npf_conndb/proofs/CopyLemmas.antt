-- A pass that owns all reader places copies a slot's connection as the machine has it.
use Rattle.std.proofs.Common.{◌≡◌, ◌≢◌, ◌⊎◌, ℕ, true, Option, Some, None, List, [], ◌∷◌, length, slice_index, append-nil, refl, sym, ap, ◌∙◌, subst, ⊎_elim, arith}
use Rattle.atomic_table.specs.Table.{Me}
use Rattle.npf_types.specs.declared.key.{Key.Key, Way.{Way, TheVariants.{Forward, Backward, Port}}}
use Rattle.npf_core.specs.declared.{conn_id.ConnId.ConnId, entry.Entry.Entry, kept.Kept.Kept, slot.Slot.Slot, stage.Stage.Stage}
use Rattle.npf_core.specs.{declared.stage.Stage.TheVariants.{Vacant, Building, Live, Dead}, Copying.{Copies, HoldsIf, IsKept}, History.state_of}
use Rattle.npf_core.specs.{Machine.{Machine, stage_of, IsLive, Holds, HoldsNone, HoldsSome}, Meaning.Meaning}
use Rattle.npf_connections.{specs.Pass.{IsPass, all_places}, proofs.AddLemmas.adds_alone}
use Rattle.npf_seats.specs.declared.side.SeatSide.{SeatSide}
use Rattle.npf_cells_words.specs.{declared.layout.{Layout.Layout, Pool.TheVariants.Slots}, Layout.note_field}
use Rattle.npf_cells_lives.{specs.{Deaths.last_id, Turns.{Running, running, stage_phase}}, proofs.DeathLemmas.last_stage}
use Rattle.npf_cells_rule.specs.{declared.view.CellView.CellView, Passes.cell_pass, Views.with_trie}
use Rattle.npf_cells_holds.specs.LookKinds.{HasLiveTurn, TellsHeldKey, reading}
use Rattle.npf_cells_takes.specs.PrivateKinds.{HasTurnIn, ShowsTurnInc}
use Rattle.npf_cells_turns.specs.{declared.act.TurnAct.TheVariants.Nothing, EndKinds.MayEndBy, SightKinds.{HasSeen, StaysByTurn, seeing}}
use Rattle.npf_cells_turns.specs.{TurnKinds.{HasTaken, turn_at}, WordKinds.ShowsByTurn}
use Rattle.npf_turn.proofs.WorkLemmas.{Works, is_live, may_end}
use Rattle.npf_conndb.{specs.Copy.{CopiesKey, FoundInSlot, HasLiveOne, having_read}, proofs.{HeldLemmas.some_or_none, SoleLemmas.sole_log}}

-- a list of five numbers is that of its items
five_items : (xs : List ℕ) → length xs ≡ 5 → xs ≡ slice_index xs 0 ∷ slice_index xs 1 ∷ slice_index xs 2 ∷ slice_index xs 3 ∷ slice_index xs 4 ∷ []
five_items [] five = absurd cc
five_items (a ∷ []) five = absurd cc
five_items (a ∷ b ∷ []) five = absurd cc
five_items (a ∷ b ∷ c ∷ []) five = absurd cc
five_items (a ∷ b ∷ c ∷ d ∷ []) five = absurd cc
five_items (a ∷ b ∷ c ∷ d ∷ e ∷ []) five = refl
five_items (a ∷ b ∷ c ∷ d ∷ e ∷ f ∷ xs) five = absurd (omega (arith, five))

-- what a pass knows after loads of words and keys
module _ {S A R : Type 0} where
  abbrev pub HasRead : Me (Running S) (CellView S A R) → Me (Running S) (CellView S A R) → Type 0
  HasRead old now = now ≡ (having_read old.0 now.0, old.1)

  pub read_none : (old now : Me (Running S) (CellView S A R)) → now ≡ old → HasRead old now
  read_none old now same = same ∙ (λ i. (having_read old.0 (sym same i).0, old.1))

  pub read_word : (old now : Me (Running S) (CellView S A R)) → now ≡ with_trie old (reading old.0.trie) → HasRead old now
  read_word old now is = is ∙ (λ i. (having_read old.0 (sym is i).0, old.1))

  pub read_more : (old mid now : Me (Running S) (CellView S A R)) → HasRead old mid → HasRead mid now → HasRead old now
  read_more old mid now first then = then ∙ (λ i. (having_read (first i).0 now.0, (first i).1))

  -- its seat and its turn stay
  pub same_seats : (old now : Me (Running S) (CellView S A R)) → HasRead old now → now.0.seats ≡ old.0.seats
  same_seats old now read = ap (λ (y : Me (Running S) (CellView S A R)). y.0.seats) read

  pub still_all : (old now : Me (Running S) (CellView S A R)) → HasRead old now → length old.0.seats.readers ≡ all_places → length now.0.seats.readers ≡ all_places
  still_all old now read all = ap (λ (s : SeatSide ℕ (Entry S A R)). length s.readers) (same_seats old now read) ∙ all

  pub still_live : (old now : Me (Running S) (CellView S A R)) (slot : ℕ) → HasRead old now → HasLiveOne slot old.0 → HasLiveOne slot now.0
  still_live old now slot read one = record { was = one.was; turn = ap (λ (y : Me (Running S) (CellView S A R)). y.0.turn) read ∙ one.turn; live = one.live }

  pub live_still : (old now : Me (Running S) (CellView S A R)) (slot : ℕ) → HasRead old now → HasLiveOne slot old.0 → HasLiveTurn now.0.turn slot
  live_still old now slot read one = (turn_at slot one.was, ap (λ (y : Me (Running S) (CellView S A R)). y.0.turn) read ∙ one.turn, refl, one.live)

module _ {S A R : Type 0} (m : Meaning S A R) (digest : Key → ℕ) (layout : Layout) (slot : ℕ) (way : Way) (v : CellView S A R)
    (lives : v.seats.lives ≡ true) (settled : v.seats.theirs ≡ []) (all : length v.seats.readers ≡ all_places) where
  abbrev HoldsNoneBy : List (Entry S A R) → Type 0
  HoldsNoneBy h = HoldsNone (state_of m h) (last_id (state_of m h) slot) way

  abbrev HoldsBy : Key → List (Entry S A R) → Type 0
  HoldsBy key h = Holds (state_of m h) (last_id (state_of m h) slot) way key

  -- a note of 0 says that no key of its way is held
  pub none_held : (live : HasLiveOne slot v) (field found : ℕ) → field ≡ note_field way → ShowsByTurn m digest layout v Slots slot field found → found ≡ 0 → HoldsNoneBy v.seats.history
  none_held live field found is shows zero =
      let told = shows (turn_at slot live.was) way live.turn refl refl live.live is in
      subst HoldsNoneBy (sole_log m digest layout v told.state told.rule told.seated lives settled all) (told.zero.0 zero)

  -- and any other that one is
  pub some_held : (live : HasLiveOne slot v) (field found : ℕ) → field ≡ note_field way → ShowsByTurn m digest layout v Slots slot field found →
      found ≢ 0 → HoldsSome (state_of m v.seats.history) (last_id (state_of m v.seats.history) slot) way
  some_held live field found is shows other =
      let told = shows (turn_at slot live.was) way live.turn refl refl live.live is in
      let log = sole_log m digest layout v told.state told.rule told.seated lives settled all in
      ⊎_elim
      (λ (some : HoldsSome (state_of m v.seats.history) (last_id (state_of m v.seats.history) slot) way). some)
      (λ (none : HoldsNoneBy v.seats.history). absurd (other (told.zero.1 (subst HoldsNoneBy (sym log) none))))
      (some_or_none m v.seats.history (last_id (state_of m v.seats.history) slot) way)

  -- the words that it loads are those of the key that is held
  module _ (key : Key) (held : HoldsBy key v.seats.history) where
    pub word_is : (u : CellView S A R) (word found : ℕ) → u.seats ≡ v.seats → TellsHeldKey m digest layout u slot way word found → (length key.0 ≡ 5) × (found ≡ slice_index key.0 word)
    word_is u word found same told =
        let log = sole_log m digest layout u told.state told.rule told.seated (ap (λ (s : SeatSide ℕ (Entry S A R)). s.lives) same ∙ lives)
        (ap (λ (s : SeatSide ℕ (Entry S A R)). s.theirs) same ∙ settled) (ap (λ (s : SeatSide ℕ (Entry S A R)). length s.readers) same ∙ all)
        ∙ ap (λ (s : SeatSide ℕ (Entry S A R)). s.history) same in
        told.held key (subst (HoldsBy key) (sym log) held)

    pub key_is : (a b c d e : ℕ) → length key.0 ≡ 5 → a ≡ slice_index key.0 0 → b ≡ slice_index key.0 1 → c ≡ slice_index key.0 2 →
        d ≡ slice_index key.0 3 → e ≡ slice_index key.0 4 → HoldsBy (record { 0 = a ∷ b ∷ c ∷ d ∷ e ∷ [] }) v.seats.history
    key_is a b c d e five first second third fourth fifth =
        let same : key.0 ≡ a ∷ b ∷ c ∷ d ∷ e ∷ [] = five_items key.0 five ∙ (λ i. sym first i ∷ sym second i ∷ sym third i ∷ sym fourth i ∷ sym fifth i ∷ []) in
        subst (λ (words : List ℕ). HoldsBy (record { 0 = words }) v.seats.history) same held

-- what is Live holds its flow and count
none_live : {S : Type 0} (stage : Stage S) → None ≡ running stage → ¬ IsLive stage
none_live Vacant e live = live
none_live (Building seat) e live = live
none_live (Live flow steps) e live = absurd cc
none_live Dead e live = live

module _ {S A R : Type 0} (m : Meaning S A R) (slot : ℕ) (v : CellView S A R) where
  abbrev k : Machine S
  k = state_of m v.seats.history

  -- by what the pass has seen the slot is at what it was, or isn't Live
  stays : (found : Running S) (so : FoundInSlot m slot found v) → (k.slot slot ≡ so.was) ⊎ ((stage_phase so.was.stage ≡ 0) × ¬ IsLive (k.slot slot).stage)
  stays found so = subst (StaysByTurn k) so.turn so.stays

  pub found_none : FoundInSlot m slot None v → ¬ IsLive (k.slot slot).stage
  found_none so = ⊎_elim
      (λ (same : k.slot slot ≡ so.was). subst (λ (x : Slot S). ¬ IsLive x.stage) (sym same) (none_live so.was.stage so.held))
      (λ (other : (stage_phase so.was.stage ≡ 0) × ¬ IsLive (k.slot slot).stage). other.1)
      (stays None so)

  module _ (flow : S) (steps : ℕ) (so : FoundInSlot m slot (Some (flow, steps)) v) where
    live : so.was.stage ≡ Live flow steps
    live = is_live so.was.stage flow steps (sym so.held)

    phase : stage_phase so.was.stage ≡ 1
    phase = ap stage_phase live

    pub live_one : HasLiveOne slot v
    live_one = record { was = so.was; turn = so.turn; live = phase }

    pub live_turn : HasTurnIn v.turn slot
    live_turn = (turn_at slot so.was, so.turn, refl, λ none. absurd (let no : 1 ≡ 0 = sym phase ∙ none in cc))

    at_was : k.slot slot ≡ so.was
    at_was = ⊎_elim
        (λ (same : k.slot slot ≡ so.was). same)
        (λ (other : (stage_phase so.was.stage ≡ 0) × ¬ IsLive (k.slot slot).stage). absurd (let no : 1 ≡ 0 = sym phase ∙ other.0 in cc))
        (stays (Some (flow, steps)) so)

    -- the incarnation that it loads is the last
    id_is : (inc : ℕ) → ShowsTurnInc v.turn slot inc → last_id k slot ≡ record { slot = slot; inc = inc }
    id_is inc shows =
        let loaded = shows (turn_at slot so.was) so.turn refl (λ none. absurd (let no : 1 ≡ 0 = sym phase ∙ none in cc)) in
        λ i. record { slot = slot; inc = (ap (λ (x : Slot S). x.inc) at_was ∙ sym loaded) i }

    live_there : stage_of k (last_id k slot) ≡ Live flow steps
    live_there = last_stage k slot ∙ (ap (λ (x : Slot S). x.stage) at_was ∙ live)

    -- with its keys it makes the copy
    pub kept_so : (inc : ℕ) (forward port backward : Option Key) → ShowsTurnInc v.turn slot inc → HoldsIf k (last_id k slot) Forward forward →
        HoldsIf k (last_id k slot) Port port → HoldsIf k (last_id k slot) Backward backward →
        IsKept k slot (record { id = record { slot = slot; inc = inc }; forward = forward; port = port; backward = backward; state = flow })
    kept_so inc forward port backward shows by_forward by_port by_backward =
        let id = id_is inc shows in
        record {
          there = refl;
          live = (steps, ap (λ (x : ConnId). stage_of k x) (sym id) ∙ live_there);
          forward = subst (λ (x : ConnId). HoldsIf k x Forward forward) id by_forward;
          port = subst (λ (x : ConnId). HoldsIf k x Port port) id by_port;
          backward = subst (λ (x : ConnId). HoldsIf k x Backward backward) id by_backward;
        }

-- a key that was copied later is as what the pass had seen before has it
pub key_so : {S A R : Type 0} (m : Meaning S A R) (slot : ℕ) (way : Way) (key : Option Key) (old mid now : Me (Running S) (CellView S A R)) →
    HasRead old mid → CopiesKey m slot way key mid now → HoldsIf (state_of m old.0.seats.history) (last_id (state_of m old.0.seats.history) slot) way key
key_so {S} {A} {R} m slot way key old mid now read copies =
    subst (λ (s : SeatSide ℕ (Entry S A R)). HoldsIf (state_of m s.history) (last_id (state_of m s.history) slot) way key) (same_seats old mid read) copies.held

module _ {S A R : Type 0} (m : Meaning S A R) (slot : ℕ) (old taken seen : Me (Running S) (CellView S A R)) (got : HasTaken slot old taken)
    (sees : HasSeen m taken seen) (legal : IsPass m (cell_pass old.0)) (all : length old.0.seats.readers ≡ all_places) where
  -- who owns all reader places sees no more
  nothing_new : seen ≡ taken
  nothing_new =
      let before : IsPass m (cell_pass taken.0) = subst (λ (y : Me (Running S) (CellView S A R)). IsPass m (cell_pass y.0)) (sym got.is) legal in
      let whole = adds_alone m (cell_pass taken.0) (cell_pass seen.0) [] (sees.legal before)
      (ap (λ (y : Me (Running S) (CellView S A R)). length y.0.seats.readers) sees.is ∙ (ap (λ (y : Me (Running S) (CellView S A R)). length y.0.seats.readers) got.is ∙ all))
      (ap (λ (y : Me (Running S) (CellView S A R)). y.0.seats.number) sees.is) (ap (λ (y : Me (Running S) (CellView S A R)). y.0.seats.joined) sees.is) sees.adds in
      sees.is ∙ (λ i. (seeing taken.0 ((whole ∙ append-nil taken.0.seats.history) i), taken.1))

  pub works_seen : Works old slot got.was (stage_phase got.was.stage) (running got.was.stage) seen
  works_seen = record { is = nothing_new ∙ got.is }

  -- what it found in the slot stands still
  pub found_still : (now : Me (Running S) (CellView S A R)) (found : Running S) → running got.was.stage ≡ found →
      Works old slot got.was (stage_phase got.was.stage) found now → FoundInSlot m slot found now.0
  found_still now found is works = record {
    was = got.was;
    turn = ap (λ (y : Me (Running S) (CellView S A R)). y.0.turn) works.is;
    held = sym is;
    stays = subst (λ (v : CellView S A R). StaysByTurn (state_of m v.seats.history) v.turn) (ap (λ (y : Me (Running S) (CellView S A R)). y.0) (sym works.is))
        (subst (λ (v : CellView S A R). StaysByTurn (state_of m v.seats.history) v.turn) (ap (λ (y : Me (Running S) (CellView S A R)). y.0) (nothing_new ∙ got.is))
        (subst (λ t. StaysByTurn (state_of m seen.0.seats.history) t) (ap (λ (y : Me (Running S) (CellView S A R)). y.0.turn) (sym nothing_new)) sees.turn));
  }

  -- and when all was copied it ends the turn
  module _ (now read last : Me (Running S) (CellView S A R)) (found : Running S) (is : running got.was.stage ≡ found)
      (works : Works old slot got.was (stage_phase got.was.stage) found now) (reads : HasRead now read) where
    works_read : Works (having_read old.0 read.0, old.1) slot got.was (stage_phase got.was.stage) found read
    works_read = record { is = reads ∙ (λ i. (having_read (works.is i).0 read.0, (works.is i).1)) }

    pub may_end_copied : MayEndBy m Nothing slot read
    may_end_copied = may_end _ read slot got.was (stage_phase got.was.stage) found works_read m Nothing tt (sym is) refl

    pub copied_back : last ≡ (record read.0 { turn = None }, []) → old.0.turn ≡ None → old.1 ≡ [] → HasRead old last
    copied_back tells turnless empty =
        tells ∙ ((λ i. (record (works_read.is i).0 { turn = None }, []))
        ∙ ((λ i. (record (having_read old.0 read.0) { turn = sym turnless i }, sym empty i)) ∙ (λ i. (having_read old.0 (sym tells i).0, old.1))))

    pub copies_back : (kept : Option (Kept S)) → Copies (state_of m now.0.seats.history) slot kept → Copies (state_of m old.0.seats.history) slot kept
    copies_back kept copies = subst (λ (y : Me (Running S) (CellView S A R)). Copies (state_of m y.0.seats.history) slot kept) works.is copies
