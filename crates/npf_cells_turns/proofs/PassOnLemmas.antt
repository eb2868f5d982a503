-- A pass of the table stays one through steps on turns.
use Rattle.std.proofs.{Common.{◌≡◌, ◌≢◌, ℕ, ◌≤◌, Option, Some, None, List, [], ◌∷◌, refl, sym, ap, ◌∙◌, subst, ⊎_elim, arith}, lemmas.Bool.cases_eq}
use Rattle.atomic_table.specs.{Seated.TableId, Table.{Me, Step, rest}}
use Rattle.npf_types.specs.declared.key.Key.{Key}
use Rattle.npf_core.specs.{declared.{conn_id.ConnId.ConnId, entry.Entry.Entry}, Meaning.Meaning}
use Rattle.npf_cells_words.specs.declared.layout.Layout.{Layout}
use Rattle.npf_cells_pins.specs.declared.pin.EpochSide.{EpochSide}
use Rattle.npf_cells_lives.specs.{declared.turn.{Said.Said, Turn.Turn}, Notes.with_said, Turns.{Running, running}}
use Rattle.npf_cells_rule.{specs.{declared.view.CellView.CellView, Passes.{CarriesByTurn, IsPassOf}}, proofs.PassLemmas.passes_on}
use Rattle.npf_cells_turns.specs.declared.act.TurnAct.{TurnAct, TheVariants.{Nothing, Start, Step as Steps, Abandoned, Expired, Reclaim}}
use Rattle.npf_cells_turns.specs.{EndKinds.{acted, epochs_after, with_reclaim, TellsEnd}, NoteKinds.noting, TurnKinds.{TriesTurn, HasSlotTurn}}

-- what an act makes of what the pass knows of the epoch: its pin stays, and it may forget what it loaded
pin_after : {S A : Type 0} (act : TurnAct S A) (side : EpochSide) → (epochs_after act side).pin ≡ side.pin
pin_after Nothing side = refl
pin_after (Start id n init) side = refl
pin_after (Steps id n way arg) side = refl
pin_after (Abandoned id) side = refl
pin_after (Expired id now) side = refl
pin_after (Reclaim id) side = refl

loaded_after : {S A : Type 0} (act : TurnAct S A) (side : EpochSide) → (epochs_after act side).loaded ≤ side.loaded
loaded_after Nothing side = omega arith
loaded_after (Start id n init) side = omega arith
loaded_after (Steps id n way arg) side = omega arith
loaded_after (Abandoned id) side = omega arith
loaded_after (Expired id now) side = omega arith
loaded_after (Reclaim id) side = omega arith

said_carries : {S F : Type 0} (said : Option Said) (turn : Option (Turn S)) (carried : List (ℕ × F)) → CarriesByTurn turn carried → CarriesByTurn (with_said said turn) carried
said_carries said None carried carries = carries
said_carries said (Some turn) carried carries = carries

module _ {S A R : Type 0} (layout : Layout) (table seat : TableId) (readers : List ℕ) (me : Me (Running S) (CellView S A R)) where
  -- through one that changes its turn alone, and what it carries
  pub turned_on : (seat' : TableId) (next : Me (Running S) (CellView S A R)) (turn : Option (Turn S)) (carried : List (ℕ × Running S)) → IsPassOf layout table seat readers me → seat' ≡ seat →
      next ≡ (record me.0 { turn = turn }, carried) → CarriesByTurn turn carried → IsPassOf layout table seat' readers next
  turned_on seat' next turn carried own same is carries = rw is (passes_on layout table seat seat' readers me _ _ _ _ own same carries)

  -- through one by which it reclaims a connection
  pub reclaimed_on : (seat' : TableId) (next : Me (Running S) (CellView S A R)) (conn : ConnId) → IsPassOf layout table seat readers me →
      seat' ≡ seat → next ≡ (record me.0 { pools = with_reclaim conn me.0.pools; turn = None }, []) →
      IsPassOf layout table seat' readers next
  reclaimed_on seat' next conn own same is = rw is (passes_on layout table seat seat' readers me _ _ _ _ own same refl)

  -- through a load of a note under a turn
  pub noted_on : (seat' : TableId) (next : Me (Running S) (CellView S A R)) (field found : ℕ) → IsPassOf layout table seat readers me →
      seat' ≡ seat → next ≡ noting field found me → IsPassOf layout table seat' readers next
  noted_on seat' next field found own same is =
      turned_on seat' next (with_said (Some (record { field = field; value = found })) me.0.turn) me.1 own same is
      (said_carries (Some (record { field = field; value = found })) me.0.turn me.1 own.carries)

  -- and through one that makes an entry
  pub acted_on : (seat' : TableId) (next : Me (Running S) (CellView S A R)) (act : TurnAct S A) (history : List (Entry S A R)) → IsPassOf layout table seat readers me → seat' ≡ seat →
      next ≡ (acted act me.0 history, []) → IsPassOf layout table seat' readers next
  acted_on seat' next act history own same is = rw is (record {
    same = same ∙ own.same;
    words = own.words;
    carries = refl;
    sized = own.sized;
    lives = own.lives;
    theirs = own.theirs;
    owns = own.owns;
    place = own.place;
    most = own.most;
    reader = own.reader;
    epoch = (let was = own.epoch in let less = loaded_after act me.0.epochs in omega (arith, was, less));
    unanswered = λ idle. own.unanswered (sym (pin_after act me.0.epochs) ∙ idle);
    unlocked = λ idle. own.unlocked (sym (pin_after act me.0.epochs) ∙ idle);
    marked = own.marked;
  })

  -- a pass with a slot's turn carries its value
  pub carried_there : (slot : ℕ) → IsPassOf layout table seat readers me → HasSlotTurn me.0 slot → (value : Running S) × (me.1 ≡ (slot, value) ∷ [])
  carried_there slot own has =
      let carries : CarriesByTurn (Some has.turn) me.1 = subst (λ turn. CarriesByTurn turn me.1) has.has own.carries in
      (carries.0, carries.1 ∙ ap (λ p. (p, carries.0) ∷ []) has.there)

  -- and nothing else
  pub given_out : (slot : ℕ) → IsPassOf layout table seat readers me → HasSlotTurn me.0 slot → (value : Running S) → me.1 ≡ (slot, value) ∷ rest me.1 → (me.1 ≡ (slot, value) ∷ []) × (rest me.1 ≡ [])
  given_out slot own has value is =
      let none : rest me.1 ≡ [] = ap rest (carried_there slot own has).1 in
      (is ∙ ap (λ xs. (slot, value) ∷ xs) none, none)

  -- and does so when it has moved another in
  pub exchanged_on : (seat' : TableId) (next : Me (Running S) (CellView S A R)) (slot : ℕ) (value : Running S) → IsPassOf layout table seat readers me → seat' ≡ seat → HasSlotTurn me.0 slot →
      next ≡ (me.0, (slot, value) ∷ []) → IsPassOf layout table seat' readers next
  exchanged_on seat' next slot value own same has is =
      turned_on seat' next me.0.turn ((slot, value) ∷ []) own same is (subst (λ turn. CarriesByTurn turn ((slot, value) ∷ [])) (sym has.has) (value, ap (λ p. (p, value) ∷ []) (sym has.there)))

-- through a try of a turn
pub tried_on : {S A R : Type 0} (m : Meaning S A R) (digest : Key → ℕ) (layout aim : Layout) (slot : ℕ) (st : Step (Running S))
    (table seat seat' : TableId) (readers : List ℕ) (found : ℕ) (me next : Me (Running S) (CellView S A R)) →
    IsPassOf layout table seat readers me → seat' ≡ seat → TriesTurn m digest aim slot st me found next → IsPassOf layout table seat' readers next
tried_on m digest layout aim slot st table seat seat' readers found me next own same tries = ⊎_elim
    (λ (free : found ≡ 0).
    let won = tries.won free in
    turned_on layout table seat readers me seat' next _ _ own same won.is (running won.was.stage, refl))
    (λ (taken : found ≢ 0). turned_on layout table seat readers me seat' next me.0.turn me.1 own same (tries.lost taken) own.carries)
    (cases_eq found 0)

-- and through its end
pub ended_on : {S A R : Type 0} (m : Meaning S A R) (layout : Layout) (table seat seat' : TableId) (readers : List ℕ) (act : TurnAct S A) (me next : Me (Running S) (CellView S A R)) →
    IsPassOf layout table seat readers me → seat' ≡ seat → TellsEnd m act me next → IsPassOf layout table seat' readers next
ended_on m layout table seat seat' readers Nothing me next own same tells = turned_on layout table seat readers me seat' next None [] own same tells refl
ended_on m layout table seat seat' readers (Start id n init) me next own same tells = acted_on layout table seat readers me seat' next (Start id n init) next.0.seats.history own same tells.is
ended_on m layout table seat seat' readers (Steps id n way arg) me next own same tells = acted_on layout table seat readers me seat' next (Steps id n way arg) next.0.seats.history own same tells.is
ended_on m layout table seat seat' readers (Abandoned id) me next own same tells = acted_on layout table seat readers me seat' next (Abandoned id) next.0.seats.history own same tells.is
ended_on m layout table seat seat' readers (Expired id now) me next own same tells = acted_on layout table seat readers me seat' next (Expired id now) next.0.seats.history own same tells.is
ended_on m layout table seat seat' readers (Reclaim id) me next own same tells = reclaimed_on layout table seat readers me seat' next id own same tells
