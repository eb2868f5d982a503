-- What a pass has seen once it found a word of the slots.
use Rattle.std.proofs.Common.{◌≡◌, ℕ, ◌+◌, ◌/◌, ◌%◌, ◌≤◌, true, Option, Some, None, List, [], map, length, slice_index, refl, sym, ap, ◌∙◌, subst}
use Rattle.std.specs.Int.{bit_at}
use mathlib.Core.Option.{some}
use lib.ListN.{get_elem?}
use Rattle.atomic_table.{specs.{Seated.TableId, Table.{State, Me}}, proofs.Lists.at_map}
use Rattle.npf_types.specs.declared.key.Key.{Key}
use Rattle.npf_core.specs.{declared.{conn_id.ConnId.ConnId, stage.Stage.TheVariants.Building}, History.Legal, Meaning.Meaning}
use Rattle.npf_cells_words.specs.{declared.layout.{Layout.Layout, Pool.{Pool, TheVariants.{Slots, Nodes}}}, Layout.pools_at}
use Rattle.npf_seats.specs.Seats.{FitsSeats}
use Rattle.npf_cells_lives.{specs.{declared.pools.PoolSide.PoolSide, Conns.entry_seat, Stored.FitsStored}, proofs.StoredLemmas.{own_same, stored_kept}}
use Rattle.npf_cells_rule.specs.{declared.view.CellView.CellView, Cells.IsCells, Passes.{CarriesByTurn, IsPassOf}, Views.{seat_side, with_pools}}
use Rattle.npf_cells_takes.specs.{PrivateKinds.leading, SlotKinds.{seeing_slots, HasFreed, HasSeenSlots}}
use Rattle.npf_cells_lives.specs.{declared.turn.{Ahead.Ahead, Turn.Turn}, Notes.with_ahead, Turns.Running}
use Rattle.npf_cells_rule.proofs.{EntryLemmas.{sees_nothing, sole_seen}, PassLemmas.{passes_on, pools_on}}

module _ {S A R : Type 0} (m : Meaning S A R) (digest : Key → ℕ) (layout : Layout) (s : State (Running S) (CellView S A R)) (id : ℕ)
    (me : Me (Running S) (CellView S A R)) (kept : IsCells m digest layout s) (at : get_elem? s.views id ≡ some me.0)
    (lives : me.0.seats.lives ≡ true) (place : 1 ≤ length me.0.seats.readers) (found : ℕ) where
  abbrev pub seer : CellView S A R
  seer = seeing_slots me.0 found kept.log

  fits : FitsSeats entry_seat layout.slots (map seat_side s.views) kept.log id me.0.seats
  fits = kept.seats.each id me.0.seats (at_map seat_side s.views id me.0 at)

  pub seer_stored : FitsStored layout s.words seer.pools
  seer_stored = stored_kept layout s.words s.words me.0.pools seer.pools (kept.stored id me.0 at) refl (own_same layout me.0.pools seer.pools refl refl) (λ pool p field own. refl)

  pub has_seen : me.0.seats.theirs ≡ [] → (word i : ℕ) → i ≡ pools_at + word → found ≡ slice_index s.words i → HasSeenSlots m layout word found me (seer, me.1)
  has_seen settled word i lies is = record {
    adds = sees_nothing layout.slots kept.log (map seat_side s.views) id me.0 kept.seats (at_map seat_side s.views id me.0 at) lives;
    legal = λ pass. record {
      legal = subst (λ slots. Legal m slots kept.log) (sym (fits.sized place)) kept.connections.legal;
      stays = (kept.trie.each id me.0 at).claimed;
      building = λ conn c. (kept.connections.each id me.0 at).building conn c ∙ ap (λ n. Building n) (sym (fits.lives lives).number);
      unanswered = pass.unanswered;
      idle = pass.idle;
      alone = sole_seen layout.slots kept.log (map seat_side s.views) id me.0 kept.seats (at_map seat_side s.views id me.0 at) lives settled;
      most = pass.most;
    };
    claims = λ slot h e.
        let where' : i ≡ pools_at + slot / 64 = lies ∙ ap (λ w. pools_at + w) (sym e) in
        ap (λ n. bit_at n (slot % 64)) (is ∙ ap (slice_index s.words) where') ∙ kept.pools.bits Slots slot h;
    is = refl;
  }

-- a pass of the table stays one through such a step
pub sees_on : {S A R : Type 0} (m : Meaning S A R) (layout : Layout) (table seat seat' : TableId) (readers : List ℕ) (word found : ℕ) (me next : Me (Running S) (CellView S A R)) →
    IsPassOf layout table seat readers me → seat' ≡ seat → HasSeenSlots m layout word found me next → IsPassOf layout table seat' readers next
sees_on m layout table seat seat' readers word found me next own same seen = rw seen.is (passes_on layout table seat seat' readers me _ _ _ _ own same own.carries)

-- so it does through a load of a word of either pool
pub swept_on : {S A R : Type 0} (m : Meaning S A R) (layout : Layout) (table seat seat' : TableId) (readers : List ℕ)
    (word found : ℕ) (me next : Me (Running S) (CellView S A R)) (side : PoolSide) (pool : Pool) →
    IsPassOf layout table seat readers me → seat' ≡ seat → (pool ≡ Nodes → next ≡ with_pools me side) →
    (pool ≡ Slots → HasSeenSlots m layout word found me next) → IsPassOf layout table seat' readers next
swept_on m layout table seat seat' readers word found me next side Nodes own same nodes slots = pools_on layout table seat seat' readers me next side own same (nodes refl)
swept_on m layout table seat seat' readers word found me next side Slots own same nodes slots = sees_on m layout table seat seat' readers word found me next own same (slots refl)

-- so it does through a Free
pub freed_on : {S A R : Type 0} (m : Meaning S A R) (layout : Layout) (table seat seat' : TableId) (readers : List ℕ) (conn : ConnId) (found : ℕ) (me next : Me (Running S) (CellView S A R)) →
    IsPassOf layout table seat readers me → seat' ≡ seat → HasFreed m conn found me next → IsPassOf layout table seat' readers next
freed_on m layout table seat seat' readers conn found me next own same freed = rw freed.is (passes_on layout table seat seat' readers me _ _ _ _ own same own.carries)

-- so it does where only what it is ahead of changes
pub led_carries : {S F : Type 0} (ahead : Option Ahead) (turn : Option (Turn S)) (carried : List (ℕ × F)) → CarriesByTurn turn carried → CarriesByTurn (with_ahead ahead turn) carried
led_carries ahead None carried carries = carries
led_carries ahead (Some turn) carried carries = carries

pub led_on : {S A R : Type 0} (layout : Layout) (table seat seat' : TableId) (readers : List ℕ) (field value : ℕ) (me next : Me (Running S) (CellView S A R)) →
    IsPassOf layout table seat readers me → seat' ≡ seat → next ≡ leading field value me →
    IsPassOf layout table seat' readers next
led_on layout table seat seat' readers field value me next own same is =
    rw is (passes_on layout table seat seat' readers me _ _ _ _ own same (led_carries (Some (record { field = field; value = value })) me.0.turn me.1 own.carries))
