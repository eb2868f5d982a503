-- A load after which a pass has seen all of the history keeps the rule.
use Rattle.std.proofs.Common.{◌≡◌, ◌≢◌, ℕ, ◌<◌, ◌≤◌, true, Option, Some, None, List, [], map, set, length, slice_index, refl, sym, ap, ◌∙◌, subst, ⊎_elim, arith, length-set}
use Rattle.std.proofs.lemmas.List.{set-get_or}
use mathlib.Core.Option.{some}
use lib.ListN.{get_elem?}
use Rattle.atomic_table.{specs.{Seated.TableId, Table.{State, Me, Step, Allows, keeps}}, proofs.Lists.at_map}
use Rattle.npf_types.specs.declared.key.Key.{Key}
use Rattle.npf_core.specs.{declared.stage.Stage.TheVariants.Building, History.{Legal, state_of}, Meaning.Meaning}
use Rattle.npf_cells_words.specs.declared.layout.Layout.{Layout}
use Rattle.npf_seats.{specs.Seats.FitsSeats, proofs.SeatLemmas.cases_lt}
use Rattle.npf_cells_leaves.proofs.TrieLemmas.{knows_same}
use Rattle.npf_cells_lives.{specs.{declared.turn.Turn.Turn, Conns.entry_seat, Pools.taken, Turns.Running}, proofs.PoolLemmas.{pools-same, taken-set}}
use Rattle.npf_cells_rule.specs.{declared.view.CellView.CellView, Cells.IsCells, Passes.IsPassOf, Views.{seat_side, pool_side, death_side}}
use Rattle.npf_cells_lives.proofs.{DeathLemmas.{dead_stage, gone_dead}, FreedLemmas.{gone_in, there_or_idle}}
use Rattle.npf_cells_rule.proofs.{EntryLemmas.{sees_nothing, sole_seen}, Frames.{alone_still, sight_step}, PassLemmas.passes_on}
use Rattle.npf_cells_turns.specs.SightKinds.{seeing, StaysByTurn, HasSeen, Sees}

pub above : (n : ℕ) → n ≢ 0 → 1 ≤ n
above n ne = ⊎_elim (λ (low : n < 1). absurd (ne (omega (arith, low)))) (λ h. h) (cases_lt n 1)

module _ {S A R : Type 0} (m : Meaning S A R) (digest : Key → ℕ) (layout : Layout) where
  module _ (s : State (Running S) (CellView S A R)) (id : ℕ) (me : Me (Running S) (CellView S A R)) (kept : IsCells m digest layout s) (at : get_elem? s.views id ≡ some me.0)
      (lives : me.0.seats.lives ≡ true) (settled : me.0.seats.theirs ≡ []) (place : 1 ≤ length me.0.seats.readers) where
    fits : FitsSeats entry_seat layout.slots (map seat_side s.views) kept.log id me.0.seats
    fits = kept.seats.each id me.0.seats (at_map seat_side s.views id me.0 at)

    stays : (turn : Option (Turn S)) → me.0.turn ≡ turn → StaysByTurn (state_of m kept.log) turn
    stays None has = tt
    stays (Some turn) has =
        let fits = kept.turns.each id me.0 turn at has in
        there_or_idle death_side s.views (state_of m kept.log) turn.slot turn.was
        (λ gone. dead_stage ((state_of m kept.log).slot turn.slot).stage (let one =
        gone_dead death_side layout (state_of m kept.log) s.words s.views turn.slot kept.deaths fits.exists (let some' = above (gone_in death_side s.views turn.slot) gone in some') in
        omega (arith, one)))
        fits.stays

    pub has_seen : HasSeen m me (seeing me.0 kept.log, me.1)
    has_seen = record {
      adds = sees_nothing layout.slots kept.log (map seat_side s.views) id me.0 kept.seats (at_map seat_side s.views id me.0 at) lives;
      legal = λ pass. record {
        legal = subst (λ slots. Legal m slots kept.log) (sym (fits.sized place)) kept.connections.legal;
        stays = (kept.trie.each id me.0 at).claimed;
        building = λ conn c. (kept.connections.each id me.0 at).building conn c ∙ ap (λ n. Building n) (sym (fits.lives lives).number);
        unanswered = pass.unanswered;
        idle = pass.idle;
        alone = sole_seen layout.slots kept.log (map seat_side s.views) id me.0 kept.seats (at_map seat_side s.views id me.0 at) lives settled;
        most = pass.most;
      };
      turn = stays me.0.turn refl;
      is = refl;
    }

  pub may_see : (st : Step (Running S)) (id n i : ℕ) (me : Me (Running S) (CellView S A R)) → me.0.seats.lives ≡ true → me.0.seats.theirs ≡ [] → 1 ≤ length me.0.seats.readers →
      Allows (IsCells m digest layout) n id me i (λ k. k) (Sees m st me)
  may_see st id n i me lives settled place s kept homes at bound =
      let w : CellView S A R = seeing me.0 kept.log in
      let words = set-get_or s.words i 0 in (
        w,
        keeps,
        tt,
        sight_step m digest layout s i (slice_index s.words i) id me.1 me.0 w kept at lives refl refl (knows_same me.0.trie) (kept.stored id me.0 at) refl refl refl refl refl
            (alone_still me.0 w (kept.alone id me.0 at) place refl (λ none. none))
            (record { before = λ j h. ap (λ ws. slice_index ws j) words; behind = λ j h. ap (λ ws. slice_index ws j) words })
            (pools-same layout (taken pool_side kept.published (state_of m kept.log) s.views)
            (taken pool_side kept.published (state_of m kept.log) (set s.views id w)) s.words (set s.words i (slice_index s.words i)) kept.pools
            (length-set s.words i (slice_index s.words i)) (λ j h. ap (λ ws. slice_index ws j) words) (taken-set pool_side kept.published (state_of m kept.log) s.views id me.0 w at refl refl)),
        record { seen = has_seen s id me kept at lives settled place },
      )

-- a pass of the table stays one through such a step
pub seen_on : {S A R : Type 0} (m : Meaning S A R) (layout : Layout) (table seat seat' : TableId) (readers : List ℕ) (me next : Me (Running S) (CellView S A R)) →
    IsPassOf layout table seat readers me → seat' ≡ seat → HasSeen m me next → IsPassOf layout table seat' readers next
seen_on m layout table seat seat' readers me next own same seen = rw seen.is (passes_on layout table seat seat' readers me _ _ _ _ own same own.carries)
