use Rattle.std.proofs.Common.{◌≡◌, ◌⊎◌, ◌+◌, ◌≤◌, ◌<◌, ◌/◌, ◌∙◌, ℕ, true, false, slice_index_or, ap, subst, ⊎_elim, inl, inr, arith}
use Rattle.std.proofs.lemmas.Bool.{cases_eq, cases_lt}
use Rattle.npf_cells_rule.specs.Passes.{cell_pass}
use Rattle.npf_conndb.specs.Frees.{IsNotedVacant}
use Rattle.npf_conndb.proofs.{CollectedLemmas.{collected_vacant, collected_more, collected_all, frees_still, clean_still}, SlotVisitLemmas.{visited_vacant, visited_more, visits_all}}
use Rattle.npf_conndb.proofs.VisitLemmas.{stays_more}
use Rattle.npf_conndb.proofs.collect.collect.Goals as goal

pub loop-slot-init : goal.loop-slot-init
loop-slot-init g c =
    let slots = c.args.cells.now.table.shared.key.slots in
    let claimed = c.claimed_words-epoch.result.1 in
    let first : (p : ℕ) → IsNotedVacant slots claimed p ⊎ ((p < slots) × (p < 0)) → IsNotedVacant slots claimed p ⊎ _ =
    λ p h. ⊎_elim (λ s. inl s) (λ (low : (p < slots) × (p < 0)). absurd (let under = low.1 in omega (arith, under))) h in
    record {
      own = c.claimed_words-epoch.ensures.own;
      sized = ap (λ l. l.slots) c.layout-slots.ensures;
      collected = collected_vacant _ _ _ _ _ _ c.claimed_words-epoch.ensures.collected first;
      visited = visited_vacant _ _ _ _ _ _ _ c.claimed_words-epoch.ensures.visited c.requires.between.turnless first;
    }

pub loop-slot-preserved-then-begins_vacant : goal.loop-slot-preserved-then-begins_vacant
loop-slot-preserved-then-begins_vacant g c =
    let so = c.loop-slot.invariant in
    let slots = c.args.cells.now.table.shared.key.slots in
    let claimed = c.claimed_words-epoch.result.1 in
    let slot = c.loop-slot.slot in
    let first = c.begins_vacant.ensures.first c.if-begins_vacant.true in
    let clear = c.begins_vacant.ensures.clear c.if-begins_vacant.true in
    let skipped : (p : ℕ) → p < slots → slot ≤ p → p < slot + 64 → IsNotedVacant slots claimed p = λ p exists from below. record {
      exists = exists;
      clear = subst (λ n. slice_index_or claimed n true ≡ false) {x = slot / 64} (omega (arith, first, from, below)) clear;
    } in
    let either : (p : ℕ) → IsNotedVacant slots claimed p ⊎ ((p < slots) × (p < slot + 64)) → (IsNotedVacant slots claimed p ⊎ ((p < slots) × (p < slot))) ⊎ _ = λ p h. inl (⊎_elim (λ s. inl s)
    (λ (low : (p < slots) × (p < slot + 64)). ⊎_elim (λ (under : p < slot). inr (low.0, under)) (λ (from : slot ≤ p). inl (skipped p low.0 from low.1)) (cases_lt p slot)) h) in
    record {
      own = so.own;
      sized = so.sized;
      collected = collected_vacant _ _ _ _ _ _ so.collected either;
      visited = visited_vacant _ _ _ _ _ _ _ so.visited c.requires.between.turnless either;
    }

pub loop-slot-preserved : goal.loop-slot-preserved
loop-slot-preserved g c =
    let so = c.loop-slot.invariant in
    let slots = c.args.cells.now.table.shared.key.slots in
    let claimed = c.claimed_words-epoch.result.1 in
    let slot = c.loop-slot.slot in
    let either : (p : ℕ) → IsNotedVacant slots claimed p ⊎ ((p < slots) × (p < slot + 1)) → (IsNotedVacant slots claimed p ⊎ ((p < slots) × (p < slot))) ⊎ (p ≡ slot) = λ p h. ⊎_elim (λ s. inl (inl s))
    (λ (low : (p < slots) × (p < slot + 1)). ⊎_elim (λ (is : p ≡ slot). inr is) (λ ne. inl (inr (low.0, (let under = low.1 in omega (arith, under, ne))))) (cases_eq p slot)) h in
    record {
      own = c.collect_slot.ensures.own;
      sized = so.sized;
      collected = collected_more g.L.Law.meaning c.claimed_words-epoch.result.0 c.args.pass.now.seat.me _ _ slot either
          c.collect_slot.result _ _ so.collected c.collect_slot.ensures.collects;
      visited = visited_more g.L.Law.meaning g.H.KeyHash.digest c.args.cells.now.table.shared.key c.args.pass.now.seat.me.0
          _ _ slot either _ _ so.visited c.requires.between.turnless c.collect_slot.result
          c.collect_slot.ensures.tries c.collect_slot.ensures.collects.there c.collect_slot.ensures.collects.adds.adds;
    }

pub regain_left-requires-clause-legal : goal.regain_left-requires-clause-legal
regain_left-requires-clause-legal g c = c.loop-slot.invariant.collected.stays.legal

pub regain_left-requires-clause-between : goal.regain_left-requires-clause-between
regain_left-requires-clause-between g c = c.loop-slot.invariant.collected.stays.between

pub regain_left-requires-clause-out : goal.regain_left-requires-clause-out
regain_left-requires-clause-out g c = c.loop-slot.invariant.collected.stays.pin ∙ c.requires.out

pub returns-clause-stays : goal.returns-clause-stays
returns-clause-stays g c = stays_more g.L.Law.meaning 0 0 0 0 _ _ _ c.loop-slot.invariant.collected.stays c.regain_left.ensures.stays

pub returns-clause-frees : goal.returns-clause-frees
returns-clause-frees g c =
    let so = c.loop-slot.invariant.collected in
    frees_still g.L.Law.meaning _ _ c.regain_left.ensures.stays c.regain_left.ensures.same (cell_pass c.args.pass.now.seat.me.0) (record { ids = so.ids; adds = so.adds })

pub returns-clause-clean : goal.returns-clause-clean
returns-clause-clean g c =
    let sized = c.loop-slot.invariant.sized in
    let done = c.loop-slot-test.false in
    clean_still g.L.Law.meaning _ _ c.regain_left.ensures.stays c.regain_left.ensures.same
    (collected_all g.L.Law.meaning c.claimed_words-epoch.result.0 c.args.pass.now.seat.me _ c.args.cells.now.table.shared.key.slots c.loop-slot.pass.seat.me
    c.loop-slot.invariant.collected c.loop-slot.invariant.own.sized (λ p low. inr (low, omega (arith, low, sized, done))))

pub returns-clause-visits : goal.returns-clause-visits
returns-clause-visits g c =
    let sized = c.loop-slot.invariant.sized in
    let done = c.loop-slot-test.false in
    visits_all g.L.Law.meaning g.H.KeyHash.digest c.args.cells.now.table.shared.key c.args.pass.now.seat.me.0 _ _ _ _ (λ p low. inr (low, omega (arith, low, sized, done)))
    c.loop-slot.invariant.visited c.regain_left.ensures.same c.regain_left.ensures.stays.goes.epoch
