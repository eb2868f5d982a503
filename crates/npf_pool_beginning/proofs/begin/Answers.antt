use Rattle.std.proofs.Common.{arith, refl, inl}
use Rattle.npf_pool_beginning.proofs.SlotLemmas.{claimed_builds, still_builds, next_fits, may_store, has_begun}
use Rattle.npf_pool_beginning.proofs.begin.Goals as goal

pub load_inc-before-requires-clause-fixed : goal.load_inc-before-requires-clause-fixed
load_inc-before-requires-clause-fixed g c = inl (claimed_builds _ _ c.in_ok-slot.slot _ _ (c.in_ok-slot.ensures.claims refl))

pub overflow_add-before : goal.overflow_add-before
overflow_add-before g c =
    let fits = next_fits _ _ c.in_ok-slot.slot c.load_inc-before.result _ _ (c.in_ok-slot.ensures.claims refl) c.load_inc-before.ensures.shows in
    omega (arith, fits)

pub store_private-requires-clause-may : goal.store_private-requires-clause-may
store_private-requires-clause-may g c =
    rw c.load_inc-before.ensures.same (inl (may_store _ _ c.in_ok-slot.slot c.load_inc-before.result _ _ (c.in_ok-slot.ensures.claims refl) c.load_inc-before.ensures.shows))

pub load_inc-inc-requires-clause-fixed : goal.load_inc-inc-requires-clause-fixed
load_inc-inc-requires-clause-fixed g c =
    inl (still_builds _ _ c.in_ok-slot.slot _ _ (c.in_ok-slot.ensures.claims refl) _ _ (rw c.load_inc-before.ensures.same at c.store_private.ensures.next))

pub returns-clause-begun : goal.returns-clause-begun
returns-clause-begun g c =
    rw c.load_inc-inc.ensures.same
    (has_begun _ _ c.in_ok-slot.slot c.load_inc-before.result _ _ (c.in_ok-slot.ensures.claims refl) c.load_inc-before.ensures.shows _ _ _ c.in_ok-slot.ensures.within
    (rw c.load_inc-before.ensures.same at c.store_private.ensures.next) c.load_inc-inc.ensures.shows)
