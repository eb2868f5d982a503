use Rattle.std.proofs.Common.{arith, refl, inl, ap, ◌∙◌}
use Rattle.npf_conndb.proofs.BeginLemmas.{claimed_builds, builds_bare, next_fits, may_store, begun}
use Rattle.npf_conndb.proofs.begin.begin.Goals as goal

pub load_inc-inc-requires-clause-fixed : goal.load_inc-inc-requires-clause-fixed
load_inc-inc-requires-clause-fixed g c = inl (claimed_builds g.L.Law.meaning c.args.n c.in_ok-slot.slot _ _ (c.in_ok-slot.ensures.claims refl))

pub overflow_add-inc : goal.overflow_add-inc
overflow_add-inc g c =
    let fits = next_fits g.L.Law.meaning c.args.n c.in_ok-slot.slot _ _ (c.in_ok-slot.ensures.claims refl) c.load_inc-inc.result c.load_inc-inc.ensures.shows in
    omega (arith, fits)

pub store_private-requires-clause-may : goal.store_private-requires-clause-may
store_private-requires-clause-may g c =
    rw c.load_inc-inc.ensures.same (inl (may_store g.L.Law.meaning c.args.n c.in_ok-slot.slot _ _ (c.in_ok-slot.ensures.claims refl) c.load_inc-inc.result c.load_inc-inc.ensures.shows))

pub clear_note-requires-clause-bare : goal.clear_note-requires-clause-bare
clear_note-requires-clause-bare g c =
    let stored = rw c.load_inc-inc.ensures.same at c.store_private.ensures.next in
    builds_bare g.L.Law.meaning c.args.n c.in_ok-slot.slot _ _ (c.in_ok-slot.ensures.claims refl) _ _ (ap (λ y. y.0.pools.builds) stored) (ap (λ y. y.0.seats.history) stored)

pub clear_note-requires-2-clause-bare : goal.clear_note-requires-2-clause-bare
clear_note-requires-2-clause-bare g c =
    let stored = rw c.load_inc-inc.ensures.same at c.store_private.ensures.next in
    let first = c.clear_note.ensures.next in
    builds_bare g.L.Law.meaning c.args.n c.in_ok-slot.slot _ _ (c.in_ok-slot.ensures.claims refl) _ _ (ap (λ y. y.0.pools.builds) first
    ∙ ap (λ y. y.0.pools.builds) stored) (ap (λ y. y.0.seats.history) first ∙ ap (λ y. y.0.seats.history) stored)

pub clear_note-requires-3-clause-bare : goal.clear_note-requires-3-clause-bare
clear_note-requires-3-clause-bare g c =
    let stored = rw c.load_inc-inc.ensures.same at c.store_private.ensures.next in
    let first = c.clear_note.ensures.next in
    let second = c.clear_note-2.ensures.next in
    builds_bare g.L.Law.meaning c.args.n c.in_ok-slot.slot _ _ (c.in_ok-slot.ensures.claims refl) _ _
    (ap (λ y. y.0.pools.builds) second ∙ (ap (λ y. y.0.pools.builds) first ∙ ap (λ y. y.0.pools.builds) stored))
    (ap (λ y. y.0.seats.history) second ∙ (ap (λ y. y.0.seats.history) first ∙ ap (λ y. y.0.seats.history) stored))

pub returns-clause-begins : goal.returns-clause-begins
returns-clause-begins g c =
    let stored = rw c.load_inc-inc.ensures.same at c.store_private.ensures.next in
    begun g.L.Law.meaning c.args.n c.in_ok-slot.slot _ _
    (c.in_ok-slot.ensures.claims refl) c.load_inc-inc.result c.load_inc-inc.ensures.shows _ _ _ _ stored c.clear_note.ensures.next c.clear_note-2.ensures.next c.clear_note-3.ensures.next
