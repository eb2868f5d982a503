use Rattle.std.proofs.Common.{[], ◌∷◌, ap, ◌∙◌}
use Rattle.npf_turn.proofs.{MarkLemmas.none_marked, RegainLemmas.{emptied_so, lock_alone, marks_same, marks_still, returns_none}}
use Rattle.npf_turn.proofs.regains.regain.Goals as goal

pub take_off-requires-clause-emptied : goal.take_off-requires-clause-emptied
take_off-requires-clause-emptied g c =
    let gets = c.try_lock.ensures.gets c.if-not-try_lock.false in
    let alone = lock_alone c.args.node c.load_state.result c.load_parent-code.result c.lock.result c.args.pass.now.seat.me
    _ _ _ c.load_state.ensures.next c.load_parent-code.ensures.next gets c.requires.unlocked in
    let marks = marks_same c.args.node c.load_state.result c.load_parent-code.result c.lock.result c.args.pass.now.seat.me
    _ _ _ c.load_state.ensures.next c.load_parent-code.ensures.next gets c.requires.unlocked in
    emptied_so c.in-Some.place c.clear_locked-cleared.result _ _ c.clear_locked-cleared.ensures.tries c.if-cleared.true
    (alone ∙ ap (λ lock. lock ∷ []) c.lock.ensures) (marks ∙ none_marked c.requires.own c.requires.unlocked)

pub unlock-requires-clause-unmarked : goal.unlock-requires-clause-unmarked
unlock-requires-clause-unmarked g c =
    let gets = c.try_lock.ensures.gets c.if-not-try_lock.false in
    let marks = marks_same c.args.node c.load_state.result c.load_parent-code.result c.lock.result c.args.pass.now.seat.me
    _ _ _ c.load_state.ensures.next c.load_parent-code.ensures.next gets c.requires.unlocked in
    marks_still c.in-Some.place c.clear_locked-cleared.result _ _ c.clear_locked-cleared.ensures.tries ∙ (marks ∙ none_marked c.requires.own c.requires.unlocked)

pub returns-else-cleared-clause-returns : goal.returns-else-cleared-clause-returns
returns-else-cleared-clause-returns g c =
    returns_none c.args.node c.load_state.result c.load_parent-code.result c.lock.result c.args.pass.now.seat.me _ _ _ c.load_state.ensures.next c.load_parent-code.ensures.next
    (c.try_lock.ensures.gets c.if-not-try_lock.false) c.requires.unlocked c.in-Some.place c.clear_locked-cleared.result
    _ _ c.clear_locked-cleared.ensures.tries c.if-cleared.false c.unlock.ensures.frees
