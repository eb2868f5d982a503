use Rattle.std.proofs.Common.{ap, ◌∙◌}
use Rattle.npf_turn.proofs.{MarkLemmas.none_marked, RegainLemmas.marks_still}
use Rattle.npf_turn.proofs.regains.clear_mark_at.Goals as goal

pub unlock-requires-clause-unmarked : goal.unlock-requires-clause-unmarked
unlock-requires-clause-unmarked g c = marks_still c.args.place c.clear_locked-cleared.result _ _ c.clear_locked-cleared.ensures.tries
    ∙ (ap (λ y. y.0.trie.marks) (c.try_lock.ensures.gets c.if-not-try_lock.false) ∙ none_marked c.requires.own c.requires.unlocked)
