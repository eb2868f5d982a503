use Rattle.std.proofs.Common.{sym, ◌∙◌}
use Rattle.npf_compare.proofs.BothLemmas.{none_both, unlike_found}
use Rattle.npf_compare.proofs.both.BothOrders.unlike.Goals as goal

pub returns-clause-none : goal.returns-clause-none
returns-clause-none c = λ none packet first.
    absurd (none_both c.args.self.now.old c.args.self.now.new c.args.self.now.packets c.requires.of c.args.at c.args.other c.args.matched.now c.in_ok-decided.decided
    c.in_ok-both.both c.decider_with-by_new.result c.decider_with-by_old.result c.requires.matched
    c.decider_with-by_new.ensures.first c.decider_with-by_new.ensures.count c.decider_with-by_new.ensures.place
    c.decider_with-by_old.ensures.first c.decider_with-by_old.ensures.count c.decider_with-by_old.ensures.place
    c.in_ok-decided.ensures.of c.in_ok-decided.ensures.narrowed c.in_ok-both.ensures.narrowed (c.packet.ensures.none none) packet first)

pub returns-clause-found : goal.returns-clause-found
returns-clause-found c =
    unlike_found c.args.self.now.old c.args.self.now.new c.args.self.now.packets c.requires.of c.args.at c.args.other c.args.matched.now c.in_ok-decided.decided
    c.in_ok-both.both c.decider_with-by_new.result c.decider_with-by_old.result c.requires.matched
    c.decider_with-by_new.ensures.first c.decider_with-by_new.ensures.count c.decider_with-by_new.ensures.place
    c.decider_with-by_old.ensures.first c.decider_with-by_old.ensures.count c.decider_with-by_old.ensures.place
    c.in_ok-decided.ensures.of c.in_ok-decided.ensures.narrowed c.in_ok-both.ensures.narrowed
    (λ same. c.is_same.ensures.other c.if-is_same.false (c.effect.ensures ∙ same ∙ sym c.effect-2.ensures)) c.packet.result c.packet.ensures.possible c.packet.ensures.found
