use Rattle.std.proofs.Common.{Ok, ap, ◌∙◌}
use Rattle.npf_judge.proofs.QuestionLemmas.{is_question, order_answer}
use Rattle.npf_judge.proofs.judge.ask_cells.Goals as goal

pub rules-requires-clause-is : goal.rules-requires-clause-is
rules-requires-clause-is c =
    let products = c.requires.products in
    is_question c.args.tables.now c.args.products.now products.span c.args.asked.now.class c.args.asked.now.order.now c.in_ok-all.all c.in_ok-packets.packets
    c.decider_with-place.result products.first products.count c.decider_with-place.ensures.first c.decider_with-place.ensures.count c.decider_with-place.ensures.place
    products.are c.in_ok-all.ensures.of c.in_ok-packets.ensures.of c.in_ok-all.ensures.all c.in_ok-packets.ensures.narrowed

pub decided-requires-clause-is : goal.decided-requires-clause-is
decided-requires-clause-is c =
    let products = c.requires.products in
    is_question c.args.tables.now c.args.products.now products.span c.args.asked.now.class c.args.asked.now.order.now c.in_ok-all.all c.in_ok-packets.packets
    c.decider_with-place.result products.first products.count c.decider_with-place.ensures.first c.decider_with-place.ensures.count c.decider_with-place.ensures.place
    products.are c.in_ok-all.ensures.of c.in_ok-packets.ensures.of c.in_ok-all.ensures.all c.in_ok-packets.ensures.narrowed

pub returns-clause-answer : goal.returns-clause-answer
returns-clause-answer c =
    order_answer c.args.asked.now.class.now c.args.asked.now.order.now c.in_ok-packets.packets c.args.tables.now
    (record { rules = c.in_ok-rules.rules; none = c.in_ok-none.none }) (c.in_ok-packets.ensures.of.tables_are ∙ c.in_ok-all.ensures.of.tables_are)
    c.in_ok-rules.ensures.count c.in_ok-rules.ensures.sound c.in_ok-rules.ensures.whole (λ none. c.in_ok-none.ensures.none (ap Ok none)) c.in_ok-none.ensures.found
