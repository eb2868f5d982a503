use Rattle.std.proofs.Common.{◌≡◌, ◌≤◌, length}
use Rattle.npf_judge.specs.Order.{AreSound}
use Rattle.npf_judge.proofs.QuestionLemmas.{AreWholeBefore}
use Rattle.npf_judge.proofs.question.Question.rules.Given as goal

abbrev pub invariant-loop-at : goal.invariant-loop-at
invariant-loop-at l = record {
  count : length l.rules.items ≡ length l.self.order.now;
  sound : AreSound l.self.packets.tables.now l.self.class.now l.self.order.now l.rules.items;
  whole : AreWholeBefore l.self.packets.tables.now l.self.class.now l.self.order.now l.at l.rules.items;
  most : l.steps.most ≡ l.initial.steps.most;
  rises : l.initial.steps.taken ≤ l.steps.taken;
}
