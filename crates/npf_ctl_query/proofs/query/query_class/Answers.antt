use Rattle.npf_ctl_query.proofs.query.query_class.Goals as goal

pub returns-clause-ok : goal.returns-clause-ok
returns-clause-ok c = record {
  answer = c.in_ok-answer.answer;
  answers = c.in_ok-answer.ensures.ok;
  told = c.in_ok-told.ensures.told;
  holds = c.in_ok-told.ensures.holds c.args.class.now c.in_ok-answer.ensures.ok;
}
