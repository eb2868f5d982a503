use Rattle.std.proofs.Common.{rules, ◌≡◌, Err}
use Rattle.npf_ruleset.specs.Configuration.{configuration}
use Rattle.npf_ctl.proofs.QuestionLemmas.{refused_question, spent_question}
use Rattle.npf_ctl.proofs.questions.answer_to.Goals as goal

pub returns-in_err-asked-clause-err : goal.returns-in_err-asked-clause-err
returns-in_err-asked-clause-err c =
    let fault = c.in_err-asked.field-0.0 in
    let same : c.from_residual.result ≡ Err fault = search rules in
    let refuses = rw (c.own_name.ensures, c.class_text.ensures) at c.in_err-asked.ensures.err in
    rw same (refused_question c.args.ifaces.list (configuration c.args.config) c.args.question fault refuses)

pub returns-clause-err : goal.returns-clause-err
returns-clause-err c =
    spent_question c.args.ifaces.list (configuration c.args.config) c.args.question c.answer_asked.result c.answer_asked.ensures.err
