use Rattle.std.proofs.Common.{arith}
use Rattle.npf_engine.proofs.HandlerLemmas.{answers_by_conn, answers_by_quoted, answers_by_rules, config_there}
use Rattle.npf_engine.proofs.handler.answer.Goals as goal

pub returns-in-Some-clause-answers : goal.returns-in-Some-clause-answers
returns-in-Some-clause-answers g c =
    answers_by_conn c.args.crossing.now _ _ _ c.arg_of-arg.ensures c.key_of.ensures c.key_of-2.ensures c.args.configs.now c.args.reader.now _ c.requires.decodes _ _
    c.in-Some.met c.in-Some.ensures.does c.by_conn.ensures.explains

pub returns-in-Some-find_quoted-clause-answers : goal.returns-in-Some-find_quoted-clause-answers
returns-in-Some-find_quoted-clause-answers g c =
    answers_by_quoted c.args.crossing.now _ _ _ c.arg_of-arg.ensures c.key_of.ensures c.key_of-2.ensures c.args.configs.now c.args.reader.now _ c.requires.decodes _ _ _
    c.read-number.result c.index-configs-number.result
    (config_there c.args.configs.now c.read-number.result c.index-configs-number.result (omega arith) c.index-configs-number.is)
    c.in_default.ensures.does c.read-number.ensures _ c.in-Some-find_quoted.met (rw c.model.ensures at c.in-Some-find_quoted.ensures.does) c.by_quoted.ensures.explains

pub returns-clause-answers : goal.returns-clause-answers
returns-clause-answers g c =
    answers_by_rules c.args.crossing.now _ _ _ c.arg_of-arg.ensures c.key_of.ensures c.key_of-2.ensures c.args.configs.now c.args.reader.now _ c.requires.decodes _ _ _
    c.read-number.result c.index-configs-number.result
    (config_there c.args.configs.now c.read-number.result c.index-configs-number.result (omega arith) c.index-configs-number.is)
    c.in_default.ensures.does c.read-number.ensures _ _ (rw c.model.ensures at c.in_default-find_quoted.ensures.does) c.answer_by_rules.ensures.does
