use Rattle.npf_parser_values.proofs.TextLemmas.{is_utf8_true, is_utf8_false}
use Rattle.npf_parser_values.proofs.leaf.is_utf8.Goals as goal

pub returns-in-Ok : goal.returns-in-Ok
returns-in-Ok c = is_utf8_true c.args.text.now c.in-Ok.ensures.cases.1

pub returns-in-Err : goal.returns-in-Err
returns-in-Err c = is_utf8_false c.args.text.now c.in-Err.ensures.cases.0
