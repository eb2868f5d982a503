use Rattle.npf_parser.{specs.Stmt.lone_rule, proofs.{FineLemmas.{lone_rule_fine, lone_rule_ends}, LineLemmas.lone_rule_advances}}
use Rattle.npf_parser.proofs.ParseLemmas.{one_thing, not_both, means, halts, refused, complete, exactly, stops}
use Rattle.npf_parser.proofs.stmt.parse_rule.Goals as goal

pub returns-in-Ok-clause-rule : goal.returns-in-Ok-clause-rule
returns-in-Ok-clause-rule c = means lone_rule lone_rule_advances c.args.tokens.now c.in-Ok.rule c.in-Ok.field-0-1.now c.in-Ok.ensures

pub returns-in-Ok-clause-complete : goal.returns-in-Ok-clause-complete
returns-in-Ok-clause-complete c = λ other is. one_thing lone_rule lone_rule_advances c.args.tokens.now c.in-Ok.rule other
    (means lone_rule lone_rule_advances c.args.tokens.now c.in-Ok.rule c.in-Ok.field-0-1.now c.in-Ok.ensures) is

pub returns-in-Ok-clause-exactly : goal.returns-in-Ok-clause-exactly
returns-in-Ok-clause-exactly c = λ span there. not_both lone_rule lone_rule_advances c.args.tokens.now span (
  c.in-Ok.rule,
  means lone_rule lone_rule_advances c.args.tokens.now c.in-Ok.rule c.in-Ok.field-0-1.now c.in-Ok.ensures,
) there

pub returns-in-Err-clause-refused : goal.returns-in-Err-clause-refused
returns-in-Err-clause-refused c = rw c.refused_by.ensures (refused lone_rule lone_rule_advances c.args.tokens.now c.in-Err.stop c.in-Err.ensures)

pub returns-in-Err-clause-stops : goal.returns-in-Err-clause-stops
returns-in-Err-clause-stops c = rw c.refused_by.ensures (stops lone_rule lone_rule_advances lone_rule_fine lone_rule_ends c.args.tokens.now c.in-Err.stop c.in-Err.ensures)

pub returns-in-Err-clause-halts : goal.returns-in-Err-clause-halts
returns-in-Err-clause-halts c = rw c.refused_by.ensures (halts lone_rule lone_rule_advances c.args.tokens.now c.in-Err.stop c.in-Err.ensures)

pub returns-in-Err-clause-complete : goal.returns-in-Err-clause-complete
returns-in-Err-clause-complete c = λ other is. rw c.refused_by.ensures (complete lone_rule lone_rule_advances c.args.tokens.now c.in-Err.stop c.in-Err.ensures other is)

pub returns-in-Err-clause-exactly : goal.returns-in-Err-clause-exactly
returns-in-Err-clause-exactly c = λ span there. rw c.refused_by.ensures (exactly lone_rule lone_rule_advances c.args.tokens.now c.in-Err.stop c.in-Err.ensures span there)
