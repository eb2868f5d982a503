use Rattle.std.proofs.{Common.{Err, List, subst}, lemmas.Result.err_from_is_err_and}
use Rattle.npf_faults.specs.declared.fault.ConfFault.{ConfFault}
use Rattle.npf_lexer.specs.declared.token.Token.{Token}
use Rattle.npf_syntax.specs.declared.rule.RuleTree.{RuleTree}
use Rattle.npf_parser.specs.{Parse.{HaltsAt, Means, OnFault}, Stmt.lone_rule}
use Rattle.npf_config_changes.{specs.Additions.written, proofs.ReadLemmas.{grammar_refused, tokens_refused}}
use Rattle.npf_config_changes.proofs.text.read_rule.Goals as goal

pub returns-in_err-tokens-clause-err : goal.returns-in_err-tokens-clause-err
returns-in_err-tokens-clause-err c =
    let p = err_from_is_err_and c.from_residual.result c.from_residual.ensures.1 in
    rw (p.1, p.2) (tokens_refused c.args.text.now c.in_err-tokens.field-0.0 c.in_err-tokens.ensures.fault)

pub returns-in_err-parse_rule-clause-err : goal.returns-in_err-parse_rule-clause-err
returns-in_err-parse_rule-clause-err c =
    let p = err_from_is_err_and c.from_residual-in_err-parse_rule.result c.from_residual-in_err-parse_rule.ensures.1 in
    let refused = c.in_err-parse_rule.field-0.0 in
    let halts = subst (λ (tokens : List Token). OnFault {A = RuleTree} (Err refused) (λ (fault : ConfFault).
    HaltsAt lone_rule tokens fault.span)) c.deref.ensures.value c.in_err-parse_rule.ensures.halts in
    rw (p.1, p.2) (grammar_refused c.args.text.now c.in_ok-tokens.tokens.items c.in_ok-tokens.ensures.tokens refused halts c.in_err-parse_rule.ensures.fault)

pub returns-clause-ok : goal.returns-clause-ok
returns-clause-ok c =
    written c.in_ok-tokens.ensures.tokens (subst (λ (tokens : List Token). Means lone_rule tokens c.in_ok-parse_rule.field-0) c.deref.ensures.value c.in_ok-parse_rule.ensures.rule)
