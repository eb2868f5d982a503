use Rattle.std.proofs.{lemmas.Result.err_from_is_err_and, Common.{List, subst, Err}}
use Rattle.npf_parser.specs.{Parse.{HaltsAt, OnFault}, Stmt.file}
use Rattle.npf_syntax.specs.declared.stmt.Tree.{Tree}
use Rattle.npf_faults.specs.declared.fault.ConfFault.{ConfFault}
use Rattle.npf_lexer.specs.declared.token.Token.{Token}
use Rattle.npf_config.proofs.FaultLemmas.{grammar_refused, tokens_refused}
use Rattle.npf_config.proofs.text.read_tree.Goals as goal

pub returns-in_err-tokens-clause-refuses : goal.returns-in_err-tokens-clause-refuses
returns-in_err-tokens-clause-refuses c =
    let p = err_from_is_err_and c.from_residual.result c.from_residual.ensures.1 in
    λ ifaces. rw (p.1, p.2) (tokens_refused ifaces c.args.text.now c.in_err-tokens.field-0.0 c.in_err-tokens.ensures.fault)

pub returns-in_err-parse-clause-refuses : goal.returns-in_err-parse-clause-refuses
returns-in_err-parse-clause-refuses c =
    let p = err_from_is_err_and c.from_residual-in_err-parse.result c.from_residual-in_err-parse.ensures.1 in
    let refused = c.in_err-parse.field-0.0 in
    let halts = subst (λ (tokens : List Token). OnFault {A = Tree} (Err refused) (λ (fault : ConfFault). HaltsAt file tokens fault.span)) c.deref.ensures.value c.in_err-parse.ensures.halts in
    λ ifaces. rw (p.1, p.2) (grammar_refused ifaces c.args.text.now c.in_ok-tokens.tokens.items c.in_ok-tokens.ensures.tokens refused halts c.in_err-parse.ensures.fault)
