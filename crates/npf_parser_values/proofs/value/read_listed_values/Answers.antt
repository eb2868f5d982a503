use Rattle.std.proofs.Common.{◌≡◌, true, Err, refl, sym, subst, rules, arith}
use Rattle.npf_phrase.{specs.Grammar.meaning, proofs.ListLemmas.{leaves, shortens}}
use Rattle.npf_lexer.specs.declared.token.Sign.TheVariants.{Comma}
use Rattle.npf_parser_values.specs.{Answer.Answers, Value.{value, listed_values}, Token.{spaced, sign}}
use Rattle.npf_parser_values.proofs.{LineLemmas.{next_value_advances, value_advances}, LoopLemmas.{list_goes, list_ends, list_fails}}
use Rattle.npf_parser_values.proofs.value.read_listed_values.Goals as goal

pub returns-in_err-value : goal.returns-in_err-value
unfolding listed_values
returns-in_err-value c =
    let same : c.from_residual.result ≡ Err c.in_err-value.field-0.0 = search rules in
    subst (Answers ((meaning (listed_values c.args.role)).read c.args.tokens.now)) (sym same) (list_fails (spaced true (sign Comma)) (value c.args.role true)
    (next_value_advances c.args.role) refl
    ((meaning (listed_values c.args.role)).read c.args.tokens.now) c.values.values.items c.values.rest.now c.values.invariant c.in_err-value.field-0.0 c.in_err-value.ensures)

pub values-smaller : goal.values-smaller
values-smaller c =
    let before = leaves (value c.args.role true) (value_advances c.args.role) c.values.rest.now c.in_ok-value.value c.in_ok-value.behind.now c.in_ok-value.ensures in
    let fewer = shortens (spaced true (sign Comma)) refl refl c.in_ok-value.behind.now tt c.in-Some.next.now c.in-Some.ensures.1 in
    omega arith

pub values-preserved : goal.values-preserved
unfolding listed_values
values-preserved c =
    rw c.in_ok-push.ensures.items (list_goes (spaced true (sign Comma)) (value c.args.role true) (next_value_advances c.args.role) refl
    ((meaning (listed_values c.args.role)).read c.args.tokens.now) c.values.values.items c.values.rest.now c.values.invariant
    c.in_ok-value.value c.in_ok-value.behind c.in-Some.next c.in_ok-value.ensures c.in-Some.ensures)

pub returns-in-None : goal.returns-in-None
unfolding listed_values
returns-in-None c =
    rw (c.of_vec.ensures, c.in_ok-push.ensures.items) (list_ends (spaced true (sign Comma)) (value c.args.role true) (next_value_advances c.args.role) refl
    ((meaning (listed_values c.args.role)).read c.args.tokens.now) c.values.values.items c.values.rest.now
    c.values.invariant c.in_ok-value.value c.in_ok-value.behind c.in_ok-value.ensures c.in-None.ensures)
