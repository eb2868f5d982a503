use Rattle.std.proofs.Common.{◌≡◌, Err, refl, sym, subst, rules, arith}
use Rattle.npf_phrase.{specs.Grammar.meaning, proofs.ListLemmas.leaves}
use Rattle.npf_lexer.specs.declared.token.Sign.TheVariants.{Comma}
use Rattle.npf_parser_values.{specs.{Answer.Answers, Value.{one, ones}, Token.sign}, proofs.LineLemmas.{next_one_advances, one_advances}}
use Rattle.npf_parser_values.proofs.LoopLemmas.{list_goes, list_ends, list_fails}
use Rattle.npf_parser_values.proofs.protocol.read_ones.Goals as goal

pub returns-in_err-one : goal.returns-in_err-one
unfolding ones
returns-in_err-one c =
    let same : c.from_residual.result ≡ Err c.in_err-one.field-0.0 = search rules in
    subst (Answers ((meaning ones).read c.args.tokens.now)) (sym same) (list_fails (sign Comma) one next_one_advances refl
    ((meaning ones).read c.args.tokens.now) c.ones.ones.items c.ones.rest.now c.ones.invariant c.in_err-one.field-0.0 c.in_err-one.ensures)

pub ones-smaller : goal.ones-smaller
ones-smaller c =
    let before = leaves one one_advances c.ones.rest.now c.in_ok-one.one c.in_ok-one.behind.now c.in_ok-one.ensures in
    omega (arith, c.in-Some.ensures.left)

pub ones-preserved : goal.ones-preserved
unfolding ones
ones-preserved c =
    rw c.in_ok-push.ensures.items (list_goes (sign Comma) one next_one_advances refl
    ((meaning ones).read c.args.tokens.now) c.ones.ones.items c.ones.rest.now c.ones.invariant c.in_ok-one.one c.in_ok-one.behind c.in-Some.next c.in_ok-one.ensures c.in-Some.ensures.begins)

pub returns-in-None : goal.returns-in-None
unfolding ones
returns-in-None c =
    rw (c.of_vec.ensures, c.in_ok-push.ensures.items) (list_ends (sign Comma) one next_one_advances refl
    ((meaning ones).read c.args.tokens.now) c.ones.ones.items c.ones.rest.now c.ones.invariant c.in_ok-one.one c.in_ok-one.behind c.in_ok-one.ensures c.in-None.ensures.begins)
