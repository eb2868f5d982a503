use Rattle.std.proofs.Common.{◌≡◌, Err, refl, sym, subst, rules, arith}
use Rattle.npf_phrase.{specs.{Phrase.Reading, Grammar.meaning}, proofs.ListLemmas.leaves}
use Rattle.npf_lexer.specs.declared.token.{Sign.TheVariants.Comma, Token.Token}
use Rattle.npf_parser_values.specs.{declared.stop.Stop.{Stop, TheVariants.{Before, NoMemory}}, Answer.{Answers, AnswersAlone}, Token.sign}
use Rattle.npf_parser.{specs.Procedure.{opt, options}, proofs.LineLemmas.{next_opt_advances, opt_advances}}
use Rattle.npf_parser_values.proofs.LoopLemmas.{list_goes, list_ends, list_fails}
use Rattle.npf_parser.proofs.procedure.read_options.Goals as goal

-- a stop where no memory is taken is one where it may be wanted
stops : {A : Type 0} (reading : Reading Token A) (stop : Stop) → AnswersAlone reading (Err stop) → Answers reading (Err stop)
stops reading (Before at) is = is
stops reading NoMemory never = tt

pub returns-in_err-option : goal.returns-in_err-option
unfolding options
returns-in_err-option c =
    let same : c.from_residual.result ≡ Err c.in_err-option.field-0.0 = search rules in
    subst (Answers ((meaning options).read c.args.tokens.now)) (sym same) (list_fails (sign Comma) opt next_opt_advances refl
    ((meaning options).read c.args.tokens.now) c.options.options.items c.options.rest.now c.options.invariant c.in_err-option.field-0.0
    (stops ((meaning opt).read c.options.rest.now) c.in_err-option.field-0.0 c.in_err-option.ensures))

pub options-smaller : goal.options-smaller
options-smaller c =
    let before = leaves opt opt_advances c.options.rest.now c.in_ok-option.option c.in_ok-option.behind.now c.in_ok-option.ensures in
    omega (arith, c.in-Some.ensures.left)

pub options-preserved : goal.options-preserved
unfolding options
options-preserved c =
    rw c.in_ok-push.ensures.items (list_goes (sign Comma) opt next_opt_advances refl ((meaning options).read c.args.tokens.now) c.options.options.items
    c.options.rest.now c.options.invariant c.in_ok-option.option c.in_ok-option.behind c.in-Some.next c.in_ok-option.ensures c.in-Some.ensures.begins)

pub returns-in-None : goal.returns-in-None
unfolding options
returns-in-None c =
    rw (c.of_vec.ensures, c.in_ok-push.ensures.items) (list_ends (sign Comma) opt next_opt_advances refl
    ((meaning options).read c.args.tokens.now) c.options.options.items c.options.rest.now c.options.invariant
    c.in_ok-option.option c.in_ok-option.behind c.in_ok-option.ensures c.in-None.ensures.begins)
