use Rattle.std.proofs.Common.{◌≡◌, Err, sym, subst, rules, arith}
use Rattle.npf_phrase.{specs.Grammar.meaning, proofs.ListLemmas.leaves}
use Rattle.npf_parser_values.specs.Answer.{Answers}
use Rattle.npf_parser.{specs.{Procedure.{call, calls}, Rule.ends_item}, proofs.LineLemmas.{next_call_advances, call_advances}}
use Rattle.npf_parser.proofs.BlockLemmas.{block_skips, block_closes, block_goes, block_ends, block_fails}
use Rattle.npf_parser.proofs.procedure.read_calls.Goals as goal

pub calls-preserved-in-Some : goal.calls-preserved-in-Some
unfolding calls
calls-preserved-in-Some c = block_skips ends_item call next_call_advances
    ((meaning calls).read c.args.tokens.now) c.calls.calls.items c.calls.rest.now c.calls.invariant c.in-Some.next c.if-ends_item.ensures c.in-Some.ensures.begins

pub returns-in-None : goal.returns-in-None
unfolding calls
returns-in-None c = rw c.of_vec.ensures
    (block_closes ends_item call next_call_advances ((meaning calls).read c.args.tokens.now) c.calls.calls.items c.calls.rest.now c.calls.invariant c.if-ends_item.ensures c.in-None.ensures.begins)

pub returns-in_err-call : goal.returns-in_err-call
unfolding calls
returns-in_err-call c =
    let same : c.from_residual.result ≡ Err c.in_err-call.field-0.0 = search rules in
    subst (Answers ((meaning calls).read c.args.tokens.now)) (sym same) (block_fails ends_item call next_call_advances
    ((meaning calls).read c.args.tokens.now) c.calls.calls.items c.calls.rest.now c.calls.invariant c.in_err-call.field-0.0 c.if-ends_item.ensures c.in_err-call.ensures)

pub calls-smaller : goal.calls-smaller
calls-smaller c =
    let before = leaves call call_advances c.calls.rest.now c.in_ok-call.call c.in_ok-call.behind.now c.in_ok-call.ensures in
    omega (arith, c.in-Some-behind_separator.ensures.left)

pub calls-preserved : goal.calls-preserved
unfolding calls
calls-preserved c =
    rw c.in_ok-push.ensures.items (block_goes ends_item call next_call_advances ((meaning calls).read c.args.tokens.now) c.calls.calls.items c.calls.rest.now
    c.calls.invariant c.in_ok-call.call c.in_ok-call.behind c.in-Some-behind_separator.next c.if-ends_item.ensures c.in_ok-call.ensures c.in-Some-behind_separator.ensures.begins)

pub returns-in-None-behind_separator : goal.returns-in-None-behind_separator
unfolding calls
returns-in-None-behind_separator c =
    rw (c.of_vec-in-None-behind_separator.ensures, c.in_ok-push.ensures.items) (block_ends ends_item call next_call_advances
    ((meaning calls).read c.args.tokens.now) c.calls.calls.items c.calls.rest.now c.calls.invariant c.in_ok-call.call
    c.in_ok-call.behind c.if-ends_item.ensures c.in_ok-call.ensures c.in-None-behind_separator.ensures.begins)
