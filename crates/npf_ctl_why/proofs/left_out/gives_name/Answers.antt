use Rattle.std.proofs.Common.{◌∙◌, ◌+◌, ◌||◌, Bool, drop, sym, ap, arith}
use Rattle.npf_ctl_why.{specs.LeftOut.gives_name, proofs.LeftOutLemmas.gives_here}
use Rattle.npf_ctl_why.proofs.left_out.gives_name.Goals as goal

pub returns-then-is_same_word : goal.returns-then-is_same_word
returns-then-is_same_word c =
    let fault = c.args.fault in
    let name = c.args.name.now in
    let gone = c.args.gone.now in
    let place = c.loop-place.place in
    let here = gives_here fault name gone place (grind (arith, c.loop-place-test.true)) c.split_at.result.1.now c.split_at.ensures.back _ c.name_of_statement.ensures c.is_same_word.result
    c.is_same_word.ensures in
    sym (c.loop-place.invariant.left ∙ here ∙ ap (λ (b : Bool). b || gives_name fault name (drop (place + 1) gone)) c.if-is_same_word.true)

pub loop-place-preserved : goal.loop-place-preserved
loop-place-preserved c =
    let fault = c.args.fault in
    let name = c.args.name.now in
    let gone = c.args.gone.now in
    let place = c.loop-place.place in
    let here = gives_here fault name gone place (grind (arith, c.loop-place-test.true)) c.split_at.result.1.now c.split_at.ensures.back _ c.name_of_statement.ensures c.is_same_word.result
    c.is_same_word.ensures in
    record { left = c.loop-place.invariant.left ∙ here ∙ ap (λ (b : Bool). b || gives_name fault name (drop (place + 1) gone)) c.if-is_same_word.false }
