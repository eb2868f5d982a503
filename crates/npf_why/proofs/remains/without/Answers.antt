use Rattle.std.proofs.{Common.{◌∙◌, List, length, ap, subst}, lemmas.Result.IfOk-weaker}
use Rattle.npf_lexer.specs.declared.token.Token.{Token}
use Rattle.npf_why.{specs.{declared.stretch.Stretch.Stretch, Remains.{IsTextWithout, TakesOutPart}, Stretch.stretch_of}, proofs.RemainsLemmas.lexed_fault}
use Rattle.npf_why.proofs.remains.without.Goals as goal

pub returns-in-Ok-clause-taken : goal.returns-in-Ok-clause-taken
returns-in-Ok-clause-taken c =
    let text = c.args.text.now in
    let at = c.args.span.at in
    let is = c.stretch_of-part.ensures ∙ ap (λ (ts : List Token). stretch_of (length text) at ts) c.deref.ensures.value in
    IfOk-weaker c.take_out.result _ _ (λ it left. TakesOutPart.part c.in-Ok.tokens.items c.stretch_of-part.result c.in-Ok.ensures.tokens is left) c.take_out.ensures.left

pub returns-in-Err-Fault-clause-taken : goal.returns-in-Err-Fault-clause-taken
returns-in-Err-Fault-clause-taken c =
    let text = c.args.text.now in
    let fault = lexed_fault text c.in-Err-Fault.field-0 c.in-Err-Fault.field-0-0 c.in-Err-Fault.field-0-is c.in-Err-Fault.ensures.fault in
    IfOk-weaker c.take_out-in-Err-Fault.result _ _
    (λ it left. TakesOutPart.line c.in-Err-Fault.field-0-0 fault (subst (λ (s : Stretch). IsTextWithout text s c.args.span.at it.left.items it.gone.items) c.line_of.ensures left))
    c.take_out-in-Err-Fault.ensures.left
