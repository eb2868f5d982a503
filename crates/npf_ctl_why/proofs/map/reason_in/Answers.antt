use Rattle.std.proofs.{Common.{List, refl, subst}, lemmas.Result.IfOk-weaker}
use Rattle.npf_lexer.specs.declared.token.Token.{Token}
use Rattle.npf_parser.specs.Parse.{Parses}
use Rattle.npf_why.proofs.RemainsLemmas.{lexed_fault}
use Rattle.npf_ctl_why.{specs.Map.IsReasonIn, proofs.ReasonLemmas.no_meaning}
use Rattle.npf_ctl_why.proofs.map.reason_in.Goals as goal

pub returns-in-Err-Fault : goal.returns-in-Err-Fault
returns-in-Err-Fault c =
    IsReasonIn.no_tokens c.in-Err-Fault.field-0-0
    (lexed_fault c.args.text.now c.in-Err-Fault.field-0 c.in-Err-Fault.field-0-0 c.in-Err-Fault.field-0-is c.in-Err-Fault.ensures.fault) refl

pub returns-in-Ok-parse : goal.returns-in-Ok-parse
returns-in-Ok-parse c =
    let tokens = c.in-Ok.tokens.items in
    let tree = c.in-Ok-parse.tree in
    let parsed = subst (λ (ts : List Token). Parses ts tree) c.deref.ensures.value c.in-Ok-parse.ensures.tree in
    IfOk-weaker c.reason_in_tree.result _ _ (λ reason of_tree. IsReasonIn.read tokens tree c.in-Ok.ensures.tokens parsed of_tree) c.reason_in_tree.ensures

pub returns : goal.returns
returns c =
    IsReasonIn.halted c.in-Ok.tokens.items c.in-Ok.ensures.tokens
    (no_meaning c.in-Ok.tokens.items c.deref.result.now c.in-Err-Fault-parse.field-0 c.in-Err-Fault-parse.field-0-0 c.deref.ensures.value c.in-Err-Fault-parse.field-0-is
    c.in-Err-Fault-parse.ensures.refused) refl
