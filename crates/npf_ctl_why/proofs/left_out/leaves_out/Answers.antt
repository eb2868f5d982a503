use Rattle.std.proofs.Common.{◌∙◌, List, ap}
use Rattle.npf_lexer.specs.declared.token.Token.{Token}
use Rattle.npf_why.proofs.RemainsLemmas.{lexed_fault}
use Rattle.npf_ctl_why.specs.LeftOut.{LeavesOut, is_left_out}
use Rattle.npf_ctl_why.proofs.left_out.leaves_out.Goals as goal

pub returns-in-Ok : goal.returns-in-Ok
returns-in-Ok c = LeavesOut.lexed c.in-Ok.tokens.items c.in-Ok.ensures.tokens
    (c.is_left_out.ensures ∙ ap (λ (ts : List Token). is_left_out c.args.fault.now c.args.gone.now ts) c.deref.ensures.value)

pub returns-in-Err-Fault : goal.returns-in-Err-Fault
returns-in-Err-Fault c = LeavesOut.unlexed c.in-Err-Fault.field-0-0
    (lexed_fault c.args.text.now c.in-Err-Fault.field-0 c.in-Err-Fault.field-0-0 c.in-Err-Fault.field-0-is c.in-Err-Fault.ensures.fault)
