use Rattle.std.proofs.Common.{sym, subst}
use Rattle.npf_why.{specs.Remains.AreTokensOf, proofs.RemainsLemmas.lexed_fault}
use Rattle.npf_why.proofs.remains.tokens_of.Goals as goal

pub returns-in-Ok : goal.returns-in-Ok
returns-in-Ok c = AreTokensOf.lexed c.in-Ok.ensures.tokens

pub returns-in-Err-Fault : goal.returns-in-Err-Fault
returns-in-Err-Fault c = subst (AreTokensOf c.args.bytes.now) (sym c.new.ensures.items)
    (AreTokensOf.unlexed (lexed_fault c.args.bytes.now c.in-Err-Fault.field-0 c.in-Err-Fault.field-0-0 c.in-Err-Fault.field-0-is c.in-Err-Fault.ensures.fault))
