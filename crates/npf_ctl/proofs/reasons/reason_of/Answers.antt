use Rattle.std.proofs.Common.{rules, ◌≡◌, ◌∙◌, Err, refl, sym}
use Rattle.npf_ctl_messages.specs.declared.fault.CommandFault.TheVariants.{NoMemory}
use Rattle.npf_ctl.specs.Reasons.{TellsReason}
use Rattle.npf_ctl.proofs.reasons.reason_of.Goals as goal

pub returns-then-not-is_placed : goal.returns-then-not-is_placed
returns-then-not-is_placed c = TellsReason.unsaid (sym c.is_placed.ensures ∙ c.if-not-is_placed.true)

pub returns-in_err-said : goal.returns-in_err-said
returns-in_err-said c =
    let same : c.from_residual.result ≡ Err NoMemory = search rules in
    rw same TellsReason.memory

pub returns : goal.returns
returns c = TellsReason.said refl (sym c.is_placed.ensures ∙ c.if-not-is_placed.false) c.in_ok-said.ensures
