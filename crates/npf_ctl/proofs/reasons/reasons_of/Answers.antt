use Rattle.std.proofs.Common.{rules, ◌≡◌, ◌∙◌, ◌-◌, ℕ, List, [], Err, refl, subst, sym}
use Rattle.npf_lexer.specs.declared.token.Token.{Token}
use Rattle.npf_ctl_messages.specs.declared.fault.CommandFault.TheVariants.{NoMemory}
use Rattle.npf_ctl.specs.{declared.reasons.TheConstants.MAX_LOADS, Reasons.{TellsFaults, TellsReason}}
use Rattle.npf_ctl.proofs.reasons.reasons_of.Goals as goal

pub returns-then-not-is_placed-clause-tells : goal.returns-then-not-is_placed-clause-tells
returns-then-not-is_placed-clause-tells g c = λ before after around. TellsReason.unsaid (sym c.is_placed.ensures ∙ c.if-not-is_placed.true)

pub returns-in_err-left-clause-tells : goal.returns-in_err-left-clause-tells
returns-in_err-left-clause-tells g c =
    let same : c.from_residual.result ≡ Err NoMemory = search rules in
    λ before after around. rw same TellsReason.memory

pub returns-in_err-said-clause-tells : goal.returns-in_err-said-clause-tells
returns-in_err-said-clause-tells g c =
    let same : c.from_residual-in_err-said.result ≡ Err NoMemory = search rules in
    λ before after around. rw same TellsReason.memory

pub returns-clause-tells : goal.returns-clause-tells
returns-clause-tells g c =
    let given = c.args.source.ifaces.now.list in
    let conf = c.args.source.conf.now in
    let fault = c.args.fault in
    let said = c.in_ok-said.said.items in
    let copied : c.in_ok-left.left.items ≡ c.args.text.now = search rules in
    let none : c.new-gone.result.items ≡ [] = search rules in
    λ before after around.
    TellsReason.said refl (sym c.is_placed.ensures ∙ c.if-not-is_placed.false)
    (subst (λ (text : List ℕ). TellsFaults before after given conf (MAX_LOADS - 1) text [] fault said) copied
    (subst (λ (gone : List Token). TellsFaults before after given conf (MAX_LOADS - 1) c.in_ok-left.left.items gone fault said) none
    (c.in_ok-said.ensures.tells before after around)))
