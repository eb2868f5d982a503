use Rattle.std.proofs.Common.{List, [], ◌++◌, refl, sym, ap, subst, ◌∙◌, append-nil}
use Rattle.npf_shelf.proofs.OptionLemmas.{OnOk-weaker}
use Rattle.npf_lexer.specs.declared.token.Token.{Token}
use Rattle.npf_parser.specs.Parse.{Parses}
use Rattle.npf_ctl_why.{specs.{Names.near_text, Reason.NamesNear}, proofs.ReasonLemmas.no_meaning}
use Rattle.npf_why.proofs.RemainsLemmas.{lexed_fault}
use Rattle.npf_ctl_why.proofs.reason.write_near.Goals as goal

pub returns-in-Err-Fault : goal.returns-in-Err-Fault
returns-in-Err-Fault c = (
  [],
  sym (append-nil c.args.into.now.items),
  NamesNear.no_tokens c.in-Err-Fault.field-0-0 (lexed_fault c.args.text.now c.in-Err-Fault.field-0 c.in-Err-Fault.field-0-0 c.in-Err-Fault.field-0-is c.in-Err-Fault.ensures.fault) refl,
)

pub returns-in-Ok-parse : goal.returns-in-Ok-parse
returns-in-Ok-parse c =
    let tokens = c.in-Ok.tokens.items in
    let tree = c.in-Ok-parse.tree in
    OnOk-weaker _ _ c.write_near_names.result
    (λ is. (
      near_text c.args.ifaces.now tokens tree c.args.fault.now,
      is ∙ ap (λ (ts : List Token). c.args.into.now.items ++ near_text c.args.ifaces.now ts tree c.args.fault.now) c.deref-in-Ok-parse.ensures.value,
      NamesNear.read tokens tree c.in-Ok.ensures.tokens (subst (λ (ts : List Token). Parses ts tree) c.deref.ensures.value c.in-Ok-parse.ensures.tree) refl,
    )) c.write_near_names.ensures

pub returns : goal.returns
returns c = (
  [],
  sym (append-nil c.args.into.now.items),
  NamesNear.halted c.in-Ok.tokens.items c.in-Ok.ensures.tokens
      (no_meaning c.in-Ok.tokens.items c.deref.result.now c.in-Err-Fault-parse.field-0 c.in-Err-Fault-parse.field-0-0 c.deref.ensures.value c.in-Err-Fault-parse.field-0-is
      c.in-Err-Fault-parse.ensures.refused) refl,
)
