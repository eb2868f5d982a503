use Rattle.std.proofs.Common.{List, ℕ, [], ◌++◌, refl, ap, subst, ◌∙◌}
use Rattle.npf_shelf.proofs.OptionLemmas.{OnOk-weaker}
use Rattle.npf_lexer.specs.declared.token.Token.{Token}
use Rattle.npf_parser.specs.Parse.{Parses}
use Rattle.npf_why.specs.declared.sentence.Sentence.TheVariants as Say
use Rattle.npf_ctl_why.{specs.{Reason.{ExplainsExpected, ExplainsHalt}, Sentences.{sentence_text, shown_at}}, proofs.ReasonLemmas.no_meaning}
use Rattle.npf_why.proofs.RemainsLemmas.{lexed_fault}
use Rattle.npf_ctl_why.proofs.reason.write_expected.Goals as goal

pub returns-in-Err-Fault : goal.returns-in-Err-Fault
returns-in-Err-Fault c = OnOk-weaker _ _ c.write_sentence.result
    (λ is. (
      sentence_text Say.NoToken [],
      is,
      ExplainsExpected.no_tokens c.in-Err-Fault.field-0-0 (lexed_fault c.args.text.now c.in-Err-Fault.field-0 c.in-Err-Fault.field-0-0 c.in-Err-Fault.field-0-is c.in-Err-Fault.ensures.fault) refl,
    )) c.write_sentence.ensures

pub returns-in-Ok-parse : goal.returns-in-Ok-parse
returns-in-Ok-parse c =
    let tree = c.in-Ok-parse.field-0 in
    OnOk-weaker _ _ c.write_sentence-in-Ok-parse.result
    (λ is. (
      sentence_text Say.VariableUnfit (shown_at c.args.text.now c.args.span),
      is ∙ ap (λ (us : List ℕ). c.args.into.now.items ++ sentence_text Say.VariableUnfit us) c.shown.ensures,
      ExplainsExpected.value c.in-Ok.tokens.items tree c.in-Ok.ensures.tokens (subst (λ (ts : List Token). Parses ts tree) c.deref.ensures.value c.in-Ok-parse.ensures.tree) refl,
    )) c.write_sentence-in-Ok-parse.ensures

pub returns : goal.returns
returns c =
    let tokens = c.in-Ok.tokens.items in
    OnOk-weaker _ _ c.write_halt.result
    (λ adds. (
      adds.0,
      adds.1,
      ExplainsExpected.halt tokens c.in-Ok.ensures.tokens
          (no_meaning tokens c.deref.result.now c.in-Err-Fault-parse.field-0 c.in-Err-Fault-parse.field-0-0 c.deref.ensures.value c.in-Err-Fault-parse.field-0-is
          c.in-Err-Fault-parse.ensures.refused)
          (subst (λ (ts : List Token). ExplainsHalt c.args.text.now ts c.args.span adds.0) c.deref-in-Err-Fault-parse.ensures.value adds.2),
    )) c.write_halt.ensures
