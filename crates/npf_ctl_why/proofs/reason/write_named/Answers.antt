use Rattle.std.proofs.Common.{List, ℕ, ◌++◌, refl, ap, subst, ◌∙◌, append_assoc}
use Rattle.npf_shelf.proofs.OptionLemmas.{OnOk-weaker}
use Rattle.npf_why.specs.declared.sentence.Sentence.{Sentence}
use Rattle.npf_why.specs.Sentence.{sentence_of}
use Rattle.npf_model.specs.declared.iface.Iface.{Iface}
use Rattle.npf_ctl_why.specs.{Reason.NamesNear, Sentences.{sentence_text, shown_at}}
use Rattle.npf_ctl_why.proofs.reason.write_named.Goals as goal

pub returns : goal.returns
returns c =
    let old = c.args.into.now.items in
    let fault = c.args.fault.now in
    let front = sentence_text (sentence_of fault.fault) (shown_at c.args.text.now fault.span) in
    OnOk-weaker _ _ c.write_near.result
    (λ adds. (
      front ++ adds.0,
      adds.1
          ∙ ap (λ (us : List ℕ). us ++ adds.0) (c.in_ok-write_sentence.ensures
          ∙ ap (λ (s : Sentence). old ++ sentence_text s c.shown.result.now) c.of-sentence.ensures
          ∙ ap (λ (us : List ℕ). old ++ sentence_text (sentence_of fault.fault) us) c.shown.ensures)
          ∙ append_assoc old front adds.0,
      (adds.0, refl, subst (λ (ifaces : List Iface). NamesNear ifaces c.args.text.now fault adds.0) c.as_slice.ensures adds.2),
    )) c.write_near.ensures
