use Rattle.std.{proofs.Common.{◌≡◌, ◌∙◌, List, ℕ, ap, refl}, specs.Int.w16}
use Rattle.npf_types.specs.declared.change.End.{End}
use Rattle.npf_saved.{specs.{Fields.FitsEnd, Spelling.{addr_text, end_text, hex_text, or_dash}}, proofs.CutLemmas.{rest_behind, word_before}}
use Rattle.npf_saved.proofs.{FieldLemmas.addr_lacks, GuessLemmas.{dash_is_none, end_differs, not_dash, word_is_some}}
use Rattle.npf_saved.proofs.guess.guess_optional_end.Goals as goal

pub returns-then-is_dash-clause-value : goal.returns-then-is_dash-clause-value
returns-then-is_dash-clause-value c = dash_is_none FitsEnd end_text (λ one fits. end_differs one) c.args.word.now (c.is_dash.ensures.0 c.if-is_dash.true)

pub returns-clause-value : goal.returns-clause-value
returns-clause-value c = word_is_some FitsEnd end_text c.args.word.now _ (not_dash c.args.word.now c.is_dash.result c.is_dash.ensures c.if-is_dash.false)
    (λ one fits is.
    let lack = addr_lacks 43 refl one.addr in
    let port = or_dash (hex_text w16) one.port in
    let addr_is = c.guess_addr.ensures.value one.addr fits.0 (c.cut.ensures.word ∙ word_before 43 c.args.word.now (addr_text one.addr) port is lack) in
    let port_is = c.guess_optional_port.ensures.value one.port fits.1 (c.cut.ensures.behind ∙ rest_behind 43 c.args.word.now (addr_text one.addr) port is lack) in
    λ i. record { addr = addr_is i; port = port_is i })
