use Rattle.std.{proofs.Common.{Bool, None, sym, subst, ◌∙◌}, specs.Prelude.if◌then◌else◌}
use Rattle.npf_model.specs.Describes.{fits_flags, opens_if_tcp}
use Rattle.npf_bpfgen.{specs.Tail.Extends, proofs.{FlagLemmas.opening_asked, ProgramLemmas.guards_alike}}
use Rattle.npf_bpfgen.proofs.flag.put_kept.Goals as goal

pub returns-in_ok-put_opening-clause-front : goal.returns-in_ok-put_opening-clause-front
returns-in_ok-put_opening-clause-front c =
    subst (λ (asks : Bool). Extends (if asks then 7 else 0) 1 c.args.tail.now c.put_opening.new.tail)
    (sym (sym c.asks_opening.ensures ∙ c.if-asks_opening.true)) c.in_ok-put_opening.ensures.front

pub returns-in_ok-put_opening-clause-value : goal.returns-in_ok-put_opening-clause-value
returns-in_ok-put_opening-clause-value c =
    let decision = c.args.decision in
    let state = c.args.state in
    guards_alike (λ tables facts. opens_if_tcp facts.l4) (λ tables facts. fits_flags None decision state facts.l4)
    c.args.tail.now c.put_opening.new.tail
    (λ tables facts. opening_asked decision state facts.l4 (sym c.asks_opening.ensures ∙ c.if-asks_opening.true))
    c.in_ok-put_opening.ensures.value
