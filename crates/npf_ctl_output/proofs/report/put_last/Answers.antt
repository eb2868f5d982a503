use Rattle.std.proofs.{Common.{◌++◌, ◌∙◌, List, ℕ, ap, subst, append-nil, arith}, lemmas.{List.drop_all, Result.on_ok_weaker}}
use Rattle.npf_outside.specs.Sink.{Appends, AppendsFront}
use Rattle.npf_report.specs.TotalText.{total_text}
use Rattle.npf_ctl_output.proofs.report.put_last.Goals as goal

pub returns-clause-whole : goal.returns-clause-whole
returns-clause-whole g c =
    let nothing = drop_all 192 c.args.page.now (omega arith) in
    on_ok_weaker c.put.result (λ put outcomes counts.
    subst (λ (said : List ℕ). Appends (g.O.Sink.moment c.args.out.now).held (g.O.Sink.moment c.put.new.out).held said)
    (c.line_at.ensures ∙ c.write_total-start.ensures.line outcomes counts ∙ ap (λ rest. total_text outcomes ++ rest) nothing ∙ append-nil (total_text outcomes)) put)
    c.put.ensures.whole

pub returns-clause-front : goal.returns-clause-front
returns-clause-front g c = λ outcomes counts.
    let nothing = drop_all 192 c.args.page.now (omega arith) in
    subst (λ (said : List ℕ). AppendsFront (g.O.Sink.moment c.args.out.now).held (g.O.Sink.moment c.put.new.out).held said)
    (c.line_at.ensures ∙ c.write_total-start.ensures.line outcomes counts ∙ ap (λ rest. total_text outcomes ++ rest) nothing ∙ append-nil (total_text outcomes))
    c.put.ensures.front
