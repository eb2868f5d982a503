use Rattle.std.proofs.{Common.{◌++◌, ◌∙◌, List, ℕ, OnOk, ap, subst, append-nil, arith}, lemmas.List.drop_all}
use Rattle.npf_types.specs.Name.{name_bytes}
use Rattle.npf_outside.specs.Sink.{Appends, AppendsFront}
use Rattle.npf_report.specs.LineText.{line_text}
use Rattle.npf_ctl_output.proofs.report.put_line.Goals as goal

pub returns-clause-whole : goal.returns-clause-whole
returns-clause-whole g c =
    let text = line_text c.args.n (name_bytes c.args.crossed.now.name) c.args.crossed.now.dir c.args.outcome.now in
    let nothing = drop_all 192 c.args.page.now (omega arith) in
    let line = c.line_at.ensures ∙ c.write_line-start.ensures.line ∙ ap (λ rest. text ++ rest) nothing ∙ append-nil text in
    subst (λ (said : List ℕ). OnOk c.put.result (Appends (g.O.Sink.moment c.args.out.now).held (g.O.Sink.moment c.put.new.out).held said)) line c.put.ensures.whole

pub returns-clause-front : goal.returns-clause-front
returns-clause-front g c =
    let text = line_text c.args.n (name_bytes c.args.crossed.now.name) c.args.crossed.now.dir c.args.outcome.now in
    let nothing = drop_all 192 c.args.page.now (omega arith) in
    let line = c.line_at.ensures ∙ c.write_line-start.ensures.line ∙ ap (λ rest. text ++ rest) nothing ∙ append-nil text in
    subst (λ (said : List ℕ). AppendsFront (g.O.Sink.moment c.args.out.now).held (g.O.Sink.moment c.put.new.out).held said) line c.put.ensures.front
