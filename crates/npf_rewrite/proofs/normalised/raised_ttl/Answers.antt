use Rattle.std.proofs.Common.{Some, ap, sym, ◌∙◌}
use Rattle.npf_rewrite.specs.Normalised.{raised_ttl}
use Rattle.npf_rewrite.proofs.normalised.raised_ttl.Goals as goal

pub returns-in-V4 : goal.returns-in-V4
returns-in-V4 c =
    let raised = raised_ttl c.args.bytes.now c.args.facts.now.ip_at in
    c.raised_v4.ensures c.in-V4.field-0
    ∙ ap (λ src. raised src (Some c.in-Some.least)) (sym c.in-V4.is)
    ∙ ap (raised c.args.facts.now.src) (sym c.in-Some.is)

pub returns-in-V6 : goal.returns-in-V6
returns-in-V6 c =
    let raised = raised_ttl c.args.bytes.now c.args.facts.now.ip_at in
    c.raised_v6.ensures c.in-V6.field-0
    ∙ ap (λ src. raised src (Some c.in-Some.least)) (sym c.in-V6.is)
    ∙ ap (raised c.args.facts.now.src) (sym c.in-Some.is)
