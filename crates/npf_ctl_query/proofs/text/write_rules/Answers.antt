use Rattle.std.proofs.Common.{◌++◌, List, ap, ◌∙◌, arith}
use Rattle.npf_model.specs.declared.iface.Iface.{Iface}
use Rattle.npf_ctl_query.specs.QueryText.{decider_line, decider_lines}
use Rattle.npf_ctl_query.proofs.TextLemmas.{lines_done, lines_more}
use Rattle.npf_ctl_query.proofs.text.write_rules.Goals as goal

pub loop-place-preserved : goal.loop-place-preserved
loop-place-preserved c =
    let ifaces = c.args.ifaces.now.list in
    let model = c.args.config.now.model in
    let rules = c.args.answer.now.rules.items in
    lines_more ifaces model rules c.loop-place.place c.rule-found.result (c.args.into.now.items ++ decider_lines ifaces model 0 rules) c.loop-place.into.items c.write_found.new.into.items
    (omega (arith, c.loop-place-test.true)) c.rule-found.ensures c.loop-place.invariant
    (c.in_ok-write_found.ensures ∙ ap (λ (given : List Iface). c.loop-place.into.items ++ decider_line given model c.loop-place.place c.rule-found.result) c.as_slice.ensures)

pub returns : goal.returns
returns c =
    let ifaces = c.args.ifaces.now.list in
    let model = c.args.config.now.model in
    let rules = c.args.answer.now.rules.items in
    lines_done ifaces model rules c.loop-place.place (c.args.into.now.items ++ decider_lines ifaces model 0 rules) c.loop-place.into.items
    (omega (arith, c.loop-place-test.false)) c.loop-place.invariant
