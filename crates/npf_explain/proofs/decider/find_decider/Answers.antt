use Rattle.std.proofs.Common.{Some, None, ap, ◌∙◌}
use Rattle.npf_model.specs.declared.model.Model.{Model}
use Rattle.npf_ruleset.specs.Tables.{entries}
use Rattle.npf_precedence.specs.Precedence.{in_order}
use Rattle.npf_explain.proofs.{AskedLemmas.found_by, DeciderLemmas.{none_decides, one_decides}}
use Rattle.npf_explain.proofs.decider.find_decider.Goals as goal

pub returns-in-Some : goal.returns-in-Some
returns-in-Some c =
    let asked = c.args.asked.now in
    let order = c.in_ok-order.order.items in
    let laid = c.in_ok-order.ensures ∙ ap in_order (c.as_slice.ensures ∙ ap (λ (m : Model). m.groups) c.model.ensures) in
    let found = found_by c.args.config.now asked order (Some c.in-Some.entry) c.requires (cc (c.first_match.ensures, c.as_slice-2.ensures.value, c.in-Some.is)) in
    one_decides (entries c.args.config.now.tables.items) asked.facts.now asked.ifid asked.dir c.args.config.now.model order laid c.in-Some.entry found

pub returns : goal.returns
returns c =
    let asked = c.args.asked.now in
    let order = c.in_ok-order.order.items in
    let laid = c.in_ok-order.ensures ∙ ap in_order (c.as_slice.ensures ∙ ap (λ (m : Model). m.groups) c.model.ensures) in
    let found = found_by c.args.config.now asked order None c.requires (cc (c.first_match.ensures, c.as_slice-2.ensures.value, c.in-None.is)) in
    none_decides (entries c.args.config.now.tables.items) asked.facts.now asked.ifid asked.dir c.args.config.now.model order laid found
