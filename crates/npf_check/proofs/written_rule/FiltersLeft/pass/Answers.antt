use Rattle.std.proofs.Common.{ap, ◌∙◌}
use Rattle.npf_faults.specs.First.{earlier}
use Rattle.npf_check.{specs.WrittenRule.{faults_of_pass, pass_of_map}, proofs.PairLemmas.{pairs_step, pairs_past}}
use Rattle.npf_check.proofs.written_rule.FiltersLeft.pass.Goals as goal

pub returns-in-Some-split_first : goal.returns-in-Some-split_first
returns-in-Some-split_first c = λ more.
    let first = c.args.self.now.first in
    let next = c.in-Some-split_first in
    pairs_step faults_of_pass first c.earlier-self.result (pass_of_map c.args.stmt.now) c.in-Some.pass.now more next.map.now next.rest.now c.args.self.now.rest.now
    c.in-Some.ensures next.ensures.cases.0 (c.earlier-self.ensures ∙ ap (earlier first) c.filter_fault.ensures)

pub returns-in_default-split_first : goal.returns-in_default-split_first
returns-in_default-split_first c = λ more.
    pairs_past faults_of_pass c.args.self.now.first (pass_of_map c.args.stmt.now) more c.args.self.now.rest.now c.in_default-split_first.ensures.cases
