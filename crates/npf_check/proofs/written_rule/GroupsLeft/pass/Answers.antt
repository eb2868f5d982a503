use Rattle.std.{proofs.Common.{zip, ap, ◌∙◌}, specs.List.flat_map}
use Rattle.npf_faults.specs.First.{earlier, first_fault}
use Rattle.npf_check.{specs.WrittenRule.{faults_of_group, faults_of_item, items_in}, proofs.PairLemmas.{pairs_step, pairs_past}}
use Rattle.npf_check.proofs.written_rule.GroupsLeft.pass.Goals as goal

pub returns-in-Some-split_first : goal.returns-in-Some-split_first
returns-in-Some-split_first c = λ more.
    let first = c.args.self.now.first in
    let items = c.in-Some.items.now in
    let next = c.in-Some-split_first in
    pairs_step faults_of_group first c.earlier-self.result (items_in c.args.kind c.args.stmt.now) items more next.group.now next.rest.now c.args.self.now.rest.now
    c.in-Some.ensures next.ensures.cases.0
    (c.earlier-self.ensures ∙ ap (earlier first) (c.items_fault.ensures ∙ ap (λ meant. first_fault (flat_map faults_of_item (zip items meant))) c.as_slice.ensures))

pub returns-in_default-split_first : goal.returns-in_default-split_first
returns-in_default-split_first c = λ more.
    pairs_past faults_of_group c.args.self.now.first (items_in c.args.kind c.args.stmt.now) more c.args.self.now.rest.now c.in_default-split_first.ensures.cases
