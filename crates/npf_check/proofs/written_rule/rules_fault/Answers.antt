use Rattle.std.{proofs.Common.{◌≡◌, None, [], zip, append-nil, ap, sym, ◌∙◌}, specs.List.flat_map}
use Rattle.npf_faults.{specs.First.earlier, proofs.FirstLemmas.earlier-none}
use Rattle.npf_check.specs.declared.written_rule.GroupKind.TheVariants.{Default}
use Rattle.npf_check.{specs.WrittenRule.{faults_of_group, faults_of_pass, items_by_group, items_in, pass_of_map}, proofs.FaultLemmas.joined}
use Rattle.npf_check.specs.Pair.{first_beside}
use Rattle.npf_check.proofs.written_rule.rules_fault.Goals as goal

pub returns : goal.returns
returns c =
    let stmts = c.as_slice-stmts.result.now in
    let named = c.in_groups-named.result in
    let default = c.in_groups-default.result in
    let defaults = flat_map (items_in Default) stmts in
    let behind : first_beside faults_of_group None defaults named.rest.now ≡ default.first =
    ap (λ items. first_beside faults_of_group None items named.rest.now) (sym (append-nil defaults))
    ∙ c.in_groups-default.ensures [] ∙ earlier-none default.first in
    let groups = c.in_groups-named.ensures defaults ∙ ap (earlier named.first) behind in
    rw (← c.as_slice-stmts.ensures, ← c.as_slice.ensures, ← c.as_slice-2.ensures)
    (joined (flat_map faults_of_group (zip (items_by_group stmts) c.as_slice.result.now))
    (flat_map faults_of_pass (zip (flat_map pass_of_map stmts) c.as_slice-2.result.now)) c.earlier.result c.filters_fault-in_maps.result c.earlier-2.result
    (c.earlier.ensures ∙ sym groups) c.filters_fault-in_maps.ensures c.earlier-2.ensures)
