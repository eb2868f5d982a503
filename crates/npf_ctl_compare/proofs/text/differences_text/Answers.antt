use Rattle.std.proofs.Common.{◌++◌, ◌∙◌, sym, ap, List, ℕ}
use Rattle.std.specs.List.{flat_map}
use Rattle.npf_compare.specs.declared.difference.RuleDifference.{RuleDifference}
use Rattle.npf_compare_maps.specs.declared.difference.MapDifference.{MapDifference}
use Rattle.npf_model.specs.declared.settings.Parameter.{Parameter}
use Rattle.npf_ctl_compare.specs.{CompareText.{alg_lines, count_line, map_difference_line, parameter_line, rule_difference_line}}
use Rattle.npf_ctl_compare.proofs.TextLemmas.{lines_counted, lines_joined, together}
use Rattle.npf_ctl_compare.proofs.text.differences_text.Goals as goal

pub returns : goal.returns
returns c =
    let old = c.args.old.now.model in
    let new = c.args.new.now.model in
    let ifaces = c.args.ifaces.now in
    let differences = c.args.differences.now in
    let rule : RuleDifference → List ℕ = rule_difference_line old new ifaces in
    let map : MapDifference → List ℕ = map_difference_line ifaces in
    let parameter : Parameter → List ℕ = parameter_line old new in
    together (flat_map rule differences.rules.items) (flat_map map differences.maps.items) (flat_map parameter differences.parameters.items)
    (flat_map (λ line. line) (alg_lines old new differences.alg_icmp)) (count_line _)
    (lines_joined old new ifaces differences) c.new-text.ensures.items
    (c.in_ok-write_rules.ensures ∙ ap (λ all. c.new-text.result.items ++ flat_map rule all) c.as_slice.ensures.value)
    (c.in_ok-write_maps.ensures ∙ ap (λ all. c.write_rules.new.into.items ++ flat_map map all) c.as_slice-2.ensures.value)
    (c.in_ok-write_parameters.ensures ∙ ap (λ all. c.write_maps.new.into.items ++ flat_map parameter all) c.as_slice-3.ensures.value)
    c.in_ok-write_alg.ensures
    (c.in_ok-write_count.ensures ∙ ap (λ n. c.write_alg.new.into.items ++ count_line n) (c.lines.ensures ∙ sym (lines_counted old new ifaces differences)))
