use Rattle.std.{proofs.{Common.{List, subst, sym}, lemmas.Slice.Zip.AllZip-long}, specs.List.AllZip}
use Rattle.npf_model.specs.{declared.group.Group.Group, Verdict.all_rules}
use Rattle.npf_ruleset.specs.{declared.flat.FlatRule.FlatRule, Flat.{IsFlatGroup, IsFlatRule, programs_of}, Refusal.IsWithinLimits}
use Rattle.npf_ruleset.proofs.PairLemmas.{zip_each}
use Rattle.npf_ruleset.proofs.builder.assemble.Goals as goal

pub invariant_of-result : goal.invariant_of-result
invariant_of-result c =
    let groups = c.args.model.groups in
    let flat_groups = c.of_vec.result in
    let rules = c.of_vec-2.result in
    let for_groups : AllZip IsFlatGroup groups flat_groups =
    subst (AllZip IsFlatGroup groups) (sym c.of_vec.ensures)
    (subst (λ (all : List Group). AllZip IsFlatGroup all c.in_ok-layout.layout.groups.items) c.as_slice.ensures c.in_ok-layout.ensures.groups) in
    let for_rules : AllZip (IsFlatRule groups) (all_rules groups) rules =
    subst (AllZip (IsFlatRule groups) (all_rules groups)) (sym c.of_vec-2.ensures)
    (subst (λ (all : List Group). AllZip (IsFlatRule all) (all_rules all) c.in_ok-rules.rules.items) c.as_slice-2.ensures c.in_ok-rules.ensures.rules) in
    let count = AllZip-long (IsFlatRule groups) (all_rules groups) rules for_rules in
    record {
      flat = record {
        group_count = AllZip-long IsFlatGroup groups flat_groups for_groups;
        each_group = zip_each IsFlatGroup groups flat_groups for_groups;
        rule_count = count;
        each_rule = zip_each (IsFlatRule groups) (all_rules groups) rules for_rules;
      };
      buildable = c.requires.buildable;
      limits = subst (λ (all : List FlatRule). IsWithinLimits c.args.model (programs_of all)) (sym c.of_vec-2.ensures)
          (subst (IsWithinLimits c.args.model) (sym c.in_ok-rules.ensures.programs) c.requires.programs);
      declared = c.requires.tables;
    }
