use Rattle.std.{proofs.{Common.{◌≡◌, ◌+◌, [], Some, List, drop, length, slice_get, refl, subst}, lemmas.Option.slice_get_read}, specs.List.AllZip}
use Rattle.npf_model.specs.Verdict.{PlacedRule, all_rules, rules_of}
use Rattle.npf_ruleset.specs.Flat.{programs_of}
use Rattle.npf_config_changes.{specs.{Kept.{Serves, ruleset_change}, Rulesets.group_with_ruleset}, proofs.KeptLemmas.{keeps_next, rules_left}}
use Rattle.npf_config_changes.proofs.programs.changed_programs.Goals as goal

pub loop-group-preserved : goal.loop-group-preserved
loop-group-preserved c =
    let groups = c.args.groups.now in
    let i = c.loop-group.group-index in
    let group = c.group-item.result in
    let left = c.loop-group.left.now in
    let changed = group_with_ruleset c.args.name.now (ruleset_change c.args.change) in
    let at : slice_get groups i ≡ Some group = slice_get_read groups (length groups) i group refl c.loop-group-test.true c.group-item.is in
    record {
      keeps = keeps_next rules_of changed groups i group at c.args.change c.args.flats.now [] c.loop-group.programs.items c.add_group.new.programs.items left c.in_ok-left.left.now
          c.loop-group.invariant.keeps c.in_ok-left.ensures.keeps;
      left = c.in_ok-left.ensures.left (all_rules (drop (i + 1) groups))
          (subst (λ (all : List PlacedRule). AllZip Serves all (programs_of left)) (rules_left rules_of groups i group at) c.loop-group.invariant.left);
    }
