use Rattle.std.{proofs.{Common.{◌++◌, [], length, sym, ap, subst, ◌∙◌}, lemmas.Result.IfOk-weaker}, specs.List.AllZip}
use Rattle.npf_model.specs.{declared.group.Item.Item, Verdict.rules_at}
use Rattle.npf_ruleset.specs.Flat.{programs_of}
use Rattle.npf_config_changes.specs.{Kept.{Keeps, Serves, ruleset_change, programs_changed}, Rulesets.item_with_ruleset}
use Rattle.npf_config_changes.proofs.KeptLemmas.{dynamic_len, named_keeps, other_keeps}
use Rattle.npf_config_changes.proofs.programs.add_item.Goals as goal

pub add_changed-requires : goal.add_changed-requires
add_changed-requires c =
    let here = c.args.here.now in
    let item = c.in-Dynamic in
    ap length c.as_slice.ensures
    ∙ dynamic_len item.own item.dir item.on item.next_id item.rules here (subst (λ (one : Item). AllZip Serves (rules_at one) (programs_of here)) item.is c.requires.serve)

pub returns-then-is_name : goal.returns-then-is_name
returns-then-is_name c =
    let here = c.args.here.now in
    let item = c.in-Dynamic in
    let change = c.args.change in
    let name = c.args.name.now in
    let old = c.args.programs.now.items in
    let new = c.add_changed.new.programs.items in
    let serve = subst (λ (one : Item). AllZip Serves (rules_at one) (programs_of here)) item.is c.requires.serve in
    IfOk-weaker c.add_changed.result _ _ (λ _ are.
    subst (λ (one : Item). Keeps change (rules_at (item_with_ruleset name (ruleset_change change) one)) here [] old new) (sym item.is)
    (named_keeps change name here old new item.own item.dir item.on item.next_id item.rules serve c.requires.served (sym c.is_name.ensures ∙ c.if-is_name.true)
    (are ∙ ap (λ rules. old ++ programs_changed change rules here) c.as_slice.ensures))) c.add_changed.ensures

pub returns-else-is_name : goal.returns-else-is_name
returns-else-is_name c =
    let here = c.args.here.now in
    let item = c.in-Dynamic in
    let change = c.args.change in
    let name = c.args.name.now in
    let old = c.args.programs.now.items in
    let new = c.add-in-Dynamic.new.programs.items in
    let serve = subst (λ (one : Item). AllZip Serves (rules_at one) (programs_of here)) item.is c.requires.serve in
    IfOk-weaker c.add-in-Dynamic.result _ _ (λ _ are.
    subst (λ (one : Item). Keeps change (rules_at (item_with_ruleset name (ruleset_change change) one)) here [] old new) (sym item.is)
    (other_keeps change name here old new item.own item.dir item.on item.next_id item.rules serve (sym c.is_name.ensures ∙ c.if-is_name.false) are)) c.add-in-Dynamic.ensures
