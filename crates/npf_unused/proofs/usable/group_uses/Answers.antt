use Rattle.std.proofs.Common.{ap, ◌∙◌}
use Rattle.std.specs.List.{list_any}
use Rattle.npf_model.specs.Verdict.{rules_at}
use Rattle.npf_unused.specs.Unused.{placed_uses}
use Rattle.npf_unused.proofs.UsableLemmas.{any_within}
use Rattle.npf_unused.proofs.usable.group_uses.Goals as goal

pub returns : goal.returns
returns c =
    c.some_item_uses.ensures
    ∙ ap (list_any (λ item. list_any (placed_uses c.args.usable) (rules_at item))) c.as_slice.ensures
    ∙ any_within (placed_uses c.args.usable) rules_at c.args.group.now.items
