use Rattle.std.proofs.Common.{sym, ap, ◌∙◌}
use Rattle.std.specs.List.{list_any}
use Rattle.npf_model.specs.Verdict.{rules_at}
use Rattle.npf_unused.specs.Unused.{placed_uses, rule_uses}
use Rattle.npf_unused.proofs.UsableLemmas.{any_map}
use Rattle.npf_unused.proofs.usable.item_uses.Goals as goal

pub returns-in-Dynamic : goal.returns-in-Dynamic
returns-in-Dynamic c =
    c.some_numbered_uses.ensures
    ∙ ap (list_any (λ numbered. rule_uses c.args.usable numbered.1)) c.as_slice.ensures
    ∙ any_map (placed_uses c.args.usable) (λ numbered. record { within_dir = c.in-Dynamic.dir; within_on = c.in-Dynamic.on; rule = numbered.1 }) c.in-Dynamic.rules
    ∙ ap (λ item. list_any (placed_uses c.args.usable) (rules_at item)) (sym c.in-Dynamic.is)
