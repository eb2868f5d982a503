use Rattle.std.proofs.Common.{◌∙◌}
use Rattle.npf_model.specs.Verdict.{rules_of}
use Rattle.npf_unused.specs.Unused.{placed_uses}
use Rattle.npf_unused.proofs.UsableLemmas.{any_within}
use Rattle.npf_unused.proofs.usable.some_rule_uses.Goals as goal

pub returns : goal.returns
returns c = c.some_group_uses.ensures ∙ any_within (placed_uses c.args.usable) rules_of c.args.groups.now
