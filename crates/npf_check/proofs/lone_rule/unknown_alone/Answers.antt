use Rattle.std.proofs.Common.{[], sym, ◌∙◌}
use Rattle.npf_faults.proofs.FirstLemmas.{earlier-none}
use Rattle.npf_check.proofs.lone_rule.unknown_alone.Goals as goal

pub returns : goal.returns
returns c = sym (c.pass.ensures [] ∙ earlier-none c.pass.new.self.first)
