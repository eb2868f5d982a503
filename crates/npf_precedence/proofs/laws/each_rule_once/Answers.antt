use Rattle.npf_precedence.proofs.PlaceLemmas.{each_rule_once_lem}
use Rattle.npf_precedence.proofs.laws.each_rule_once.Goals as goal

pub returns : goal.returns
returns c = each_rule_once_lem
