use Rattle.std.proofs.Common.{arith}
use Rattle.npf_config.proofs.LoadedLemmas.{more_ids}
use Rattle.npf_ctl_explain_tests.proofs.loads.with_rule.Goals as goal

pub rule_add-requires-clause-ids : goal.rule_add-requires-clause-ids
rule_add-requires-clause-ids c = more_ids 1 4294967294 (omega arith) c.args.config.now.model c.requires
