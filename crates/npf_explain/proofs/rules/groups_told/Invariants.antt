use Rattle.std.proofs.Common.{take}
use Rattle.npf_ruleset.specs.Tables.{entries}
use Rattle.npf_explain.proofs.GroupLemmas.{TellsFront}
use Rattle.npf_explain.proofs.rules.groups_told.Given as goal

abbrev pub invariant-loop-group : goal.invariant-loop-group
invariant-loop-group l = TellsFront (entries l.asked.tables.now) l.asked.facts.now l.asked.ifid l.asked.dir l.decider (take l.group-index l.groups) l.told.items l.first
