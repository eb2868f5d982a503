use Rattle.std.proofs.Common.{◌≡◌, ◌++◌, drop}
use Rattle.npf_ctl_query.specs.QueryText.{decider_lines}
use Rattle.npf_ctl_query.proofs.text.write_rules.Given as goal

-- what was told, and then the lines of the rules that are left
abbrev pub invariant-loop-place : goal.invariant-loop-place
invariant-loop-place l =
    l.initial.into.items ++ decider_lines l.ifaces.list l.config.model 0 l.answer.rules.items
    ≡ l.into.items ++ decider_lines l.ifaces.list l.config.model l.place (drop l.place l.answer.rules.items)
