use Rattle.std.proofs.Common.{ℕ, IfSome, slice_get, subst}
use Rattle.npf_lint.proofs.OrderLemmas.{is_rule_order}
use Rattle.npf_dead_groups.specs.Comes.{IsGroupFinding}
use Rattle.npf_dead_groups.proofs.question.reached_cells.Goals as goal

pub reached-requires-clause-is : goal.reached-requires-clause-is
reached-requires-clause-is c =
    is_rule_order c.args.tables.now c.args.products.now c.args.rules.entries.now c.in_ok-packets.packets c.requires.products c.in_ok-packets.ensures.of c.in_ok-packets.ensures.all

pub returns-clause-each : goal.returns-clause-each
returns-clause-each c =
    subst (λ tables. (place : ℕ) → IfSome (slice_get c.in_ok-found.found.items place) (IsGroupFinding tables c.args.rules.groups.now place))
    c.in_ok-packets.ensures.of.tables_are c.in_ok-found.ensures.each
