use Rattle.std.proofs.Common.{◌<◌, ℕ, length, subst}
use Rattle.npf_lint.specs.Order.{HasFindingOf}
use Rattle.npf_lint.proofs.OrderLemmas.{is_rule_order}
use Rattle.npf_lint.proofs.question.lint_cells.Goals as goal

pub findings-requires-clause-is : goal.findings-requires-clause-is
findings-requires-clause-is c =
    is_rule_order c.args.tables.now c.args.products.now c.args.rules.order.now c.in_ok-packets.packets c.requires.products c.in_ok-packets.ensures.of c.in_ok-packets.ensures.all

pub returns-clause-each : goal.returns-clause-each
returns-clause-each c =
    subst (λ tables. (at : ℕ) → at < length c.args.rules.order.now → HasFindingOf c.args.rules.model.now tables c.args.rules.order.now c.in_ok-findings.findings.items at)
    c.in_ok-packets.ensures.of.tables_are c.in_ok-findings.ensures.each
