use Rattle.std.proofs.Common.{◌≡◌, ◌+◌, length, ap, arith}
use Rattle.npf_ruleset.specs.Tables.{entries}
use Rattle.npf_explain.proofs.GroupLemmas.{first_small, next_small, tells_more}
use Rattle.npf_explain.proofs.rules.groups_told.Goals as goal

pub rules_of-requires : goal.rules_of-requires
rules_of-requires c = first_small c.args.groups.now c.loop-group.group-index c.loop-group.first c.loop-group.invariant.count c.requires

pub overflow_add-first : goal.overflow_add-first
overflow_add-first c =
    let small = next_small c.args.groups.now c.loop-group.group-index c.group-item.result c.loop-group.first c.in_ok-rules.rules.items c.loop-group-test.true c.group-item.is
    c.loop-group.invariant.count c.requires c.in_ok-rules.ensures in
    let count : c.len.result ≡ length c.in_ok-rules.rules.items = cc (c.len.ensures, c.in_ok-rules.rules.ok.0) in
    omega arith

pub loop-group-preserved : goal.loop-group-preserved
loop-group-preserved c =
    let count : c.len.result ≡ length c.in_ok-rules.rules.items = cc (c.len.ensures, c.in_ok-rules.rules.ok.0) in
    tells_more (entries c.args.asked.now.tables.now) c.args.asked.now.facts.now c.args.asked.now.ifid c.args.asked.now.dir c.args.decider c.args.groups.now
    c.loop-group.group-index c.group-item.result c.loop-group.first (c.loop-group.first + c.len.result) c.loop-group.told.items c.push.new.self.items
    c.in_ok-rules.rules.items c.as_slice.result.now c.group_told-says.result c.in_ok-told_group.field-0 c.loop-group-test.true c.group-item.is c.loop-group.invariant
    c.in_ok-rules.ensures c.as_slice.ensures.value c.group_told-says.ensures c.in_ok-told_group.ensures c.in_ok-push.ensures.items
    (ap (λ k. c.loop-group.first + k) count)
