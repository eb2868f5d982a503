use Rattle.std.proofs.Common.{rules}
use Rattle.std.proofs.lemmas.Slice.Zip.{zip_turn, zip_end}
use Rattle.npf_ctl_lint.specs.GroupLine.{found_group_line}
use Rattle.npf_ctl_lint.proofs.TextLemmas.{pairs_more, pairs_done}
use Rattle.npf_ctl_lint.proofs.group_line.write_groups.Goals as goal

pub loop-group-preserved : goal.loop-group-preserved
loop-group-preserved c =
    let groups = c.args.groups.now in
    let found = c.args.found.now in
    let met = c.loop-group.yielded in
    let turn = zip_turn groups found met c.into_iter-group-iterator.result c.loop-group.group-iterator c.next.new.self c.next.result
    (cc) (cc) c.loop-group.yielded_by (c.in-Some.group, c.in-Some.packet) c.in-Some.is c.next.ensures.steps in
    record {
      can = search rules;
      finite = search rules;
      so_far = pairs_more found_group_line groups found met (c.in-Some.group, c.in-Some.packet) _ c.loop-group.into.items _
          turn.0 turn.1 (turn.2 c.in-Some.group.now) (turn.3 c.in-Some.packet.now) c.loop-group.invariant.so_far c.in_ok-write_group.ensures;
    }

pub returns : goal.returns
returns c =
    pairs_done found_group_line c.args.groups.now c.args.found.now c.loop-group.yielded _ c.loop-group.into.items
    (zip_end c.args.groups.now c.args.found.now c.loop-group.yielded c.into_iter-group-iterator.result c.loop-group.group-iterator c.next.new.self
    c.next.result (cc) (cc) c.loop-group.yielded_by c.in-None.is c.next.ensures.steps)
    c.loop-group.invariant.so_far
