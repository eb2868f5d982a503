use Rattle.std.proofs.Common.{rules}
use Rattle.std.proofs.lemmas.Slice.Zip.{zip_turn, zip_end}
use Rattle.npf_ctl_lint.specs.TableLine.{found_table_line}
use Rattle.npf_ctl_lint.proofs.TextLemmas.{pairs_more, pairs_done}
use Rattle.npf_ctl_lint.proofs.table_line.write_tables.Goals as goal

pub loop-table-preserved : goal.loop-table-preserved
loop-table-preserved c =
    let tables = c.args.tables.now in
    let found = c.args.found.now in
    let met = c.loop-table.yielded in
    let turn = zip_turn tables found met c.into_iter-table-iterator.result c.loop-table.table-iterator c.next.new.self c.next.result
    (cc) (cc) c.loop-table.yielded_by (c.in-Some.table, c.in-Some.finding) c.in-Some.is c.next.ensures.steps in
    record {
      can = search rules;
      finite = search rules;
      so_far = pairs_more found_table_line tables found met (c.in-Some.table, c.in-Some.finding) _ c.loop-table.into.items _
          turn.0 turn.1 (turn.2 c.in-Some.table.now) (turn.3 c.in-Some.finding.now) c.loop-table.invariant.so_far c.in_ok-write_table.ensures;
    }

pub returns : goal.returns
returns c =
    pairs_done found_table_line c.args.tables.now c.args.found.now c.loop-table.yielded _ c.loop-table.into.items
    (zip_end c.args.tables.now c.args.found.now c.loop-table.yielded c.into_iter-table-iterator.result c.loop-table.table-iterator c.next.new.self
    c.next.result (cc) (cc) c.loop-table.yielded_by c.in-None.is c.next.ensures.steps)
    c.loop-table.invariant.so_far
