use Rattle.std.proofs.Common.{inl, refl, subst}
use Rattle.npf_saved_file.{specs.Lines.TakesLine, proofs.OnlyLemmas.no_file_without_head}
use Rattle.npf_saved_file.proofs.TakenLemmas.{all_taken, bad_line, counted_on, no_line_feed, none_left, only_on, room_on, some_left, spelled_on}
use Rattle.npf_saved_file.proofs.lines.take_lines.Goals as goal

pub returns-in_default-clause-err : goal.returns-in_default-clause-err
returns-in_default-clause-err c = record {
  bad = inl (record { counted = refl; other = c.in_default.ensures });
  none = no_file_without_head c.args.text.now c.in_default.ensures;
}

pub returns-in_default-first_line-clause-err : goal.returns-in_default-first_line-clause-err
returns-in_default-first_line-clause-err c =
    let i = c.loop-rest.invariant in
    no_line_feed c.args.text.now c.loop-rest.rest.now c.loop-rest.lines c.loop-rest.number i.taken i.spelled i.only i.counted
    (some_left c.loop-rest.rest.now c.loop-rest-test.ensures) c.in_default-first_line.ensures

pub returns-then-not-branch-clause-err : goal.returns-then-not-branch-clause-err
returns-then-not-branch-clause-err c =
    let i = c.loop-rest.invariant in
    let line = c.in-Some-first_line.line.now in
    bad_line c.args.text.now c.loop-rest.rest.now c.loop-rest.lines c.loop-rest.number i.taken i.spelled i.only i.counted
    (some_left c.loop-rest.rest.now c.loop-rest-test.ensures) line c.in-Some-first_line.behind.now c.in-Some-first_line.ensures
    (subst (TakesLine c.loop-rest.lines line c.take.new.self) c.if-not-branch.true c.in_ok-take.ensures)

pub loop-rest-preserved : goal.loop-rest-preserved
loop-rest-preserved c =
    let i = c.loop-rest.invariant in
    let text = c.args.text.now in
    let rest = c.loop-rest.rest.now in
    let line = c.in-Some-first_line.line.now in
    let behind = c.in-Some-first_line.behind.now in
    let old = c.loop-rest.lines in
    let new = c.take.new.self in
    let first = c.in-Some-first_line.ensures in
    let told = subst (TakesLine old line new) c.if-not-branch.false c.in_ok-take.ensures in
    record {
      taken = told.0;
      spelled = spelled_on text rest line behind old new first i.spelled told.1;
      only = only_on text rest line behind old new first i.only told.1;
      counted = counted_on text rest line behind old new first c.loop-rest.number i.counted told.1;
      room = room_on text rest line behind old new first c.loop-rest.number i.room;
    }

pub returns-clause-ok : goal.returns-clause-ok
returns-clause-ok c =
    let i = c.loop-rest.invariant in
    all_taken c.args.text.now c.loop-rest.rest.now c.loop-rest.lines c.loop-rest.number i.taken i.spelled i.only i.counted
    (none_left c.loop-rest.rest.now c.loop-rest-test.ensures)
