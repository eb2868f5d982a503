use Rattle.std.proofs.{Common.{rules, ◌+◌, List, [], sym, subst, arith}, lemmas.{List.take_all, Result.on_ok_weaker}}
use Rattle.npf_engine.specs.declared.outcome.Outcome.{Outcome}
use Rattle.npf_outside.{specs.Sink.{Appends, AppendsFront}, proofs.SinkLemmas.{IsPutTo-ends, IsPutTo-stops}}
use Rattle.npf_report.{specs.TotalText.{total_text, AddsOutcome, CountsOutcomes}, proofs.CountLemmas.one_counted}
use Rattle.npf_ctl_output.{specs.{Crossings.AreCrossingsOf, Report.report_text}, proofs.CrossingsLemmas.as_many}
use Rattle.npf_ctl_output.proofs.ReportLemmas.{line_put, line_fails, nothing_put, of_crossed, rest_fails, rest_put}
use Rattle.npf_ctl_output.proofs.report.put_report.Goals as goal

pub loop-place-init : goal.loop-place-init
loop-place-init g c = record {
  put = nothing_put c.args.ifaces.now.list c.args.packets.now c.args.outcomes.now (g.O.Sink.moment c.args.out.now).held;
  counts = c.new-counts.ensures;
  counted = omega arith;
}

pub crossed_by-crossed-requires : goal.crossed_by-crossed-requires
crossed_by-crossed-requires g c =
    let are = subst (AreCrossingsOf c.args.ifaces.now.list) (sym c.as_slice.ensures.value) c.in_ok-crossings.ensures in
    rw (as_many c.args.ifaces.now.list c.as_slice.result.now are) (search rules)

pub loop-place-preserved : goal.loop-place-preserved
loop-place-preserved g c =
    let ifaces = c.args.ifaces.now.list in
    let packets = c.args.packets.now in
    let outcomes = c.args.outcomes.now in
    let i = c.loop-place.place in
    let packet = c.index-packets-place.result in
    let outcome = c.index-outcomes-place.result in
    let before = (g.O.Sink.moment c.loop-place.out).held in
    let after = (g.O.Sink.moment c.put_line.new.out).held in
    let are = subst (AreCrossingsOf ifaces) (sym c.as_slice.ensures.value) c.in_ok-crossings.ensures in
    let put = of_crossed (Appends before after) ifaces (i + 1) packet outcome c.crossed_by-crossed.result.now (c.crossed_by-crossed.ensures ifaces are) c.in_ok-put_line.ensures.whole in
    let adds = subst (λ (o : Outcome). AddsOutcome o c.loop-place.counts c.add.new.self) c.index-outcomes-place.is c.add.ensures in
    record {
      put = line_put ifaces packets outcomes (g.O.Sink.moment c.args.out.now).held (report_text ifaces packets outcomes) (total_text outcomes) before after i packet outcome
          c.loop-place-test.true c.requires.count c.index-packets-place.is c.index-outcomes-place.is c.loop-place.invariant.put put;
      counts = one_counted outcomes i outcome (omega (arith, c.loop-place-test.true, c.requires.count)) c.loop-place.counts _ c.loop-place.invariant.counts adds;
      counted = omega (arith, c.put_line.ensures.counted, c.loop-place.invariant.counted);
    }

pub returns-in_err-put_line-clause-front : goal.returns-in_err-put_line-clause-front
returns-in_err-put_line-clause-front g c =
    let ifaces = c.args.ifaces.now.list in
    let packets = c.args.packets.now in
    let outcomes = c.args.outcomes.now in
    let i = c.loop-place.place in
    let packet = c.index-packets-place.result in
    let outcome = c.index-outcomes-place.result in
    let before = (g.O.Sink.moment c.loop-place.out).held in
    let after = (g.O.Sink.moment c.put_line.new.out).held in
    let are = subst (AreCrossingsOf ifaces) (sym c.as_slice.ensures.value) c.in_ok-crossings.ensures in
    let put = of_crossed (AppendsFront before after) ifaces (i + 1) packet outcome c.crossed_by-crossed.result.now (c.crossed_by-crossed.ensures ifaces are) c.put_line.ensures.front in
    line_fails ifaces packets outcomes (g.O.Sink.moment c.args.out.now).held (report_text ifaces packets outcomes) (total_text outcomes) before after i packet outcome
    c.loop-place-test.true c.requires.count c.index-packets-place.is c.index-outcomes-place.is c.loop-place.invariant.put put

pub returns-in_err-put_last-clause-front : goal.returns-in_err-put_last-clause-front
returns-in_err-put_last-clause-front g c =
    let ifaces = c.args.ifaces.now.list in
    let packets = c.args.packets.now in
    let outcomes = c.args.outcomes.now in
    let all = take_all c.loop-place.place outcomes (omega (arith, c.loop-place-test.false, c.requires.count)) in
    let counts = subst (λ (os : List Outcome). CountsOutcomes os c.loop-place.counts) all c.loop-place.invariant.counts in
    rest_fails ifaces packets outcomes (g.O.Sink.moment c.args.out.now).held (report_text ifaces packets outcomes) (total_text outcomes) _ _ c.loop-place.place c.loop-place-test.false
    c.loop-place.invariant.put (c.put_last.ensures.front outcomes counts)

pub returns-clause-whole : goal.returns-clause-whole
returns-clause-whole g c =
    let ifaces = c.args.ifaces.now.list in
    let packets = c.args.packets.now in
    let outcomes = c.args.outcomes.now in
    let old = (g.O.Sink.moment c.args.out.now).held in
    let text = report_text ifaces packets outcomes in
    let all = take_all c.loop-place.place outcomes (omega (arith, c.loop-place-test.false, c.requires.count)) in
    let counts = subst (λ (os : List Outcome). CountsOutcomes os c.loop-place.counts) all c.loop-place.invariant.counts in
    let put = rest_put ifaces packets outcomes old text (total_text outcomes) _ _ c.loop-place.place _ c.loop-place-test.false c.loop-place.invariant.put
    (c.in_ok-put_last.ensures.whole outcomes counts) c.flush.ensures.stays in
    on_ok_weaker c.flush.result (λ flushed. IsPutTo-ends old _ text put) c.flush.ensures.flushed

pub returns-clause-front : goal.returns-clause-front
returns-clause-front g c =
    let ifaces = c.args.ifaces.now.list in
    let packets = c.args.packets.now in
    let outcomes = c.args.outcomes.now in
    let old = (g.O.Sink.moment c.args.out.now).held in
    let text = report_text ifaces packets outcomes in
    let all = take_all c.loop-place.place outcomes (omega (arith, c.loop-place-test.false, c.requires.count)) in
    let counts = subst (λ (os : List Outcome). CountsOutcomes os c.loop-place.counts) all c.loop-place.invariant.counts in
    IsPutTo-stops old _ text []
    (rest_put ifaces packets outcomes old text (total_text outcomes) _ _ c.loop-place.place _ c.loop-place-test.false c.loop-place.invariant.put
    (c.in_ok-put_last.ensures.whole outcomes counts) c.flush.ensures.stays)
