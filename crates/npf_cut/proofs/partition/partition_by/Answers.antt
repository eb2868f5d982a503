use Rattle.std.proofs.{Common.{List, take, arith, ap, subst, ◌∙◌}, lemmas.List.take_all}
use Rattle.npf_cut.specs.{declared.span.SetSpan.SetSpan, Partition.RespectsSets, Span.interval_count}
use Rattle.npf_cut.proofs.PartitionLemmas.{count_more, respects_more, respects_numbered}
use Rattle.npf_cut.proofs.partition.partition_by.Goals as goal

pub loop-from-preserved-in_ok-number : goal.loop-from-preserved-in_ok-number
loop-from-preserved-in_ok-number c =
    let inv = c.loop-from.invariant in
    let spans = c.args.spans.now in
    let to = c.set_end-to.result in
    let one = respects_more spans c.loop-from.from to c.loop-from.partition.classes.items c.refine.new.self.classes.items c.set_end-to.ensures inv.respects c.in_ok-refine.ensures.refined in
    let refined = c.in_ok-refine.ensures.refined.same_len in
    let numbers = c.in_ok-number.ensures.numbers in
    let numbered = numbers.same_len in
    let count = inv.count in
    record {
      within = c.set_end-to.ensures.within;
      count = omega arith;
      known = c.in_ok-number.ensures.known;
      respects = respects_numbered (take to spans) c.refine.new.self.classes.items c.number.new.self.classes.items c.in_ok-number.field-0.items one numbers;
      counted =
          let sum = count_more spans c.loop-from.from to (let run = c.set_end-to.ensures.rises in omega arith) in
          let before = inv.counted in let one' = c.in_ok-refine.ensures.counted in let more = c.in_ok-take.ensures.rises in omega arith;
      most = c.in_ok-take.ensures.most ∙ c.in_ok-refine.ensures.most ∙ inv.most;
      rises = let a = c.in_ok-take.ensures.rises in let b = c.in_ok-refine.ensures.rises in let d = inv.rises in omega arith;
    }

pub loop-from-preserved : goal.loop-from-preserved
loop-from-preserved c =
    let inv = c.loop-from.invariant in
    let spans = c.args.spans.now in
    let to = c.set_end-to.result in
    let refined = c.in_ok-refine.ensures.refined.same_len in
    let count = inv.count in
    record {
      within = c.set_end-to.ensures.within;
      count = omega arith;
      known = c.in_ok-refine.ensures.known;
      respects = respects_more spans c.loop-from.from to c.loop-from.partition.classes.items c.refine.new.self.classes.items c.set_end-to.ensures inv.respects c.in_ok-refine.ensures.refined;
      counted =
          let sum = count_more spans c.loop-from.from to (let run = c.set_end-to.ensures.rises in omega arith) in
          let before = inv.counted in let one = c.in_ok-refine.ensures.counted in omega arith;
      most = c.in_ok-refine.ensures.most ∙ inv.most;
      rises = let b = c.in_ok-refine.ensures.rises in let d = inv.rises in omega arith;
    }

pub returns-clause-respects : goal.returns-clause-respects
returns-clause-respects c =
    subst (λ (l : List SetSpan). RespectsSets l c.loop-from.partition.classes.items) (take_all c.loop-from.from c.args.spans.now c.loop-from-test.false) c.loop-from.invariant.respects

pub returns-clause-counted : goal.returns-clause-counted
returns-clause-counted c =
    let all = ap interval_count (take_all c.loop-from.from c.args.spans.now c.loop-from-test.false) in
    let before = c.loop-from.invariant.counted in omega arith
