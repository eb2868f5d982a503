use Rattle.std.proofs.{Common.{◌≡◌, ◌≤◌, ◌↔◌, List, get_or, take, arith, ap, subst, ◌-◌, sym, ◌∙◌, ◌+◌, ◌∷◌, [], ◌++◌}, lemmas.List.{take_all, take_more, Sums.sum_by_more}}
use Rattle.npf_cut.specs.{declared.span.SetSpan.SetSpan, Span.{IsSpanned, interval_count}}
use Rattle.npf_cut.proofs.PartitionLemmas.{parts_known, spans_moved}
use Rattle.npf_cut.proofs.partition.Partition.refine.Goals as goal

pub loop-span-preserved : goal.loop-span-preserved
loop-span-preserved c =
    let inv = c.loop-span.invariant in
    let done = c.in_ok-split.ensures in
    let spans = c.args.spans.now in
    let at = c.loop-span.span-index in
    let span : SetSpan = get_or spans at record { set = 0; from = 0; to = 0 } in
    let more : take (at + 1) spans ≡ take at spans ++ span ∷ [] = take_more spans at record { set = 0; from = 0; to = 0 } c.loop-span-test.true in
    let len = inv.parts.same_len in
    record {
      parts = done.parts c.args.self.now.classes.items inv.parts;
      moved = λ k lt. subst (λ (l : List SetSpan). (c.len-fresh.result ≤ get_or c.split.new.self.classes.items k 0) ↔ IsSpanned l k) (sym more)
          (spans_moved c.loop-span.self.classes.items c.split.new.self.classes.items (take at spans) span _ c.len-fresh.result inv.moved (λ j less. done.moved j (omega arith)) k lt);
      counted =
          let sum = sum_by_more (λ (s : SetSpan). s.to - s.from) spans at record { set = 0; from = 0; to = 0 } c.loop-span-test.true in
          let take' = c.in_ok-take.ensures.counted in let before = inv.counted in omega arith;
      most = c.in_ok-take.ensures.most ∙ inv.most;
      rises = let a = c.in_ok-take.ensures.rises in let b = inv.rises in omega arith;
    }

pub returns-clause-known : goal.returns-clause-known
returns-clause-known c = parts_known c.args.self.now.classes.items c.loop-span.self.classes.items c.loop-span.self.parts.items c.len-fresh.result c.loop-span.invariant.parts

pub returns-clause-counted : goal.returns-clause-counted
returns-clause-counted c =
    let all = ap interval_count (take_all c.loop-span.span-index c.args.spans.now c.loop-span-test.false) in
    let before = c.loop-span.invariant.counted in omega arith
