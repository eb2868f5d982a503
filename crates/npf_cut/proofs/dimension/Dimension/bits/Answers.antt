use Rattle.std.proofs.{Common.{◌≡◌, ◌≤◌, ◌<◌, ◌+◌, ◌*◌, ◌↔◌, ◌∷◌, [], ◌++◌, ◌∙◌, ℕ, List, true, length, get_or, take, sym, ap, subst, ◌-◌, arith}, lemmas.List.{take_all, take_more, Sums.sum_by_more}}
use Rattle.npf_cut.specs.{Dimension.{IsClassOf, class_count}, SetBits.has_class, Span.interval_count, declared.span.SetSpan.SetSpan}
use Rattle.npf_cut.proofs.SetBitsLemmas.{bits_more, class_below, words_are}
use Rattle.npf_cut.proofs.dimension.Dimension.bits.Goals as goal

pub loop-span-preserved : goal.loop-span-preserved
loop-span-preserved c =
    let inv = c.loop-span.invariant in
    let cut = c.args.self.now in
    let spans = cut.spans.items in
    let classes = cut.classes.items in
    let none : SetSpan = record { set = 0; from = 0; to = 0 } in
    let at = c.loop-span.span-index in
    let span : SetSpan = get_or spans at none in
    let lt : at < length spans = omega (arith, c.loop-span-test.true, c.deref-span-items.ensures.len, cut.spans.ok) in
    let more : take (at + 1) spans ≡ take at spans ++ span ∷ [] = take_more spans at none lt in
    let within = (cut.within at none lt).most in
    let most : span.to ≤ length classes = let pairs = cut.paired in omega arith in
    let step = rw (c.deref.ensures.value, c.deref-span-items.ensures.value) at c.put.ensures.put in
    record {
      sets = c.put.ensures.sets ∙ inv.sets;
      words = c.put.ensures.words ∙ inv.words;
      classes = λ set class less small.
          subst (λ (l : List SetSpan). (has_class c.put.new.self set class ≡ true) ↔ IsClassOf classes l set class) (sym more)
          (bits_more c.loop-span.bits c.put.new.self c.args.sets classes (take at spans) span inv.sets most step inv.classes set class less
          (subst (λ (n : ℕ). class < 64 * n) c.put.ensures.words small));
      counted =
          let sum = sum_by_more (λ (s : SetSpan). s.to - s.from) spans at none lt in
          let take' = rw c.deref-span-items.ensures.value at c.in_ok-take.ensures.counted in let before = inv.counted in omega arith;
      most = c.in_ok-take.ensures.most ∙ inv.most;
      rises = let a = c.in_ok-take.ensures.rises in let b = inv.rises in omega arith;
    }

pub returns-clause-classes : goal.returns-clause-classes
returns-clause-classes c = λ set class less.
    let inv = c.loop-span.invariant in
    let cut = c.args.self.now in
    let bits = c.loop-span.bits in
    let fits : class_count cut ≤ 64 * bits.per_set = let words = inv.words in omega arith in
    let all : length cut.spans.items ≤ c.loop-span.span-index = omega (arith, c.loop-span-test.false, c.deref-span-items.ensures.len, cut.spans.ok) in
    words_are cut bits set fits
    (λ k small. subst (λ (l : List SetSpan). (has_class bits set k ≡ true) ↔ IsClassOf cut.classes.items l set k) (take_all c.loop-span.span-index cut.spans.items all) (inv.classes set k less small))
    class

pub returns-clause-below : goal.returns-clause-below
returns-clause-below c = λ set class less h. class_below c.args.self.now set class ((returns-clause-classes c set class less).0 h)

pub returns-clause-counted : goal.returns-clause-counted
returns-clause-counted c =
    let spans = c.args.self.now.spans in
    let le : length spans.items ≤ c.loop-span.span-index = omega (arith, c.loop-span-test.false, c.deref-span-items.ensures.len, spans.ok) in
    let all = ap interval_count (take_all c.loop-span.span-index spans.items le) in
    let before = c.loop-span.invariant.counted in omega arith
