use Rattle.std.proofs.{Common.{◌≡◌, ◌+◌, get_or, Contains, length, arith, subst, ℕ}, lemmas.List.get_or_default}
use Rattle.npf_cut.specs.declared.range.Range.{Range}
use Rattle.npf_cut.proofs.{SpanLemmas.no_range, StartLemmas.{HasStartsTo, starts_all, starts_more}}
use Rattle.npf_cut.proofs.start.all_starts.Goals as goal

pub loop-range-preserved : goal.loop-range-preserved
loop-range-preserved c =
    let ranges = c.args.ranges.now in
    let at = c.loop-range.range-index in
    let range : Range = get_or ranges at no_range in
    let one = c.in_ok-add_start.ensures in
    let two = c.in_ok-add_start-2.ensures in
    let after = c.add_start-in-loop-range.new.starts.items in
    let is = λ (d : Range). get_or_default ranges at d no_range c.loop-range-test.true in
    starts_more c.args.top ranges c.loop-range.starts.items c.add_start.new.starts.items after at range is
    c.loop-range.invariant one.kept one.added one.below two.kept
    (λ lt.
    let e : c.saturating_add.result ≡ range.high + 1 = let fits = c.ranges.top.fits in omega (arith, lt, c.saturating_add.ensures) in
    subst (λ (n : ℕ). Contains after n) e (two.added (omega (arith, e, lt)))) two.below

pub returns : goal.returns
returns c =
    let e : c.loop-range.range-index ≡ length c.args.ranges.now = omega arith in
    starts_all c.args.top c.args.ranges.now c.loop-range.starts.items (subst (λ (n : ℕ). HasStartsTo c.args.top c.args.ranges.now c.loop-range.starts.items n) e c.loop-range.invariant)
