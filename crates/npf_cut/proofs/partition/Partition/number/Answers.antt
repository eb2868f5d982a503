use Rattle.std.proofs.Common.{◌≡◌, ◌<◌, ◌∙◌, ℕ, get_or, set, replicate, length, arith, subst, sym, ap, inl, inr}
use Rattle.std.proofs.lemmas.List.{get_or_read}
use Rattle.npf_cut.specs.declared.partition.TheConstants.{NONE}
use Rattle.npf_cut.proofs.PartitionLemmas.{HasNumbered, known_first, numbered_all, numbered_step}
use Rattle.npf_cut.proofs.partition.Partition.number.Goals as goal
use Rattle.npf_cut.proofs.partition.Partition.number.Goals.{then-index+in_ok-push, else-index}

pub loop-interval-preserved : goal.loop-interval-preserved
loop-interval-preserved c =
    let inv = c.loop-interval.invariant in
    let old = c.args.self.now.classes.items in
    let now = c.loop-interval.self.classes.items in
    let numbers = c.loop-interval.numbers.items in
    let firsts = c.loop-interval.firsts.items in
    let at = c.loop-interval.interval in
    let class = c.index-class.result.now in
    let same : length now ≡ length old = inv.same_len in
    let room : at < length old = omega arith in
    let read : class ≡ get_or now at 0 = get_or_read now at class (omega arith) c.index-class.ensures 0 in
    let own : get_or old at 0 ≡ class = sym (inv.left at (omega arith)) ∙ sym read in
    let known : class < length numbers = subst (λ (m : ℕ). m < length numbers) own (inv.known at room) in
    numbered_step NONE old now numbers firsts c.if-index.numbers.items c.if-index.firsts.items at class c.index-in-loop-interval.result.now room inv read c.index-in-loop-interval.ensures
    (elim c.if-index.branch [
      | then-index+in_ok-push w ↦
          let e : w.len-then-index.result ≡ length firsts = omega (arith, w.len-then-index.ensures) in
          inr (rw w.numbers-is (ap (λ (n : ℕ). set numbers class n) e), rw w.firsts-is w.in_ok-push.ensures.items)
      | else-index w ↦
          let entry : c.index.result.now ≡ get_or numbers class 0 = get_or_read numbers class c.index.result.now known c.index.ensures 0 in
          inl (λ e. w.if-index.false (entry ∙ e), rw w.numbers-is, rw w.firsts-is)
    ])

pub returns-clause-known : goal.returns-clause-known
returns-clause-known c =
    let old = c.args.self.now.classes.items in
    let e : c.loop-interval.interval ≡ length old = omega (arith, c.len-interval-end.ensures) in
    let done = numbered_all NONE old c.loop-interval.self.classes.items c.loop-interval.numbers.items c.loop-interval.firsts.items
    (subst (λ (n : ℕ). HasNumbered NONE old c.loop-interval.self.classes.items c.loop-interval.numbers.items c.loop-interval.firsts.items n) e c.loop-interval.invariant) in
    known_first c.loop-interval.self.classes.items _ c.loop-interval.firsts.items done.numbered
    (let len : c.len-2.result ≡ length c.loop-interval.firsts.items = omega arith in c.in_ok-self.ensures.items_if_clones_equal (λ y e. e) ∙ ap (λ (n : ℕ). replicate n 0) len)

pub returns-clause-numbers : goal.returns-clause-numbers
returns-clause-numbers c =
    let old = c.args.self.now.classes.items in
    let e : c.loop-interval.interval ≡ length old = omega (arith, c.len-interval-end.ensures) in
    numbered_all NONE old c.loop-interval.self.classes.items c.loop-interval.numbers.items c.loop-interval.firsts.items
    (subst (λ (n : ℕ). HasNumbered NONE old c.loop-interval.self.classes.items c.loop-interval.numbers.items c.loop-interval.firsts.items n) e c.loop-interval.invariant)
