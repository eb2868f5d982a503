use Rattle.std.proofs.Common.{◌≡◌, ◌<◌, Some, Ok, length, slice_get, refl, sym, subst, ap, ◌∙◌, arith}
use Rattle.std.proofs.lemmas.List.{length-replicate, Elements.All-get_or}
use Rattle.std.proofs.lemmas.Option.{slice_get_read}
use Rattle.npf_precedence.specs.declared.entry.RuleEntry.{RuleEntry}
use Rattle.npf_judge.proofs.QuestionLemmas.{length_put, nothing_sound, sound_put, whole_at_end, whole_put}
use Rattle.npf_judge.proofs.question.Question.rules.Goals as goal

pub loop-at-init : goal.loop-at-init
loop-at-init c = record {
  count = ap length c.in_ok-rules.ensures ∙ length-replicate (length c.args.self.now.order.now) _;
  sound = nothing_sound c.args.self.now.packets.tables.now c.args.self.now.class.now c.args.self.now.order.now c.in_ok-rules.rules.items
      (length c.args.self.now.order.now) c.in_ok-rules.ensures;
  whole = λ k low. absurd (omega arith);
  most = refl;
  rises = omega arith;
}

pub decided-requires-clause-is : goal.decided-requires-clause-is
decided-requires-clause-is c = c.requires.is

pub put_found-requires : goal.put_found-requires
put_found-requires c =
    let order = c.args.self.now.order.now in
    let entry = c.entry-item.result in
    let below : entry.place < length order = subst (λ (e : RuleEntry). e.place < length order) (sym c.entry-item.is)
    (All-get_or (λ (e : RuleEntry). e.place < length order) order c.loop-at.at entry (omega (arith, c.loop-at-test.true)) c.requires.places) in
    omega (arith, below, c.loop-at.invariant.count)

pub loop-at-preserved : goal.loop-at-preserved
loop-at-preserved c =
    let tables = c.args.self.now.packets.tables.now in
    let class = c.args.self.now.class.now in
    let order = c.args.self.now.order.now in
    let entry = c.entry-item.result in
    let at = c.loop-at.at in
    let rules = c.loop-at.rules.items in
    let found = c.in_ok-found.found in
    let inv = c.loop-at.invariant in
    let below : entry.place < length order = subst (λ (e : RuleEntry). e.place < length order) (sym c.entry-item.is)
    (All-get_or (λ (e : RuleEntry). e.place < length order) order at entry (omega (arith, c.loop-at-test.true)) c.requires.places) in
    let low : entry.place < length rules = omega (arith, below, inv.count) in
    let there : slice_get order at ≡ Some entry = slice_get_read order (length order) at entry refl (omega (arith, c.loop-at-test.true)) c.entry-item.is in
    record {
      count = ap length c.put_found.ensures ∙ length_put tables class order rules entry.place found ∙ inv.count;
      sound = rw c.put_found.ensures (sound_put tables class order rules at entry there low found c.in_ok-found.ensures.found inv.sound);
      whole = rw c.put_found.ensures (whole_put tables class order rules at entry there low found (λ none. c.in_ok-found.ensures.none (ap Ok none)) inv.whole);
      most = c.in_ok-found.ensures.most ∙ inv.most;
      rises = omega (arith, c.in_ok-found.ensures.rises, inv.rises);
    }

pub returns-clause-whole : goal.returns-clause-whole
returns-clause-whole c =
    whole_at_end c.args.self.now.packets.tables.now c.args.self.now.class.now c.args.self.now.order.now c.loop-at.rules.items c.loop-at.at
    (omega (arith, c.loop-at-test.false)) c.loop-at.invariant.whole
