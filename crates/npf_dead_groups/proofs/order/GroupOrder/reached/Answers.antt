use Rattle.std.proofs.Common.{◌≡◌, ◌+◌, ◌++◌, ◌∷◌, [], ◌∙◌, ℕ, Ok, IfSome, length, slice_get, take, subst, sym, ap, arith}
use Rattle.std.proofs.lemmas.List.{length-append}
use Rattle.npf_precedence.specs.Precedence.{in_order}
use Rattle.npf_dead_groups.specs.Comes.{IsGroupFinding}
use Rattle.npf_dead_groups.proofs.EntryLemmas.{entries_count, front_below, front_more}
use Rattle.npf_dead_groups.proofs.LeftLemmas.{each_more, is_finding}
use Rattle.npf_dead_groups.proofs.order.GroupOrder.reached.Goals as goal

pub loop-place-preserved : goal.loop-place-preserved
loop-place-preserved c =
    let tables = c.args.self.now.packets.tables.now in
    let groups = c.args.self.now.rules.groups.now in
    let place = c.loop-place.place in
    let found = c.loop-place.found.items in
    let one = c.in_ok-left_to.field-0 in
    let rules = c.in_ok-rules_of.field-0 in
    let inv = c.loop-place.invariant in
    let more = front_more groups place c.group-item.result rules.items c.loop-place-test.true c.group-item.is c.in_ok-rules_of.ensures in
    let front : c.loop-place.front + c.len.result ≡ length (in_order (take (place + 1) groups)) = omega (arith, more, inv.front, c.len.ensures, rules.ok.0) in
    let here : IsGroupFinding tables groups (length found) one =
    subst (λ n. IsGroupFinding tables groups n one) (sym inv.count)
    (is_finding tables groups place one (λ none. c.in_ok-left_to.ensures.none (ap Ok none)) c.in_ok-left_to.ensures.found) in
    record {
      count = omega (arith, ap length c.in_ok-push.ensures.items, length-append found (one ∷ []), inv.count);
      each = subst (λ all. (k : ℕ) → IfSome (slice_get all k) (IsGroupFinding tables groups k)) (sym c.in_ok-push.ensures.items)
          (each_more (IsGroupFinding tables groups) found one inv.each here);
      front = front;
      few = omega (arith, front, front_below groups (place + 1), entries_count groups c.args.self.now.rules.entries.now c.requires.entries place);
      most = c.left_to.ensures.most ∙ inv.most;
      rises = omega (arith, c.left_to.ensures.rises, inv.rises);
    }
