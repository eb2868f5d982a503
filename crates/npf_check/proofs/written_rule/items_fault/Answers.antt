use Rattle.std.proofs.{Common.{◌≡◌, ◌<◌, ◌≤◌, drop, get_or, length, zip, rules, ap, ap₂, sym, ◌∙◌, arith}, lemmas.List.length_push}
use Rattle.std.{proofs.lemmas.Slice.Zip.{zip_turn, zip_end, length-zip, get_or-zip}, specs.List.flat_map}
use Rattle.npf_faults.{specs.First.{earlier, first_fault}, proofs.FirstLemmas.{each_step, each_end}}
use Rattle.npf_check.specs.WrittenRule.{faults_of_item}
use Rattle.npf_check.proofs.written_rule.items_fault.Goals as goal

pub loop-item-preserved : goal.loop-item-preserved
loop-item-preserved c =
    let items = c.args.items.now in
    let meant = c.args.meant.now in
    let from = c.into_iter-item-iterator.result in
    let n = length c.loop-item.yielded in
    let item = c.in-Some.item.now in
    let t = zip_turn items meant c.loop-item.yielded from c.loop-item.item-iterator c.next.new.self c.next.result (cc)
    (cc) c.loop-item.yielded_by (c.in-Some.item, c.in-Some.meant) c.in-Some.is c.next.ensures.steps in
    let below : n < length (zip items meant) = omega (arith, length-zip items meant, t.0, t.1) in
    let here : (item, c.in-Some.meant.now) ≡ get_or (zip items meant) n (item, c.in-Some.meant.now) =
    ap₂ (λ a b. (a, b)) (t.2 item) (t.3 c.in-Some.meant.now) ∙ sym (get_or-zip items meant n (item, c.in-Some.meant.now) t.0 t.1) in
    let step = each_step faults_of_item _ c.loop-item.first _ (zip items meant) n (item, c.in-Some.meant.now) below c.loop-item.invariant.so_far
    (c.earlier-first.ensures ∙ ap (earlier c.loop-item.first) (c.item_fault.ensures ∙ ap (λ pair. first_fault (faults_of_item pair)) here)) in
    record {
      can = search rules;
      finite = search rules;
      so_far = step ∙ ap (λ k. earlier c.earlier-first.result (first_fault (flat_map faults_of_item (drop k (zip items meant)))))
          (sym (length_push c.loop-item.yielded (c.in-Some.item, c.in-Some.meant)));
    }

pub returns : goal.returns
returns c =
    let items = c.args.items.now in
    let meant = c.args.meant.now in
    let e = zip_end items meant c.loop-item.yielded c.into_iter-item-iterator.result c.loop-item.item-iterator c.next.new.self c.next.result
    (cc) (cc) c.loop-item.yielded_by c.in-None.is c.next.ensures.steps in
    let past : length (zip items meant) ≤ length c.loop-item.yielded = omega (arith, length-zip items meant, e) in
    sym (each_end faults_of_item _ c.loop-item.first (zip items meant) (length c.loop-item.yielded) past c.loop-item.invariant.so_far)
