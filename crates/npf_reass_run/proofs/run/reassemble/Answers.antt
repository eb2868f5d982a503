use Rattle.std.proofs.Common.{◌≡◌, ◌≤◌, ◌∙◌, ap, length, arith}
use Rattle.npf_reass_whole.proofs.PutLemmas.{whole_items}
use Rattle.npf_reass_run.proofs.ShareLemmas.{classes_by_place, classes_taken, decides_run}
use Rattle.npf_reass_run.proofs.run.reassemble.Goals as goal

pub decide_all-requires-clause-taken : goal.decide_all-requires-clause-taken
decide_all-requires-clause-taken g c = λ κs live.
    let gathers = rw c.as_slice-2.ensures.value at c.in_ok-classes.ensures.gathers in
    rw c.as_mut_slice.ensures.value (classes_taken c.args.packets.items c.in_ok-classes.classes.items gathers c.requires.short)

pub decide_all-requires-clause-order : goal.decide_all-requires-clause-order
decide_all-requires-clause-order g c = λ κs live.
    let gathers = rw c.as_slice-2.ensures.value at c.in_ok-classes.ensures.gathers in
    rw c.as_mut_slice.ensures.value (classes_by_place c.args.packets.items c.in_ok-classes.classes.items gathers)

pub put_together-requires-clause-decided : goal.put_together-requires-clause-decided
put_together-requires-clause-decided g c =
    let classes = c.in_ok-classes.classes in
    let new = c.decide_all.new.classes in
    let gathers = rw c.as_slice-2.ensures.value at c.in_ok-classes.ensures.gathers in
    let each = rw c.as_mut_slice.ensures.value at c.in_ok-decide_all.ensures.each in
    let count : length new ≡ length classes.items = c.in_ok-decide_all.ensures.count ∙ ap length c.as_mut_slice.ensures.value in
    let long : length new ≡ classes.len = omega (arith, count, classes.ok) in
    let some : 1 ≤ length classes.items = omega (arith, c.in_ok-classes.ensures.count) in
    rw c.as_slice-3.ensures.value (rw (whole_items classes.len new classes.items long (omega (arith, classes.ok))) (
    decides_run c.args.packets.items classes.items gathers some new count each
    ))
