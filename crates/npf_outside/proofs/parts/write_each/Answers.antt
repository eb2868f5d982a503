use Rattle.std.{proofs.Common.{◌≡◌, ◌∙◌, ap, arith, le_refl, length, rules, subst, take, take_all}, specs.Io.KnownBytes.Appends}
use Rattle.npf_outside.proofs.PartLemmas.{one_more}
use Rattle.npf_outside.proofs.parts.write_each.Goals as goal

pub loop-writer-preserved : goal.loop-writer-preserved
loop-writer-preserved g c =
    let so_far = c.loop-writer.invariant in
    let shown = c.as_slice.result.now in
    let all : c.write_front-written.result.0 ≡ length shown = search rules in
    let is = ap (λ n. take n shown) all ∙ take_all _ shown (le_refl _) ∙ c.as_slice.ensures.value in
    record {
      room = omega (arith, so_far.room, c.clear.ensures.capacity, c.next.ensures.room);
      so_far = one_more _ _ _ _ _ _ _ c.next.new.part.items so_far.so_far c.next.ensures.gives c.clear.ensures.items
          (subst (Appends _ _) is c.write_front-written.ensures.taken);
    }
