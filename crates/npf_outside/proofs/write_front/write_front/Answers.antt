use Rattle.std.{proofs.{Common.{◌-◌, ◌++◌, length, take, drop, sym, ap, subst, ◌∙◌, arith}, KnownBytes.Appends-trans}, specs.Io.KnownBytes.Appends}
use lib.Seq.{take-add, take-take}
use Rattle.npf_outside.proofs.write_front.write_front.Goals as goal

pub loop-taken-preserved-in-Ok : goal.loop-taken-preserved-in-Ok
loop-taken-preserved-in-Ok g c =
    let so_far = c.loop-taken.invariant in
    let bytes = c.args.bytes.now in
    let bound = c.in-Ok.ensures.bound in
    let left = length bytes - c.loop-taken.taken in
    let here = take-take c.in-Ok.count left (drop c.loop-taken.taken bytes) (omega (arith, so_far.within)) in
    let both = ap (λ more. take c.loop-taken.taken bytes ++ more) here ∙ sym (take-add c.loop-taken.taken c.in-Ok.count bytes) in
    record {
      within = omega (arith, so_far.within);
      few = so_far.few;
      taken = subst (Appends _ _) both (Appends-trans _ _ _ _ _ so_far.taken c.in-Ok.ensures.bytes);
    }
