use Rattle.std.proofs.Common.{◌+◌, refl, subst, arith, slice_index_or}
use Rattle.std.specs.Fork.{ChangesAt}
use Rattle.npf_runner_threads.proofs.each.for_each_busy_mut.Goals as goal

pub returns : goal.returns
returns g c = λ i d low. (
  refl,
  subst
      (λ k. ChangesAt g.F.Fn c.args.f.now k (slice_index_or c.args.items.now i d) (slice_index_or c.each_from.new.part i d)) {x = 0 + i} (omega arith) (c.each_from.ensures.each i d low),
)
