use Rattle.std.proofs.{Common.{◌+◌, ◌*◌, arith}, lemmas.List.with_items_is}
use Rattle.npf_cut.proofs.SetBitsLemmas.{put_is}
use Rattle.npf_cut.proofs.set_bits.SetBits.put.Goals as goal

pub returns-then-set-self-clause-put : goal.returns-then-set-self-clause-put
returns-then-set-self-clause-put c = λ s class lt small.
    let p = c.args.self.now.per_set in
    let put = rw c.as_mut_slice.ensures.value at (c.put_all.ensures.put (64 * (s * p) + class)) in
    let is = with_items_is c.args.self.now.words c.put_all.new.words (omega (arith, c.put_all.ensures.len, c.as_mut_slice.ensures.len)) in
    rw is (put_is p s c.args.set class _ _ c.args.classes.now small c.requires put)
