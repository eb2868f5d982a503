use Rattle.std.proofs.Common.{arith}
use Rattle.npf_oneturn.proofs.ExpiryLemmas.{expires_first, expires_next}
use Rattle.npf_oneturn.proofs.work.expire_all.Goals as goal

pub loop-slot-init : goal.loop-slot-init
loop-slot-init g c = (omega arith, λ slots k seat r. expires_first g.L.Law.meaning slots k seat c.args.now c.args.store.now r)

pub loop-slot-preserved : goal.loop-slot-preserved
loop-slot-preserved g c = (
  omega (arith, c.loop-slot.invariant.0, c.expire_slot-count.ensures.one),
  λ slots k seat r.
      let f = c.loop-slot.invariant.1 slots k seat r in
      expires_next g.L.Law.meaning slots k seat c.args.now c.loop-slot.slot c.loop-slot.count c.expire_slot-count.result _ _ f (c.expire_slot-count.ensures.expires slots _ seat f.works.represents),
)
