use Rattle.npf_oneturn.proofs.FreeLemmas.{frees_next}
use Rattle.npf_oneturn.proofs.work.free_all.Goals as goal

pub loop-slot-preserved : goal.loop-slot-preserved
loop-slot-preserved g c = (
  c.free_dead.ensures.bare,
  λ slots k seat r.
      let f = c.loop-slot.invariant.1 slots k seat r in
      frees_next g.L.Law.meaning slots k seat c.loop-slot.slot _ _ f (c.free_dead.ensures.frees slots _ seat f.works.represents),
)
