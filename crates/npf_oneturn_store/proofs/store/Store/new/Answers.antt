use Rattle.std.proofs.Common.{refl}
use Rattle.npf_oneturn_store.proofs.store.Store.new.Goals as goal

pub returns : goal.returns
returns g c = record {
  sized = refl;
  unclaimed = λ s. rw c.in_ok-with_capacity.ensures.items refl;
  unheld = c.in_ok-new.ensures.unheld;
}
