use Rattle.std.proofs.Common.{ℕ}
use Rattle.npf_core.specs.Machine.{Machine}
use Rattle.npf_oneturn_store.specs.Represents.{Represents}
use Rattle.npf_oneturn.specs.Work.{FreesBelow, DeadAreBare}
use Rattle.npf_oneturn.proofs.work.free_all.Given as goal

abbrev pub invariant-loop-slot : goal.invariant-loop-slot
invariant-loop-slot g l =
    DeadAreBare l.store × ((slots : ℕ) (k : Machine _) (seat : ℕ) → Represents slots l.initial.store k → FreesBelow g.L.Law.meaning slots k seat l.slot l.store)
