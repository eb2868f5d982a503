use Rattle.std.proofs.Common.{ℕ, ◌≤◌}
use Rattle.npf_core.specs.Machine.{Machine}
use Rattle.npf_oneturn_store.specs.Represents.{Represents}
use Rattle.npf_oneturn.specs.Work.{ExpiresBelow}
use Rattle.npf_oneturn.proofs.work.expire_all.Given as goal

abbrev pub invariant-loop-slot : goal.invariant-loop-slot
invariant-loop-slot g l =
    (l.count ≤ l.slot) × ((slots : ℕ) (k : Machine _) (seat : ℕ) → Represents slots l.initial.store k → ExpiresBelow g.L.Law.meaning slots k seat l.initial.now l.slot l.count l.store)
