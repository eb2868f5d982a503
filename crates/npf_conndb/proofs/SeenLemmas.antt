-- A pass that loads a word of the slots sees which are claimed.
use Rattle.std.proofs.Common.{◌≡◌, ◌⊎◌, ◌≤◌, ◌<◌, ℕ, ◌+◌, [], refl, sym, ap, ◌∙◌, subst, inr, arith}
use Rattle.atomic_table.specs.Table.{Me}
use Rattle.npf_shelf.proofs.ListLemmas.{Contains-nil}
use Rattle.npf_core.specs.{declared.{entry.Entry.Entry, stage.Stage.{Stage, TheVariants.{Vacant, Building, Live, Dead}}}, Allowed.IsDue, History.state_of}
use Rattle.npf_core.specs.Meaning.{Meaning}
use Rattle.npf_connections.specs.Pass.{Pass, IsPass}
use Rattle.npf_cells_words.specs.declared.layout.Layout.{Layout}
use Rattle.npf_cells_lives.specs.Pools.{claim_bit}
use Rattle.npf_cells_rule.specs.{declared.view.CellView.CellView, Passes.cell_pass}
use Rattle.npf_cells_takes.specs.SlotKinds.{HasSeenSlots, seeing_slots}
use Rattle.npf_pool.specs.Takes.{HasSeenMore}
use Rattle.npf_conndb.specs.{Between.{IsBetweenCalls, StaysBetween}, Expiries.ExpiresIn}
use Rattle.npf_conndb.proofs.{ExpiryLemmas.{expires_idle, expires_more, expires_fewer, lives_or_idle}, PassLemmas.{hands, goes_between, goes_on, begins}}
use Rattle.npf_conndb.proofs.WithinLemmas.{vacant_of}

-- a slot whose bit is clear is vacant
pub bit_vacant : {S : Type 0} (stage : Stage S) (bit : ℕ) → bit ≡ claim_bit stage → bit ≡ 0 → stage ≡ Vacant
bit_vacant Vacant bit is clear = refl
bit_vacant (Building seat) bit is clear = absurd (omega (arith, is, clear))
bit_vacant (Live flow steps) bit is clear = absurd (omega (arith, is, clear))
bit_vacant Dead bit is clear = absurd (omega (arith, is, clear))

pub seen_more : {S A R F : Type 0} (m : Meaning S A R) (layout : Layout) (word found : ℕ) (old now : Me F (CellView S A R)) → HasSeenSlots m layout word found old now → HasSeenMore m old now
seen_more {S} {A} {R} {F} m layout word found old now seen = record {
  adds = seen.adds;
  legal = seen.legal;
  is = seen.is ∙ ap (λ n. (seeing_slots old.0 n now.0.seats.history, old.1)) (sym (ap (λ (y : Me F (CellView S A R)). y.0.pools.found) seen.is));
}

module _ {S A R F : Type 0} (m : Meaning S A R) (old now : Me F (CellView S A R)) (sees : HasSeenMore m old now) (legal : IsPass m (cell_pass old.0)) (between : IsBetweenCalls m old.0) where
  pub seen_stays : StaysBetween m old.0 now.0
  seen_stays = record {
    goes = goes_on (cell_pass old.0) (cell_pass now.0) now.0.seats.history old.0.epochs.greatest (ap (λ (y : Me F (CellView S A R)). cell_pass y.0) sees.is) (omega arith);
    between = goes_between m old.0 now.0 (ap (λ (y : Me F (CellView S A R)). hands y.0) sees.is) (ap (λ (y : Me F (CellView S A R)). y.0.pools.builds) sees.is)
        (ap (λ (y : Me F (CellView S A R)). y.0.pools.notes) sees.is) legal (sees.legal legal)
        (begins (cell_pass old.0) now.0.seats.history [] sees.adds) between;
    legal = sees.legal legal;
    pin = ap (λ (y : Me F (CellView S A R)). y.0.epochs.pin) sees.is;
  }

  -- none was due in vacant slots
  pub vacant_expires : (time from to : ℕ) → ((p : ℕ) → from ≤ p → p < to → ((state_of m now.0.seats.history).slot p).stage ≡ Vacant) →
      ExpiresIn m time (λ s. (from ≤ s) × (s < to)) 0 (cell_pass old.0) (cell_pass now.0)
  vacant_expires time from to vacant = expires_idle m time (λ s. (from ≤ s) × (s < to)) (cell_pass old.0) (cell_pass now.0) sees.adds
      (λ id there. subst (λ (x : Stage S). ¬ IsDue m time x) (sym (vacant_of (state_of m now.0.seats.history) id id.slot refl (vacant id.slot there.0 there.1))) (λ due. due))

  -- and what is expired after it is expired since before it
  pub seen_expires : (time slot count : ℕ) (next : CellView S A R) → StaysBetween m now.0 next → ExpiresIn m time (λ s. s ≡ slot) count (cell_pass now.0) (cell_pass next) →
      ExpiresIn m time (λ s. s ≡ slot) count (cell_pass old.0) (cell_pass next)
  seen_expires time slot count next stays here = expires_fewer m time (cell_pass old.0) (cell_pass next) (λ s. ⊥ ⊎ (s ≡ slot)) (λ s. s ≡ slot) count (λ s is. inr is)
      (subst (λ n. ExpiresIn m time (λ s. ⊥ ⊎ (s ≡ slot)) n (cell_pass old.0) (cell_pass next)) plus_none (expires_more m time (cell_pass old.0) (cell_pass now.0)
      (cell_pass next) (ap (λ (y : Me F (CellView S A R)). y.0.seats.number) sees.is) (ap (λ (y : Me F (CellView S A R)). y.0.seats.joined) sees.is) (λ s. ⊥) (λ s. s ≡ slot) 0 count stays.legal
      (ap (λ (p : Pass (Entry S A R)). p.slots) stays.goes.view) nothing here
      (λ id there live. lives_or_idle m time (cell_pass old.0) (cell_pass now.0) (cell_pass next) id
      (begins (cell_pass old.0) now.0.seats.history [] sees.adds) (record { rest = here.adds.rest; goes_on = here.adds.goes_on }))))
    where
      plus_none : 0 + count ≡ count
      plus_none = omega arith

      nothing : ExpiresIn m time (λ s. ⊥) 0 (cell_pass old.0) (cell_pass now.0)
      nothing = record {
        killed = [];
        adds = sees.adds;
        counted = refl;
        over = λ id c. absurd (Contains-nil id c);
        gave_up = λ id way c. absurd (Contains-nil id c);
        left = λ id there live. absurd there;
      }
