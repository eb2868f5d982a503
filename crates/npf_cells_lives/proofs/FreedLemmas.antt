-- The connections as turns see them: one that was reclaimed is as good as freed.
use Rattle.std.proofs.{Common.{◌≡◌, ◌≢◌, ◌⊎◌, ℕ, ◌+◌, cond, eq-eqb, ne_eqb, List, sym, ap, ◌∙◌, subst, ⊎_elim, inl, inr}, lemmas.Bool.cases_eq}
use Rattle.npf_core.specs.{declared.{slot.Slot.Slot, stage.Stage.{Stage, TheVariants.{Vacant, Building, Live, Dead}}}, Machine.{Machine, IsLive}}
use Rattle.npf_cells_lives.specs.{Deaths.{DeathSide, reclaimed_in, cleared_in, freed_slot, slot_by, unreclaimed}, Turns.{stage_phase, StaysAt}}

-- how often a slot stands among those whose connections passes reclaimed
abbrev pub gone_in : {V : Type 0} → (V → DeathSide) → List V → ℕ → ℕ
gone_in side_of views slot = reclaimed_in side_of views slot + cleared_in side_of views slot

pub by_none : {S : Type 0} (n : ℕ) (x : Slot S) → n ≡ 0 → slot_by n x ≡ x
by_none n x none = ap (λ b. cond b x (freed_slot x)) (eq-eqb n 0 none)

pub by_some : {S : Type 0} (n : ℕ) (x : Slot S) → n ≢ 0 → slot_by n x ≡ freed_slot x
by_some n x some' = ap (λ b. cond b x (freed_slot x)) (ne_eqb n 0 some')

-- what is Live isn't at phase 0
live_phase : {S : Type 0} (stage : Stage S) → stage_phase stage ≡ 0 → ¬ IsLive stage
live_phase Vacant none live = live
live_phase (Building seat) none live = live
live_phase (Live flow steps) none live = absurd cc
live_phase Dead none live = live

module _ {S V : Type 0} (side_of : V → DeathSide) (views : List V) where
  -- a slot stays at what it was for turns where it does, and as many have it reclaimed
  pub freed_stays : (views' : List V) (k k' : Machine S) (slot : ℕ) → gone_in side_of views' slot ≡ gone_in side_of views slot → StaysAt (k.slot slot) (k'.slot slot) →
      StaysAt ((unreclaimed side_of views k).slot slot) ((unreclaimed side_of views' k').slot slot)
  freed_stays views' k k' slot same stays = subst (λ n. StaysAt (slot_by (gone_in side_of views slot) (k.slot slot)) (slot_by n (k'.slot slot))) (sym same) (⊎_elim
      (λ (none : gone_in side_of views slot ≡ 0). subst (λ n. StaysAt (slot_by n (k.slot slot)) (slot_by n (k'.slot slot))) (sym none) stays)
      (λ (some' : gone_in side_of views slot ≢ 0). inr (
        ap (λ (x : Slot S). stage_phase x.stage) (by_some (gone_in side_of views slot) (k.slot slot) some'),
        ap (λ (x : Slot S). stage_phase x.stage) (by_some (gone_in side_of views slot) (k'.slot slot) some'),
      ))
      (cases_eq (gone_in side_of views slot) 0))

  -- a slot that was Live, or Dead and nobody's or its killer's, when a pass got the turn is still at that
  pub still_there : (k : Machine S) (slot : ℕ) (was : Slot S) → StaysAt was ((unreclaimed side_of views k).slot slot) →
      stage_phase was.stage ≢ 0 → (k.slot slot ≡ was) × (gone_in side_of views slot ≡ 0)
  still_there k slot was stays some' = ⊎_elim
      (λ (none : gone_in side_of views slot ≡ 0). (sym (by_none (gone_in side_of views slot) (k.slot slot) none) ∙ same, none))
      (λ (gone : gone_in side_of views slot ≢ 0). absurd (some' (ap (λ (x : Slot S). stage_phase x.stage) (sym same ∙ by_some (gone_in side_of views slot) (k.slot slot) gone))))
      (cases_eq (gone_in side_of views slot) 0)
    where
      same : (unreclaimed side_of views k).slot slot ≡ was
      same = ⊎_elim (λ e. e) (λ (idle : (stage_phase was.stage ≡ 0) × (stage_phase ((unreclaimed side_of views k).slot slot).stage ≡ 0)). absurd (some' idle.0)) stays

  -- for turns a slot is at what it is, unless it was reclaimed
  pub freed_none : (k : Machine S) (slot : ℕ) → gone_in side_of views slot ≡ 0 → (unreclaimed side_of views k).slot slot ≡ k.slot slot
  freed_none k slot none = by_none (gone_in side_of views slot) (k.slot slot) none

  -- any slot is at what it was, or wasn't Live and isn't, where only Dead ones are reclaimed
  pub there_or_idle : (k : Machine S) (slot : ℕ) (was : Slot S) → ((gone_in side_of views slot ≢ 0) → (k.slot slot).stage ≡ Dead) → StaysAt was ((unreclaimed side_of views k).slot slot) →
      (k.slot slot ≡ was) ⊎ ((stage_phase was.stage ≡ 0) × ¬ IsLive (k.slot slot).stage)
  there_or_idle k slot was dead stays = ⊎_elim
      (λ (idle : stage_phase was.stage ≡ 0). inr (idle, by_gone idle))
      (λ (some' : stage_phase was.stage ≢ 0). inl (still_there k slot was stays some').0)
      (cases_eq (stage_phase was.stage) 0)
    where
      by_gone : stage_phase was.stage ≡ 0 → ¬ IsLive (k.slot slot).stage
      by_gone idle = ⊎_elim
          (λ (none : gone_in side_of views slot ≡ 0).
          let same = freed_none k slot none in
          let now : stage_phase ((unreclaimed side_of views k).slot slot).stage ≡ 0 = ⊎_elim
          (λ (e : (unreclaimed side_of views k).slot slot ≡ was). ap (λ (x : Slot S). stage_phase x.stage) e ∙ idle)
          (λ (both : (stage_phase was.stage ≡ 0) × (stage_phase ((unreclaimed side_of views k).slot slot).stage ≡ 0)). both.1)
          stays in
          live_phase (k.slot slot).stage (ap (λ (x : Slot S). stage_phase x.stage) (sym same) ∙ now))
          (λ (gone : gone_in side_of views slot ≢ 0) live. (let no : IsLive {S = S} Dead = subst IsLive (dead gone) live in no))
          (cases_eq (gone_in side_of views slot) 0)
