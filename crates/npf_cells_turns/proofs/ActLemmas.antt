-- What the acts at the end of a turn make of the machine.
use Rattle.std.specs.List.{Contains}
use Rattle.std.proofs.Common.{◌≡◌, ◌≢◌, ℕ, Bool, true, false, ◌==◌, not, cond, eq-eqb, ne_eqb, List, refl, sym, ap, ◌∙◌, subst, ⊎_elim, inl, inr}
use Rattle.std.proofs.lemmas.Bool.{cases_eq}
use Rattle.npf_types.specs.declared.key.{Key.Key, Way.Way}
use Rattle.npf_shelf.proofs.ListLemmas.{Contains-filter_from}
use Rattle.npf_core.specs.declared.act.Act.TheVariants as Acts
use Rattle.npf_core.specs.declared.{act.Why.Why, conn_id.ConnId.ConnId, slot.Slot.Slot, stage.Stage.{Stage, TheVariants.{Vacant, Building, Live, Dead}}}
use Rattle.npf_core.specs.{declared.stepped.Stepped.TheVariants.NotLive, Allowed.IsDue, Machine.{Machine, stage_at, stage_of}, Meaning.Meaning}
use Rattle.npf_core.{specs.{NextState.{is_id, stepped, after_act}, Replies.step_answer}, proofs.EqualityLemmas.is_id-Decides}
use Rattle.npf_connections.specs.Answered.{without}
use Rattle.npf_cells_lives.{specs.{Deaths.{is_dead, slot_by}, Pools.claim_bit, Turns.{running, stage_phase, StaysAt}}, proofs.FreedLemmas.{by_none, by_some}}
use Rattle.npf_cells_lives.proofs.{ConnLemmas.building_at, TurnLemmas.{phase_stays, running_stays}}

-- a step leaves what isn't Live, and the phase
pub stepped_idle : {S A R : Type 0} (m : Meaning S A R) (way : Way) (arg : A) (stage : Stage S) → stage_phase stage ≡ 0 → stepped m way arg stage ≡ stage
stepped_idle m way arg Vacant e = refl
stepped_idle m way arg (Building seat) e = refl
stepped_idle m way arg (Live flow steps) e = absurd cc
stepped_idle m way arg Dead e = refl

pub stepped_phase : {S A R : Type 0} (m : Meaning S A R) (way : Way) (arg : A) (stage : Stage S) → stage_phase (stepped m way arg stage) ≡ stage_phase stage
stepped_phase m way arg Vacant = refl
stepped_phase m way arg (Building seat) = refl
stepped_phase m way arg (Live flow steps) = refl
stepped_phase m way arg Dead = refl

pub stepped_bit : {S A R : Type 0} (m : Meaning S A R) (way : Way) (arg : A) (stage : Stage S) → claim_bit (stepped m way arg stage) ≡ claim_bit stage
stepped_bit m way arg Vacant = refl
stepped_bit m way arg (Building seat) = refl
stepped_bit m way arg (Live flow steps) = refl
stepped_bit m way arg Dead = refl

pub stepped_death : {S A R : Type 0} (m : Meaning S A R) (way : Way) (arg : A) (stage : Stage S) → is_dead (stepped m way arg stage) ≡ is_dead stage
stepped_death m way arg Vacant = refl
stepped_death m way arg (Building seat) = refl
stepped_death m way arg (Live flow steps) = refl
stepped_death m way arg Dead = refl

pub stepped_dead : {S A R : Type 0} (m : Meaning S A R) (way : Way) (arg : A) (stage : Stage S) → stage ≡ Dead → stepped m way arg stage ≡ Dead
stepped_dead m way arg stage e = ap (stepped m way arg) e

-- what is neither Live nor Dead answers a step that it isn't Live
idle_answer : {S A R : Type 0} (m : Meaning S A R) (way : Way) (arg : A) (stage : Stage S) → stage_phase stage ≡ 0 → step_answer m way arg stage ≡ NotLive
idle_answer m way arg Vacant e = refl
idle_answer m way arg (Building seat) e = refl
idle_answer m way arg (Live flow steps) e = absurd cc
idle_answer m way arg Dead e = refl

pub due_bit : {S A R : Type 0} (m : Meaning S A R) (now : ℕ) (stage : Stage S) → IsDue m now stage → claim_bit stage ≡ 1
due_bit m now Vacant due = absurd due
due_bit m now (Building seat) due = absurd due
due_bit m now (Live flow steps) due = refl
due_bit m now Dead due = absurd due

pub due_settled : {S A R : Type 0} (m : Meaning S A R) (now : ℕ) (stage : Stage S) → IsDue m now stage → stage_phase stage ≡ 1
due_settled m now Vacant due = absurd due
due_settled m now (Building seat) due = absurd due
due_settled m now (Live flow steps) due = refl
due_settled m now Dead due = absurd due

pub due_alive : {S A R : Type 0} (m : Meaning S A R) (now : ℕ) (stage : Stage S) → IsDue m now stage → is_dead stage ≡ 0
due_alive m now Vacant due = absurd due
due_alive m now (Building seat) due = absurd due
due_alive m now (Live flow steps) due = refl
due_alive m now Dead due = absurd due

module _ {S A R : Type 0} (m : Meaning S A R) (was now : Slot S) (stays : StaysAt was now) (way : Way) (arg : A) where
  -- a slot that is still at what it was answers a step and goes on as it would have
  pub answer_stays : step_answer m way arg now.stage ≡ step_answer m way arg was.stage
  answer_stays = ⊎_elim
      (λ (same : now ≡ was). ap (λ (x : Slot S). step_answer m way arg x.stage) same)
      (λ (idle : (stage_phase was.stage ≡ 0) × (stage_phase now.stage ≡ 0)). idle_answer m way arg now.stage idle.1 ∙ sym (idle_answer m way arg was.stage idle.0))
      stays

  pub step_stays : StaysAt (record was { stage = stepped m way arg was.stage }) (record now { stage = stepped m way arg now.stage })
  step_stays = ⊎_elim
      (λ (same : now ≡ was). inl (ap (λ (x : Slot S). record x { stage = stepped m way arg x.stage }) same))
      (λ (idle : (stage_phase was.stage ≡ 0) × (stage_phase now.stage ≡ 0)). inr (stepped_phase m way arg was.stage ∙ idle.0, stepped_phase m way arg now.stage ∙ idle.1))
      stays

  pub step_runs : running (stepped m way arg now.stage) ≡ running (stepped m way arg was.stage)
  step_runs = running_stays (record was { stage = stepped m way arg was.stage }) (record now { stage = stepped m way arg now.stage }) step_stays

  pub step_phase : stage_phase (stepped m way arg now.stage) ≡ stage_phase (stepped m way arg was.stage)
  step_phase = phase_stays (record was { stage = stepped m way arg was.stage }) (record now { stage = stepped m way arg now.stage }) step_stays

-- a slot as turns see it goes on by a step as it does, and answers as it does where none but a Dead connection was reclaimed
module _ {S A R : Type 0} (m : Meaning S A R) (gone : ℕ) (x : Slot S) where
  pub step_seen : (way : Way) (arg : A) → stepped m way arg (slot_by gone x).stage ≡ (slot_by gone (record x { stage = stepped m way arg x.stage })).stage
  step_seen way arg = ⊎_elim
      (λ (none : gone ≡ 0). ap (λ (y : Slot S). stepped m way arg y.stage) (by_none gone x none)
      ∙ ap (λ (y : Slot S). y.stage) (sym (by_none gone (record x { stage = stepped m way arg x.stage }) none)))
      (λ (some' : gone ≢ 0). ap (λ (y : Slot S). stepped m way arg y.stage) (by_some gone x some')
      ∙ ap (λ (y : Slot S). y.stage) (sym (by_some gone (record x { stage = stepped m way arg x.stage }) some')))
      (cases_eq gone 0)

  pub answer_seen : (gone ≢ 0 → x.stage ≡ Dead) → (way : Way) (arg : A) → step_answer m way arg (slot_by gone x).stage ≡ step_answer m way arg x.stage
  answer_seen dead way arg = ⊎_elim
      (λ (none : gone ≡ 0). ap (λ (y : Slot S). step_answer m way arg y.stage) (by_none gone x none))
      (λ (some' : gone ≢ 0). ap (λ (y : Slot S). step_answer m way arg y.stage) (by_some gone x some') ∙ ap (step_answer m way arg) (sym (dead some')))
      (cases_eq gone 0)

-- an act changes the stage of this slot alone, and no holder
pub record ActsOn {S : Type 0} (k k' : Machine S) (slot : ℕ) (stage : Stage S) : Type 0 where
  pub here : k'.slot slot ≡ record (k.slot slot) { stage = stage }
  pub elsewhere : (p : ℕ) → p ≢ slot → k'.slot p ≡ k.slot p
  pub holder : (key : Key) → k'.holder key ≡ k.holder key

module _ {S A R : Type 0} (m : Meaning S A R) (k : Machine S) (seat : ℕ) (id : ConnId) (slot : ℕ) (at : id.slot ≡ slot) where
  changed_here : (x : Slot S) → cond (id.slot == slot) x (k.slot slot) ≡ x
  changed_here x = ap (λ b. cond b x (k.slot slot)) (eq-eqb id.slot slot at)

  same_else : (x : Slot S) (p : ℕ) → p ≢ slot → cond (id.slot == p) x (k.slot p) ≡ k.slot p
  same_else x p ne = ap (λ b. cond b x (k.slot p)) (ne_eqb id.slot p (λ e. ne (sym e ∙ at)))

  pub starts_on : (n : ℕ) (init : S) → ActsOn k (after_act m k seat (Acts.Start id n init)) slot (Live init 1)
  starts_on n init = record { here = changed_here _; elsewhere = λ p ne. same_else _ p ne; holder = λ key. refl }

  pub steps_on : (n : ℕ) (way : Way) (arg : A) → ActsOn k (after_act m k seat (Acts.Step n id way arg)) slot (stepped m way arg (k.slot slot).stage)
  steps_on n way arg = record { here = changed_here _; elsewhere = λ p ne. same_else _ p ne; holder = λ key. refl }

  pub kills_on : (why : Why) → ActsOn k (after_act m k seat (Acts.Kill id why)) slot Dead
  kills_on why = record { here = changed_here _; elsewhere = λ p ne. same_else _ p ne; holder = λ key. refl }

module _ {S : Type 0} (k k' : Machine S) (slot : ℕ) (stage : Stage S) (acts : ActsOn k k' slot stage) where
  -- the last incarnations stay
  pub inc_stays : (p : ℕ) → (k'.slot p).inc ≡ (k.slot p).inc
  inc_stays p = ⊎_elim
      (λ (e : p ≡ slot). ap (λ q. (k'.slot q).inc) e ∙ (ap (λ (x : Slot S). x.inc) acts.here ∙ ap (λ q. (k.slot q).inc) (sym e)))
      (λ (ne : p ≢ slot). ap (λ (x : Slot S). x.inc) (acts.elsewhere p ne))
      (cases_eq p slot)

  -- what else is claimed stays, where the slot's is
  pub bit_stays : claim_bit stage ≡ claim_bit (k.slot slot).stage → (p : ℕ) → claim_bit (k'.slot p).stage ≡ claim_bit (k.slot p).stage
  bit_stays same p = ⊎_elim
      (λ (e : p ≡ slot). ap (λ q. claim_bit (k'.slot q).stage) e ∙ (ap (λ (x : Slot S). claim_bit x.stage) acts.here ∙ (same ∙ ap (λ q. claim_bit (k.slot q).stage) (sym e))))
      (λ (ne : p ≢ slot). ap (λ (x : Slot S). claim_bit x.stage) (acts.elsewhere p ne))
      (cases_eq p slot)

  -- what is Building stays so, unless it is the slot's and changes
  pub still_building : (i : ConnId) (j : ℕ) → stage_of k i ≡ Building j → (i.slot ≡ slot → stage ≡ (k.slot slot).stage) → stage_of k' i ≡ Building j
  still_building i j built keeps = ⊎_elim
      (λ (e : i.slot ≡ slot).
      let x : k'.slot slot ≡ k.slot slot = acts.here ∙ ap (λ y. record (k.slot slot) { stage = y }) (keeps e) in
      ap (λ (y : Slot S). stage_at y i.inc) (ap k'.slot e ∙ (x ∙ ap k.slot (sym e))) ∙ built)
      (λ (ne : i.slot ≢ slot). ap (λ (y : Slot S). stage_at y i.inc) (acts.elsewhere i.slot ne) ∙ built)
      (cases_eq i.slot slot)

-- what is Building in a slot is at that
pub building_in : {S : Type 0} (k : Machine S) (slot : ℕ) (i : ConnId) (j : ℕ) → stage_of k i ≡ Building j → i.slot ≡ slot → ((k.slot slot).inc ≡ i.inc) × ((k.slot slot).stage ≡ Building j)
building_in k slot i j built e = subst (λ p. ((k.slot p).inc ≡ i.inc) × ((k.slot p).stage ≡ Building j)) e (building_at (k.slot i.slot) i.inc j built)

pub in_without : (id other : ConnId) (ids : List ConnId) → Contains ids id → ¬ (id ≡ other) → Contains (without other ids) id
in_without id other ids c ne = Contains-filter_from (λ (x : ConnId). not (is_id x other)) ids id c (by_test (is_id id other) refl)
  where
    by_test : (b : Bool) → is_id id other ≡ b → not (is_id id other) ≡ true
    by_test true e = absurd (ne ((is_id-Decides id other).0 e))
    by_test false e = ap not e
