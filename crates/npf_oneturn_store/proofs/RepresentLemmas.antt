-- A store that represents a state of the machine is answered as the machine is, and represents the state that the act leaves.
use Rattle.std.proofs.Common.{◌≡◌, ◌∙◌, ℕ, Option, Some, None, refl, sym, ap, rules}
use Rattle.npf_types.specs.declared.key.{Key.Key, Way.Way}
use Rattle.npf_core.specs.{declared.{conn_id.ConnId.ConnId, stage.Stage.Stage}, Copying.HoldsIf, Machine.{Machine, IsLive}, Meaning.Meaning}
use Rattle.npf_oneturn_store.specs.{declared.{phase.SlotPhase.SlotPhase, store.Store.Store}, Represents.{Represents, phase_in}, Store.{IsLivePhase, TellsKey}}
use Rattle.npf_oneturn_store.specs.RepresentLaw.{NewIsOpening, StaysSame, ShowsPhases, ShowsBuilding, ShowsAlive, LookIsAct, ClaimIsAct, FullIsClaimed, HoldIsAct, StartIsAct}
use Rattle.npf_oneturn_store.specs.RepresentLaw.{StepIsAct, KillIsAct, UnholdIsAct, FreeIsAct, ShowsBare, ShowsKeys, ShowsKept, ShowsDead, ShowsDue}

module _ (S : Type 0) where
  pub new_is_opening : NewIsOpening S
  new_is_opening = search rules

  pub stays_same : StaysSame S
  stays_same = search rules

  pub shows_phases : ShowsPhases S
  shows_phases = search rules

  pub shows_building : ShowsBuilding S
  shows_building = search rules

  pub shows_alive : ShowsAlive S
  shows_alive = search rules

  pub full_is_claimed : FullIsClaimed S
  full_is_claimed = search rules

  pub shows_bare : ShowsBare S
  shows_bare = search rules

  pub shows_keys : ShowsKeys S
  shows_keys = search rules

  pub shows_dead : ShowsDead S
  shows_dead = search rules

  -- a stage is Live where its phase is, with the same flow and steps
  live_phase : (stage : Stage S) → IsLive stage → IsLivePhase (phase_in stage)
  live_phase Stage.Vacant live = live
  live_phase (Stage.Building seat) live = live
  live_phase (Stage.Live flow steps) live = tt
  live_phase Stage.Dead live = live

  live_stage : (stage : Stage S) (flow : S) (steps : ℕ) → phase_in stage ≡ SlotPhase.Live flow steps → stage ≡ Stage.Live flow steps
  live_stage Stage.Vacant flow steps is = absurd cc
  live_stage (Stage.Building seat) flow steps is = absurd cc
  live_stage (Stage.Live now count) flow steps is = cc
  live_stage Stage.Dead flow steps is = absurd cc

  holds_if : (slots : ℕ) (store : Store S) (k : Machine S) (id : ConnId) (way : Way) (key : Option Key) → Represents slots store k →
      TellsKey store id way key → HoldsIf k id way key
  holds_if slots store k id way None r none = (shows_bare slots store k id way r).1 none
  holds_if slots store k id way (Some key) r held = shows_keys slots store k id way key r held

  pub shows_kept : ShowsKept S
  shows_kept slots store k slot None r none = λ live. none (rw (r.placed slot) (live_phase (k.slot slot).stage live))
  shows_kept slots store k slot (Some kept) r has = record {
    there = has.there;
    live = (has.live.0, live_stage _ kept.state has.live.0 (sym (shows_phases slots store k kept.id r) ∙ has.live.1));
    forward = holds_if slots store k kept.id _ kept.forward r has.forward;
    port = holds_if slots store k kept.id _ kept.port r has.port;
    backward = holds_if slots store k kept.id _ kept.backward r has.backward;
  }

module _ {S A R : Type 0} (m : Meaning S A R) where
  pub look_is_act : LookIsAct m
  look_is_act = search rules

  pub claim_is_act : ClaimIsAct m
  claim_is_act = search rules

  pub hold_is_act : HoldIsAct m
  hold_is_act = search rules

  pub start_is_act : StartIsAct m
  start_is_act = search rules

  pub step_is_act : StepIsAct m
  step_is_act = search rules

  pub kill_is_act : KillIsAct m
  kill_is_act = search rules

  pub unhold_is_act : UnholdIsAct m
  unhold_is_act = search rules

  pub free_is_act : FreeIsAct m
  free_is_act = search rules

  pub shows_due : ShowsDue m
  shows_due = search rules
