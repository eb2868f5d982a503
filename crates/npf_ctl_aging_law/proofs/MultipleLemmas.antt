-- What is due as of a multiple stays due as of the last one.
use Rattle.std.proofs.Common.{◌≤◌, ◌<◌, ◌*◌, ◌/◌, ℕ, arith}
use Rattle.std.proofs.Math.Nat.{div-mul-le_self, le-div_iff_mul-le, mul-le-mul_right}
use Rattle.npf_core.specs.{Allowed.IsDue, declared.stage.Stage.{Stage, TheVariants.{Building, Dead, Live, Vacant}}}
use Rattle.npf_flow.specs.{declared.flow.Flow.Flow, Flows.flow_law, Laws.StaysDue}
use Rattle.npf_ctl_aging.specs.Aging.{last_tick, period}
use Rattle.npf_ctl_aging_law.specs.OneExpiry.{IsDueAtMultiple}

-- the last multiple isn't before another that isn't after the time
pub not_before : (seconds time multiple : ℕ) → 0 < seconds → multiple * period seconds ≤ time → multiple * period seconds ≤ last_tick seconds time
not_before seconds time multiple some within =
    let passes : 0 < period seconds = omega arith in
    mul-le-mul_right (period seconds) ((le-div_iff_mul-le {x = multiple} {y = time} passes).1 within)

stage_stays : StaysDue → (now later : ℕ) (stage : Stage Flow) → now ≤ later → IsDue flow_law now stage → IsDue flow_law later stage
stage_stays stays now later Vacant before due = due
stage_stays stays now later (Building seat) before due = due
stage_stays stays now later (Live flow steps) before due = stays flow now later before due
stage_stays stays now later Dead before due = due

pub due_at_last :
    StaysDue → (seconds time : ℕ) (stage : Stage Flow) → 0 < seconds → IsDueAtMultiple seconds time stage → IsDue flow_law (last_tick seconds time) stage
due_at_last stays seconds time stage some due =
    stage_stays stays (due.0 * period seconds) (last_tick seconds time) stage (not_before seconds time due.0 some due.1) due.2

pub at_last_only : (seconds time : ℕ) (stage : Stage Flow) → IsDue flow_law (last_tick seconds time) stage → IsDueAtMultiple seconds time stage
at_last_only seconds time stage due = (time / period seconds, div-mul-le_self time (period seconds), due)
