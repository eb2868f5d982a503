-- A flow whose timeouts can be set may be idle for a time.
use Rattle.std.proofs.{Common.{◌≡◌, ◌≤◌, ℕ, true, false, arith}, lemmas.Bool.Decides.nat_tests}
use Rattle.npf_timeouts.specs.Timeouts.{AreTimeouts, is_timeout, timeout_of}
use Rattle.npf_flow.specs.{declared.flow.Flow.Flow, Timeout.{timeout_kind, is_due}}

some : (seconds : ℕ) → is_timeout seconds ≡ true → 1 ≤ seconds
some seconds is = grind (arith, nat_tests)

pub not_due : (flow : Flow) (now : ℕ) → AreTimeouts flow.timeouts → now ≤ flow.last → is_due flow now ≡ false
not_due flow now are h =
    let some : 1 ≤ timeout_of flow.timeouts (timeout_kind flow.kind) = some _ (are (timeout_kind flow.kind)) in
    grind arith
