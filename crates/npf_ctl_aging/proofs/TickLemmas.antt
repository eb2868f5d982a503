-- The multiples that some of the packets of a run follow.
use Rattle.std.proofs.Common.{◌≡◌, ◌≤◌, ◌∙◌, ℕ, zero, suc, Option, None, Some, List, [], ◌∷◌, length, take, drop, get_or, refl, sym, ap, arith}
use Rattle.npf_traffic.specs.declared.packet.Packet.{Packet}
use Rattle.npf_ctl_aging.specs.Aging.{packet_times, tick_behind, ticks, ticks_behind, times_before}

pub ticks_take :
    (seconds : ℕ) (before : Option ℕ) (packets : List Packet) (count : ℕ) →
    take count (ticks_behind seconds before packets) ≡ ticks_behind seconds before (take count packets)
ticks_take seconds before packets zero = refl
ticks_take seconds before [] (suc count) = refl
ticks_take seconds before (packet ∷ packets) (suc count) =
    ap (λ rest. tick_behind seconds before packet.time ∷ rest) (ticks_take seconds (Some packet.time) packets count)

pub ticks_drop :
    (seconds : ℕ) (before : Option ℕ) (packets : List Packet) (from : ℕ) → from ≤ length packets →
    drop from (ticks_behind seconds before packets) ≡ ticks_behind seconds (get_or (before ∷ packet_times packets) from None) (drop from packets)
ticks_drop seconds before packets zero within = refl
ticks_drop seconds before [] (suc from) within = absurd (omega arith)
ticks_drop seconds before (packet ∷ packets) (suc from) within = ticks_drop seconds (Some packet.time) packets from (omega arith)

-- those of so many packets from a place on
pub ticks_of_part :
    (seconds : ℕ) (packets : List Packet) (from count : ℕ) → from ≤ length packets →
    ticks_behind seconds (get_or (times_before packets) from None) (take count (drop from packets)) ≡ take count (drop from (ticks seconds packets))
ticks_of_part seconds packets from count within =
    sym (ap (take count) (ticks_drop seconds None packets from within)
    ∙ ticks_take seconds (get_or (times_before packets) from None) (drop from packets) count)
