-- How many parts there are.
use Rattle.std.proofs.Common.{◌≡◌, ◌≤◌, ◌+◌, ◌*◌, ◌∙◌, ℕ, cond, is_some, Option, None, Some, List, [], ◌∷◌, ◌++◌, length, take, drop, count_by, refl, arith, length-append}
use Rattle.std.proofs.lemmas.{List.length-drop, List.Sums.{count_by-le-length, sum_by-cons, sum_by-take-drop}}
use Rattle.npf_traffic.specs.{declared.phase.Phase.Phase, Phases.packets_in}
use Rattle.npf_traffic.proofs.PhaseLemmas.{packets_in-cons}
use Rattle.npf_ctl_aging.specs.Aging.{parts_from_tick, parts_of_phase, parts_of_phases}

-- how many packets with these multiples follow one
abbrev those : List (Option ℕ) → ℕ
those ticks = count_by is_some ticks

one_more : (tick : Option ℕ) (ticks : List (Option ℕ)) → those (tick ∷ ticks) ≡ cond (is_some tick) 1 0 + those ticks
one_more tick ticks = sum_by-cons (λ (other : Option ℕ). cond (is_some other) 1 0) tick ticks

length_from_tick : (ticks : List (Option ℕ)) → length (parts_from_tick ticks) ≡ 2 * those ticks
length_from_tick [] = refl
length_from_tick (None ∷ ticks) = omega (arith, length_from_tick ticks, one_more None ticks)
length_from_tick (Some tick ∷ ticks) = omega (arith, length_from_tick ticks, one_more (Some tick) ticks)

pub length_of_phases :
    (ticks : List (Option ℕ)) (phases : List Phase) → packets_in phases ≡ length ticks →
    length (parts_of_phases ticks phases) ≡ length phases + 2 * those ticks
length_of_phases ticks [] all = omega (arith, count_by-le-length is_some ticks)
length_of_phases ticks (phase ∷ phases) all =
    let first : List (Option ℕ) = take phase.packets ticks in
    let rest : List (Option ℕ) = drop phase.packets ticks in
    omega (
      arith,
      length-append (parts_of_phase phase.commands first) (parts_of_phases rest phases),
      length_from_tick first,
      length_of_phases rest phases (omega (arith, length-drop phase.packets ticks, packets_in-cons phase phases)),
      sum_by-take-drop (λ (tick : Option ℕ). cond (is_some tick) 1 0) ticks phase.packets,
    )
