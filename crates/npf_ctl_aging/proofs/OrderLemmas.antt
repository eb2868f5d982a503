-- What the parts of phases publish.
use Rattle.std.proofs.Common.{◌+◌, ℕ, Option, None, Some, List, [], ◌∷◌, ◌++◌, take, drop, sym, subst, add-zero}
use Rattle.npf_traffic.specs.{declared.phase.Phase.Phase, Phases.{PhasesPublishFrom, published_by}}
use Rattle.npf_ctl_aging.specs.Aging.{parts_from_tick, parts_of_phases}

none_published : (count last : ℕ) (phases : List Phase) → PhasesPublishFrom count last phases → PhasesPublishFrom count (last + 0) phases
none_published count last phases publish =
    let P : ℕ → Type 0 = λ n. PhasesPublishFrom count n phases in subst P (sym (add-zero last)) publish

-- the parts behind the first publish nothing
order_from_tick :
    (count last : ℕ) (ticks : List (Option ℕ)) (phases : List Phase) →
    PhasesPublishFrom count last phases → PhasesPublishFrom count last (parts_from_tick ticks ++ phases)
order_from_tick count last [] phases publish = publish
order_from_tick count last (None ∷ ticks) phases publish = order_from_tick count last ticks phases publish
order_from_tick count last (Some tick ∷ ticks) phases publish =
    let rest : List Phase = parts_from_tick ticks ++ phases in
    let both : PhasesPublishFrom count (last + 0) rest = none_published count last rest (order_from_tick count last ticks phases publish) in
    (tt, (tt, none_published count (last + 0) rest both))

pub order_of_phases :
    (count last : ℕ) (ticks : List (Option ℕ)) (phases : List Phase) →
    PhasesPublishFrom count last phases → PhasesPublishFrom count last (parts_of_phases ticks phases)
order_of_phases count last ticks [] publish = tt
order_of_phases count last ticks (phase ∷ phases) publish = (
  publish.0,
  order_from_tick count (last + published_by phase.commands) (take phase.packets ticks) (parts_of_phases (drop phase.packets ticks) phases)
      (order_of_phases count (last + published_by phase.commands) (drop phase.packets ticks) phases publish.1),
)
