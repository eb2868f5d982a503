-- How many packets phases have.
use Rattle.std.proofs.{Common.{◌≡◌, ◌+◌, List, ◌∷◌, map}, lemmas.List.Sums.sum_by-cons}
use Rattle.npf_traffic.specs.{declared.phase.Phase.Phase, Phases.packets_in}

pub packets_in-cons : (phase : Phase) (phases : List Phase) → packets_in (phase ∷ phases) ≡ phase.packets + packets_in phases
packets_in-cons phase phases = sum_by-cons (λ n. n) phase.packets (map (λ (p : Phase). p.packets) phases)
