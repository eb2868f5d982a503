-- From the turns of the lanes to those of the phase.
use Rattle.std.{proofs.Common.{◌≡◌, ℕ, ◌==◌, ◌<◌, ◌+◌, Bool, true, false, List, [], ◌∷◌, length, refl, sym, subst, arith, suc, zero}, specs.Prelude.slice_index}
use Rattle.std.{specs.List.Contains, proofs.lemmas.Bool.Decides.Decides-eqb}
use Rattle.npf_shelf.proofs.ListLemmas.{Contains-first, Contains-later}
use Rattle.npf_runner_dealing.{specs.Lanes.of_lane, proofs.LaneLemmas.{of_lane-yes, of_lane-no}}
use Rattle.npf_engine.specs.Histories.{History}
use Rattle.npf_traffic.specs.declared.packet.Packet.{Packet}
use Rattle.npf_runner.{specs.{Job.{Job, numbered_from}, Plays.{AreInTurn, IsBefore}}, proofs.WorksLemmas.{InTurn, numbers_of}}

abbrev job_at : ℕ → Packet → Job
job_at n packet = record { number = n; packet = packet }

abbrev lane_numbers : ℕ → List ℕ → ℕ → List Packet → List ℕ
lane_numbers w order first packets = numbers_of (of_lane w order (numbered_from first packets))

-- a packet's number stands in its lane
stands : (order : List ℕ) (first : ℕ) (packets : List Packet) (j w : ℕ) → length packets ≡ length order → j < length order → slice_index order j ≡ w →
    Contains (lane_numbers w order first packets) (first + j)
stands [] first packets j w n low at = absurd (omega (arith, low))
stands (v ∷ order) first [] j w n low at = absurd (omega (arith, n))
stands (v ∷ order) first (p ∷ packets) zero w n low at =
    let here = subst (λ js. Contains (numbers_of js) first) (sym (of_lane-yes v w order (job_at first p) (numbered_from (first + 1) packets) ((Decides-eqb v w).1 at)))
    (Contains-first first (lane_numbers w order (first + 1) packets)) in
    subst (λ m. Contains (lane_numbers w (v ∷ order) first (p ∷ packets)) m) (let same : first ≡ first + 0 = omega arith in same) here
stands (v ∷ order) first (p ∷ packets) (suc j) w n low at =
    let later = stands order (first + 1) packets j w (omega (arith, n)) (omega (arith, low)) at in
    subst (λ m. Contains (lane_numbers w (v ∷ order) first (p ∷ packets)) m) (let same : first + 1 + j ≡ first + suc j = omega arith in same) (by_test (v == w) refl later)
  where
    by_test : (test : Bool) → (v == w) ≡ test → Contains (lane_numbers w order (first + 1) packets) (first + 1 + j) → Contains (lane_numbers w (v ∷ order) first (p ∷ packets)) (first + 1 + j)
    by_test true is c = subst (λ js. Contains (numbers_of js) (first + 1 + j)) (sym (of_lane-yes v w order (job_at first p) (numbered_from (first + 1) packets) is))
        (Contains-later first (first + 1 + j) (lane_numbers w order (first + 1) packets) c)
    by_test false is c = subst (λ js. Contains (numbers_of js) (first + 1 + j)) (sym (of_lane-no v w order (job_at first p) (numbered_from (first + 1) packets) is)) c

module _ (history : History) where
  rest_in_turn : (v : ℕ) (order : List ℕ) (first : ℕ) (p : Packet) (packets : List Packet) (w : ℕ) → InTurn history (lane_numbers w (v ∷ order) first (p ∷ packets)) →
      InTurn history (lane_numbers w order (first + 1) packets)
  rest_in_turn v order first p packets w t = by_test (v == w) refl
    where
      by_test : (test : Bool) → (v == w) ≡ test → InTurn history (lane_numbers w order (first + 1) packets)
      by_test true is = let all = subst (λ js. InTurn history (numbers_of js)) (of_lane-yes v w order (job_at first p) (numbered_from (first + 1) packets) is) t in all.1
      by_test false is = subst (λ js. InTurn history (numbers_of js)) (of_lane-no v w order (job_at first p) (numbered_from (first + 1) packets) is) t

  pub turns_of_lanes : (order : List ℕ) (first : ℕ) (packets : List Packet) → length packets ≡ length order → ((w : ℕ) → InTurn history (lane_numbers w order first packets)) →
      AreInTurn history first order
  turns_of_lanes [] first packets n lanes i j less low same = absurd (omega (arith, low))
  turns_of_lanes (v ∷ order) first [] n lanes i j less low same = absurd (omega (arith, n))
  turns_of_lanes (v ∷ order) first (p ∷ packets) n lanes i zero less low same = absurd (omega (arith, less))
  turns_of_lanes (v ∷ order) first (p ∷ packets) n lanes zero (suc j) less low same =
      let all = subst (λ js. InTurn history (numbers_of js)) (of_lane-yes v v order (job_at first p) (numbered_from (first + 1) packets) ((Decides-eqb v v).1 refl)) (lanes v) in
      let before = all.0 (first + 1 + j) (stands order (first + 1) packets j v (omega (arith, n)) (omega (arith, low)) (sym same)) in
      subst (λ m. IsBefore history m (first + suc j)) (let e : first ≡ first + 0 = omega arith in e)
      (subst (λ m. IsBefore history first m) (let e : first + 1 + j ≡ first + suc j = omega arith in e) before)
  turns_of_lanes (v ∷ order) first (p ∷ packets) n lanes (suc i) (suc j) less low same =
      let rest = turns_of_lanes order (first + 1) packets (omega (arith, n)) (λ w. rest_in_turn v order first p packets w (lanes w)) i j (omega (arith, less)) (omega (arith, low)) same in
      subst (λ m. IsBefore history m (first + suc j)) (let e : first + 1 + i ≡ first + suc i = omega arith in e)
      (subst (λ m. IsBefore history (first + 1 + i) m) (let e : first + 1 + j ≡ first + suc j = omega arith in e) rest)
