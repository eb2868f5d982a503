-- The numbers of packets that are dealt to lanes.
use Rattle.std.proofs.Common.{◌≡◌, ◌⊎◌, ℕ, ◌==◌, ◌≤◌, ◌<◌, ◌+◌, Bool, true, false, List, [], ◌∷◌, length, refl, sym, subst, ◌∙◌, ⊎_elim, inl, inr, arith}
use Rattle.std.{specs.List.Contains, proofs.lemmas.Bool.Decides.Decides-eqb}
use Rattle.npf_shelf.proofs.ListLemmas.{Contains-nil, Contains-cons_cases}
use Rattle.npf_runner_dealing.{specs.Lanes.of_lane, proofs.LaneLemmas.{of_lane-yes, of_lane-no}}
use Rattle.npf_traffic.specs.declared.packet.Packet.{Packet}
use Rattle.npf_runner.{specs.Job.{Job, numbered_from}, proofs.WorksLemmas.{numbers_of, Apart}}

abbrev job_at : ℕ → Packet → Job
job_at n packet = record { number = n; packet = packet }

-- they are those of the phase's packets
pub in_phase : (order : List ℕ) (first : ℕ) (packets : List Packet) (lane n : ℕ) → Contains (numbers_of (of_lane lane order (numbered_from first packets))) n →
    (first ≤ n) × (n < first + length packets)
in_phase [] first packets lane n c = absurd (Contains-nil n c)
in_phase (v ∷ order) first [] lane n c = absurd (Contains-nil n c)
in_phase (v ∷ order) first (p ∷ packets) lane n c = by_test (v == lane) refl (λ d. in_phase order (first + 1) packets lane n d)
  where
    by_test : (test : Bool) → (v == lane) ≡ test →
        (Contains (numbers_of (of_lane lane order (numbered_from (first + 1) packets))) n → (first + 1 ≤ n) × (n < first + 1 + length packets)) →
        (first ≤ n) × (n < first + length (p ∷ packets))
    by_test true is later =
        let d = subst (λ js. Contains (numbers_of js) n) (of_lane-yes v lane order (job_at first p) (numbered_from (first + 1) packets) is) c in
        ⊎_elim (λ (e : first ≡ n). (omega (arith, e), omega (arith, e))) (λ l. let r = later l in (omega (arith, r.0), omega (arith, r.1)))
        (Contains-cons_cases first n (numbers_of (of_lane lane order (numbered_from (first + 1) packets))) d)
    by_test false is later =
        let r = later (subst (λ js. Contains (numbers_of js) n) (of_lane-no v lane order (job_at first p) (numbered_from (first + 1) packets) is) c) in
        (omega (arith, r.0), omega (arith, r.1))

-- each once
pub apart_in_lane : (order : List ℕ) (first : ℕ) (packets : List Packet) (lane : ℕ) → Apart (numbers_of (of_lane lane order (numbered_from first packets)))
apart_in_lane [] first packets lane = tt
apart_in_lane (v ∷ order) first [] lane = tt
apart_in_lane (v ∷ order) first (p ∷ packets) lane = by_test (v == lane) refl (apart_in_lane order (first + 1) packets lane)
  where
    by_test : (test : Bool) → (v == lane) ≡ test → Apart (numbers_of (of_lane lane order (numbered_from (first + 1) packets))) →
        Apart (numbers_of (of_lane lane (v ∷ order) (numbered_from first (p ∷ packets))))
    by_test true is rest = subst (λ js. Apart (numbers_of js)) (sym (of_lane-yes v lane order (job_at first p) (numbered_from (first + 1) packets) is))
        ((λ c. let r = in_phase order (first + 1) packets lane first c in absurd (omega (arith, r.0))), rest)
    by_test false is rest = subst (λ js. Apart (numbers_of js)) (sym (of_lane-no v lane order (job_at first p) (numbered_from (first + 1) packets) is)) rest

-- in one lane alone
pub in_one_lane : (order : List ℕ) (first : ℕ) (packets : List Packet) (lane other n : ℕ) → Contains (numbers_of (of_lane lane order (numbered_from first packets))) n →
    Contains (numbers_of (of_lane other order (numbered_from first packets))) n → lane ≡ other
in_one_lane [] first packets lane other n c d = absurd (Contains-nil n c)
in_one_lane (v ∷ order) first [] lane other n c d = absurd (Contains-nil n c)
in_one_lane (v ∷ order) first (p ∷ packets) lane other n c d =
    both (split lane (v == lane) refl c) (split other (v == other) refl d) (λ e f. in_one_lane order (first + 1) packets lane other n e f)
  where
    -- the first packet, which went to this lane, or a later one
    split : (w : ℕ) (test : Bool) → (v == w) ≡ test → Contains (numbers_of (of_lane w (v ∷ order) (numbered_from first (p ∷ packets)))) n →
        ((first ≡ n) × (v ≡ w)) ⊎ Contains (numbers_of (of_lane w order (numbered_from (first + 1) packets))) n
    split w true is e = ⊎_elim (λ (same : first ≡ n). inl (same, (Decides-eqb v w).0 is)) (λ l. inr l)
        (Contains-cons_cases first n (numbers_of (of_lane w order (numbered_from (first + 1) packets)))
        (subst (λ js. Contains (numbers_of js) n) (of_lane-yes v w order (job_at first p) (numbered_from (first + 1) packets) is) e))
    split w false is e = inr (subst (λ js. Contains (numbers_of js) n) (of_lane-no v w order (job_at first p) (numbered_from (first + 1) packets) is) e)

    both : ((first ≡ n) × (v ≡ lane)) ⊎ Contains (numbers_of (of_lane lane order (numbered_from (first + 1) packets))) n →
        ((first ≡ n) × (v ≡ other)) ⊎ Contains (numbers_of (of_lane other order (numbered_from (first + 1) packets))) n →
        (Contains (numbers_of (of_lane lane order (numbered_from (first + 1) packets))) n →
        Contains (numbers_of (of_lane other order (numbered_from (first + 1) packets))) n → lane ≡ other) → lane ≡ other
    both (inl a) (inl b) rest = sym a.1 ∙ b.1
    both (inl a) (inr e) rest = absurd (let r = in_phase order (first + 1) packets other n e in omega (arith, a.0, r.0))
    both (inr e) (inl b) rest = absurd (let r = in_phase order (first + 1) packets lane n e in omega (arith, b.0, r.0))
    both (inr e) (inr f) rest = rest e f
