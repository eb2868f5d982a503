-- From the answers of the lanes to those of the phase.
use Rattle.std.proofs.Common.{◌≡◌, ℕ, ◌==◌, ◌≤◌, ◌<◌, ◌+◌, Bool, true, false, List, [], ◌∷◌, All, Option, Some, None, cond, get_or, length, refl, ap, arith, suc, zero}
use Rattle.std.{specs.List.{AllZip, Sorted.IsNonDecreasing}, proofs.lemmas.List.Elements.{All-nil, All-cons, All-head, All-tail}}
use Rattle.npf_model.specs.Configuration.{Configuration}
use Rattle.npf_runner_dealing.specs.Lanes.{of_lane}
use Rattle.npf_engine.specs.Histories.{History}
use Rattle.npf_traffic.specs.declared.{packet.Packet.Packet, phase.Spread.Spread}
use Rattle.npf_runner.specs.{Spread.IsWorkerOf, Job.{Handled, Job, job_arrival, numbered_from}, Played.{outcomes_of, outputs_of}}
use Rattle.npf_runner.{specs.Plays.{AreAnswered, AsksBetween, asked_by}, proofs.{LaneLemmas.Zips, WorksLemmas.{SaysOwn, Answer, Answers, ReadsOn}}}

-- the numbers that were asked
abbrev pub somes : List (Option ℕ) → List ℕ
somes [] = []
somes (None ∷ asked) = somes asked
somes (Some number ∷ asked) = number ∷ somes asked

pub asked_by_lane : (worker : ℕ) (order : List ℕ) (asked : List (Option ℕ)) → asked_by worker order asked ≡ somes (of_lane worker order asked)
asked_by_lane worker [] asked = refl
asked_by_lane worker (other ∷ order) [] = refl
asked_by_lane worker (other ∷ order) (None ∷ asked) = by_test (other == worker) (asked_by_lane worker order asked)
  where
    by_test : (test : Bool) → asked_by worker order asked ≡ somes (of_lane worker order asked) →
        asked_by worker order asked ≡ somes (cond test (None ∷ of_lane worker order asked) (of_lane worker order asked))
    by_test true e = e
    by_test false e = e
asked_by_lane worker (other ∷ order) (Some number ∷ asked) = by_test (other == worker) (asked_by_lane worker order asked)
  where
    by_test : (test : Bool) → asked_by worker order asked ≡ somes (of_lane worker order asked) →
        cond test (number ∷ asked_by worker order asked) (asked_by worker order asked) ≡ somes (cond test (Some number ∷ of_lane worker order asked) (of_lane worker order asked))
    by_test true e = ap (λ ns. number ∷ ns) e
    by_test false e = e

-- a reader's numbers lie in its range, and don't fall
pub reads_between : (first last least : ℕ) (asked : List (Option ℕ)) → ReadsOn (record { first = first; last = last }) least asked → All (AsksBetween first last) asked
reads_between first last least [] r = All-nil (AsksBetween first last)
reads_between first last least (None ∷ asked) r = All-cons (AsksBetween first last) None asked tt (reads_between first last least asked r)
reads_between first last least (Some number ∷ asked) r =
    All-cons (AsksBetween first last) (Some number) asked (record { low = r.0.0; high = r.0.1 }) (reads_between first last number asked r.2)

reads_above : (first last least : ℕ) (asked : List (Option ℕ)) → ReadsOn (record { first = first; last = last }) least asked →
    (j : ℕ) (d : ℕ) → j < length (somes asked) → least ≤ get_or (somes asked) j d
reads_above first last least [] r j d low = absurd (omega (arith, low))
reads_above first last least (None ∷ asked) r j d low = reads_above first last least asked r j d low
reads_above first last least (Some number ∷ asked) r zero d low = r.1
reads_above first last least (Some number ∷ asked) r (suc j) d low = let rest = reads_above first last number asked r.2 j d (omega (arith, low)) in let here = r.1 in omega (arith, rest, here)

pub reads_rise : (first last least : ℕ) (asked : List (Option ℕ)) → ReadsOn (record { first = first; last = last }) least asked → IsNonDecreasing (somes asked)
reads_rise first last least [] r i j d le low = absurd (omega (arith, low))
reads_rise first last least (None ∷ asked) r i j d le low = reads_rise first last least asked r i j d le low
reads_rise first last least (Some number ∷ asked) r zero zero d le low = omega arith
reads_rise first last least (Some number ∷ asked) r zero (suc j) d le low = reads_above first last number asked r.2 j d (omega (arith, low))
reads_rise first last least (Some number ∷ asked) r (suc i) zero d le low = absurd (omega (arith, le))
reads_rise first last least (Some number ∷ asked) r (suc i) (suc j) d le low = reads_rise first last number asked r.2 i j d (omega (arith, le)) (omega (arith, low))

module _ (says : SaysOwn) (configs : List Configuration) (slots : ℕ) (history end : History) (first last : ℕ) where
  -- a packet's answer under the number of some pass
  pub record IsShown (job : Job) (asked : Option ℕ) (done : Handled) : Type 0 where
    pub seat : ℕ
    pub answer : Answer says configs slots history end seat job asked done
    pub between : AsksBetween first last asked

  pub answers_zip : (seat : ℕ) (jobs : List Job) (asked : List (Option ℕ)) (dones : List Handled) → Answers says configs slots history end seat jobs asked dones →
      All (AsksBetween first last) asked → Zips IsShown jobs asked dones
  answers_zip seat [] [] [] a all = tt
  answers_zip seat (job ∷ jobs) (asks ∷ asked) (done ∷ dones) a all =
      (record { seat = seat; answer = a.0; between = All-head (AsksBetween first last) asks asked all }, answers_zip seat jobs asked dones a.1 (All-tail (AsksBetween first last) asks asked all))
  answers_zip seat [] [] (done ∷ dones) a all = absurd a
  answers_zip seat [] (asks ∷ asked) [] a all = absurd a
  answers_zip seat [] (asks ∷ asked) (done ∷ dones) a all = absurd a
  answers_zip seat (job ∷ jobs) [] [] a all = absurd a
  answers_zip seat (job ∷ jobs) [] (done ∷ dones) a all = absurd a
  answers_zip seat (job ∷ jobs) (asks ∷ asked) [] a all = absurd a

  pub all_between : (jobs : List Job) (asked : List (Option ℕ)) (dones : List Handled) → Zips IsShown jobs asked dones → All (AsksBetween first last) asked
  all_between [] [] [] z = All-nil (AsksBetween first last)
  all_between (job ∷ jobs) (asks ∷ asked) (done ∷ dones) z = All-cons (AsksBetween first last) asks asked z.0.between (all_between jobs asked dones z.1)
  all_between [] [] (done ∷ dones) z = absurd z
  all_between [] (asks ∷ asked) [] z = absurd z
  all_between [] (asks ∷ asked) (done ∷ dones) z = absurd z
  all_between (job ∷ jobs) [] [] z = absurd z
  all_between (job ∷ jobs) [] (done ∷ dones) z = absurd z
  all_between (job ∷ jobs) (asks ∷ asked) [] z = absurd z

  pub are_answered : (workers : ℕ) (spread : Spread) (n : ℕ) (packets : List Packet) (order : List ℕ) (asked : List (Option ℕ)) (dones : List Handled) →
      AllZip (λ job worker. IsWorkerOf spread workers (job_arrival job) worker) (numbered_from n packets) order → Zips IsShown (numbered_from n packets) asked dones →
      AreAnswered configs workers spread slots history end n packets order asked (outcomes_of dones) (outputs_of dones)
  are_answered workers spread n [] [] [] [] s z = tt
  are_answered workers spread n (p ∷ packets) (w ∷ order) (asks ∷ asked) (done ∷ dones) s z = (
    record { dealt = s.0; explained = z.0.answer.told.explained; kept = z.0.answer.kept; same = z.0.answer.same },
    are_answered workers spread (n + 1) packets order asked dones s.1 z.1,
  )
  are_answered workers spread n [] (w ∷ order) asked dones s z = absurd s
  are_answered workers spread n (p ∷ packets) [] asked dones s z = absurd s
  are_answered workers spread n [] [] [] (done ∷ dones) s z = absurd z
  are_answered workers spread n [] [] (asks ∷ asked) [] s z = absurd z
  are_answered workers spread n [] [] (asks ∷ asked) (done ∷ dones) s z = absurd z
  are_answered workers spread n (p ∷ packets) (w ∷ order) [] [] s z = absurd z
  are_answered workers spread n (p ∷ packets) (w ∷ order) [] (done ∷ dones) s z = absurd z
  are_answered workers spread n (p ∷ packets) (w ∷ order) (asks ∷ asked) [] s z = absurd z
