-- For each packet that the table had no node for, the count of sweeps rose.
use Rattle.std.proofs.Common.{◌≡◌, ℕ, ◌≤◌, ◌<◌, ◌+◌, Bool, true, false, List, [], ◌∷◌, ◌++◌, cond, map, set, get_or, length, sum, refl, sym, ap, ◌∙◌, arith}
use Rattle.std.{specs.List.{AllZip, filter, sum_by}, proofs.lemmas.List.{Sums.{sum_by-cons, sum_by-set}, get_or_default}}
use Rattle.npf_connections.specs.Pass.{Pass}
use Rattle.npf_model.specs.Configuration.{Configuration}
use Rattle.npf_publish.specs.declared.conf_reader.ConfReader.{ConfReader}
use Rattle.npf_runner_dealing.{specs.Lanes.IsDealt, proofs.LaneLemmas.{dealt_low, dealt_first, dealt_rest}}
use Rattle.npf_runner_passes.specs.Whole.{sweep_counts}
use Rattle.npf_engine.specs.{Histories.FlowEntry, Outcome.lacks_node}
use Rattle.npf_traffic.specs.declared.phase.{Command.Command, Spread.Spread}
use Rattle.npf_runner.specs.{declared.worker.Lane.Lane, Crew.{done_of_lane, jobs_of_lane}, Job.{Handled, Job}, Lanes.HasWorked, Played.outcomes_of}
use Rattle.npf_runner.specs.{Phase.RunsPhase, Works.WorksThrough}

-- how many of them lacked a node
abbrev pub lacking : List Handled → ℕ
lacking dones = length (filter lacks_node (outcomes_of dones))

abbrev lacks_one : Handled → ℕ
lacks_one done = cond (lacks_node done.outcome) 1 0

lacking_more : (done : Handled) (dones : List Handled) → lacking (done ∷ dones) ≡ lacks_one done + lacking dones
lacking_more done dones = by_test (lacks_node done.outcome)
  where
    by_test : (test : Bool) → length (cond test (done.outcome ∷ filter lacks_node (outcomes_of dones)) (filter lacks_node (outcomes_of dones))) ≡ cond test 1 0 + lacking dones
    by_test true = omega arith
    by_test false = omega arith

pub lacking_both : (xs ys : List Handled) → lacking (xs ++ ys) ≡ lacking xs + lacking ys
lacking_both [] ys = omega arith
lacking_both (x ∷ xs) ys = let a = lacking_more x (xs ++ ys) in let b = lacking_more x xs in let r = lacking_both xs ys in omega (arith, a, b, r)

-- those of a whole are those of its lanes
lacking_dealt : (order : List ℕ) (dones : List Handled) (lanes : List (List Handled)) → IsDealt order dones lanes → lacking dones ≤ sum_by lacking lanes
lacking_dealt [] [] lanes d = omega arith
lacking_dealt [] (x ∷ xs) lanes d = absurd (let n = d.count in omega (arith, n))
lacking_dealt (v ∷ order) dones lanes d = by_lane (get_or lanes v []) refl (λ left xs e. lacking_dealt order xs (set lanes v left) e)
  where
    low : v < length lanes
    low = dealt_low v order dones lanes d

    by_lane : (lane : List Handled) → get_or lanes v [] ≡ lane → ((left xs : List Handled) → IsDealt order xs (set lanes v left) → lacking xs ≤ sum_by lacking (set lanes v left)) →
        lacking dones ≤ sum_by lacking lanes
    by_lane [] is rest = absurd (let some = dealt_first v order dones lanes [] d (sym is) in omega (arith, some))
    by_lane (y ∷ left) is rest =
        let at : y ∷ left ≡ get_or lanes v (y ∷ left) = sym is ∙ get_or_default lanes v [] (y ∷ left) low in
        let next = dealt_rest v order dones lanes (y ∷ left) left y d at refl in
        let less = rest left next.0 next.2 in
        let sums = sum_by-set lacking lanes v left [] low in
        let lane : lacking (get_or lanes v []) ≡ lacks_one y + lacking left = ap lacking is ∙ lacking_more y left in
        let whole : lacking dones ≡ lacks_one y + lacking next.0 = ap lacking next.1 ∙ lacking_more y next.0 in
        omega (arith, less, sums, lane, whole)

module _ {P : Type 0} (view : P → Pass FlowEntry) (configs : List Configuration) where
  works_sweeps : (old : Pass FlowEntry) (reader : ConfReader) (jobs : List Job) (new : Pass FlowEntry) (next : ConfReader) (dones : List Handled) →
      WorksThrough configs old reader jobs new next dones → old.sweeps + lacking dones ≤ new.sweeps
  works_sweeps old reader [] new next [] w = let e = ap (λ (p : Pass FlowEntry). p.sweeps) w.0 in omega (arith, e)
  works_sweeps old reader [] new next (done ∷ dones) w = absurd w
  works_sweeps old reader (job ∷ jobs) new next [] w = absurd w
  works_sweeps old reader (job ∷ jobs) new next (done ∷ dones) w =
      one (lacks_node done.outcome) refl (works_sweeps w.0 w.1 jobs new next dones w.3)
    where
      one : (test : Bool) → lacks_node done.outcome ≡ test → w.0.sweeps + lacking dones ≤ new.sweeps → old.sweeps + lacking (done ∷ dones) ≤ new.sweeps
      one true is rest = let m : lacking (done ∷ dones) ≡ 1 + lacking dones = lacking_more done dones ∙ ap (λ t. cond t 1 0 + lacking dones) is in let s = w.2.sweep is in omega (arith, m, s, rest)
      one false is rest = let m : lacking (done ∷ dones) ≡ 0 + lacking dones = lacking_more done dones ∙ ap (λ t. cond t 1 0 + lacking dones) is in
          let s = w.2.rested.later.sweeps in omega (arith, m, s, rest)

  lanes_sweeps : (begun ended : List (Lane P)) (last : Pass FlowEntry) → AllZip (HasWorked view configs) begun ended →
      sum_by lacking (map done_of_lane ended) ≤ sum (sweep_counts (map (λ (lane : Lane P). view lane.pass) ended ++ last ∷ []))
  lanes_sweeps [] [] last z = omega arith
  lanes_sweeps [] (e ∷ ended) last z = absurd z
  lanes_sweeps (b ∷ begun) [] last z = absurd z
  lanes_sweeps (b ∷ begun) (e ∷ ended) last z =
      let rest = lanes_sweeps begun ended last z.1 in
      let here = works_sweeps (view b.pass) b.worker.reader (jobs_of_lane b) (view e.pass) e.worker.reader (done_of_lane e) z.0.works in
      let left = sum_by-cons lacking (done_of_lane e) (map done_of_lane ended) in
      let right = sum_by-cons (λ n. n) (view e.pass).sweeps (sweep_counts (map (λ (lane : Lane P). view lane.pass) ended ++ last ∷ [])) in
      omega (arith, rest, here, left, right)

  pub phase_sweeps : (workers : ℕ) (spread : Spread) (old new : Pass FlowEntry) (last : ℕ) (commands : List Command) (jobs : List Job) (dones : List Handled) →
      RunsPhase view configs workers spread old new last commands jobs dones → old.sweeps + lacking dones ≤ new.sweeps
  phase_sweeps workers spread old new last commands jobs dones r =
      let dealt = lacking_dealt r.order dones r.lanes r.gathered in
      let lanes = lanes_sweeps r.ran.begun r.ran.ended r.ran.controlled r.ran.worked in
      let done = ap (sum_by lacking) r.ran.done in
      let whole = r.ran.is_whole.sweeps in
      let same = ap (λ (p : Pass FlowEntry). p.sweeps) r.ran.collects.view.view in
      omega (arith, dealt, lanes, done, whole, same)
