-- Lanes that have worked can be gathered again.
use Rattle.std.proofs.Common.{◌≡◌, ◌⊎◌, ℕ, ◌==◌, ◌≤◌, ◌<◌, Bool, true, false, List, [], ◌∷◌, All, cond, map, get_or, length, refl, sym, ap, subst, ◌∙◌, ⊎_elim, inl, inr, arith, zero, suc}
use Rattle.std.{specs.List.AllZip, proofs.lemmas.{Bool.Decides.Decides-eqb, List.{length-map, get_or_default, get_or_past}}}
use Rattle.std.proofs.lemmas.{List.Elements.{All-nil, All-cons, All-head, All-tail}, Slice.Zip.AllZip-long}
use Rattle.npf_connections.specs.Pass.{Pass}
use Rattle.npf_model.specs.Configuration.{Configuration}
use Rattle.npf_publish.specs.declared.conf_reader.ConfReader.{ConfReader}
use Rattle.npf_runner_dealing.{specs.Lanes.{of_lane, queue_items, IsDealt}, proofs.LaneLemmas.{of_lane-no, get_or-map}}
use Rattle.npf_engine.specs.Histories.{FlowEntry}
use Rattle.npf_runner.specs.declared.{crew.Queues.Queues, order.Order.Order, worker.Worker.Worker}
use Rattle.npf_traffic.specs.declared.phase.Command.{Command}
use Rattle.npf_runner.specs.{Crew.{AreQueuesOf, jobs_of, worker_of_lane, jobs_of_lane, done_of_lane}, Job.{Handled, Job}, Lanes.HasWorked}
use Rattle.npf_runner.specs.{Order.{IsDealtBy, IsOrder, workers_by}, Played.{outcomes_of, outputs_of}, Phase.RunsCrew, Works.WorksThrough}
use Rattle.npf_runner.proofs.{LaneLemmas.{Zips, merges}, OrderLemmas.dealt_by, PairLemmas.{At, at_zip, at_left, at_right}}

-- what holds of all holds of those of a lane
pub All-of_lane : {X : Type 0} (P : X → Type 0) (w : ℕ) (order : List ℕ) (xs : List X) → All P xs → All P (of_lane w order xs)
All-of_lane P w [] xs all = All-nil P
All-of_lane P w (v ∷ order) [] all = All-nil P
All-of_lane P w (v ∷ order) (x ∷ xs) all = by_test (v == w) (All-of_lane P w order xs (All-tail P x xs all))
  where
    by_test : (test : Bool) → All P (of_lane w order xs) → All P (cond test (x ∷ of_lane w order xs) (of_lane w order xs))
    by_test true rest = All-cons P x (of_lane w order xs) (All-head P x xs all) rest
    by_test false rest = rest

pub All-dealt : {X : Type 0} (P : X → Type 0) (order : List ℕ) (xs : List X) (lanes : List (List X)) → IsDealt order xs lanes → All P xs → All (λ lane. All P lane) lanes
All-dealt P order xs lanes dealt all k d low = subst (λ us. All P us) (sym (dealt.each k d low)) (All-of_lane P k order xs all)

-- nothing goes to a lane behind the last
pub of_none : {X : Type 0} (n w : ℕ) (order : List ℕ) (xs : List X) → All (λ lane. lane < n) order → n ≤ w → of_lane w order xs ≡ []
of_none n w [] xs fits far = refl
of_none n w (v ∷ order) [] fits far = refl
of_none n w (v ∷ order) (x ∷ xs) fits far = by_test (v == w) refl (of_none n w order xs (All-tail (λ lane. lane < n) v order fits) far)
  where
    by_test : (test : Bool) → (v == w) ≡ test → of_lane w order xs ≡ [] → of_lane w (v ∷ order) (x ∷ xs) ≡ []
    by_test true is rest = absurd (let low = All-head (λ lane. lane < n) v order fits in let same = (Decides-eqb v w).0 is in omega (arith, low, same, far))
    by_test false is rest = of_lane-no v w order x xs is ∙ rest

-- a pair at each place, or the place is behind the last
pub record AtPlace {X Y : Type 0} (xs : List X) (ys : List Y) (i : ℕ) : Type 0 where
  pub left : X
  pub right : Y
  pub at : At xs ys i left right

pub at_place : {X Y : Type 0} (R : X → Y → Type 0) (xs : List X) (ys : List Y) (i : ℕ) → AllZip R xs ys → AtPlace xs ys i ⊎ (length xs ≤ i)
at_place R [] [] i z = inr (omega arith)
at_place R [] (y ∷ ys) i z = absurd z
at_place R (x ∷ xs) [] i z = absurd z
at_place R (x ∷ xs) (y ∷ ys) zero z = inl (record { left = x; right = y; at = (refl, refl) })
at_place R (x ∷ xs) (y ∷ ys) (suc i) z = ⊎_elim (λ (p : AtPlace xs ys i). inl (record { left = p.left; right = p.right; at = p.at })) (λ far. inr (omega (arith, far))) (at_place R xs ys i z.1)

works_length : (configs : List Configuration) (old : Pass FlowEntry) (reader : ConfReader) (jobs : List Job) (new : Pass FlowEntry) (next : ConfReader) (dones : List Handled) →
    WorksThrough configs old reader jobs new next dones → length dones ≡ length jobs
works_length configs old reader [] new next [] w = refl
works_length configs old reader [] new next (done ∷ dones) w = absurd w
works_length configs old reader (job ∷ jobs) new next [] w = absurd w
works_length configs old reader (job ∷ jobs) new next (done ∷ dones) w = ap suc (works_length configs w.0 w.1 jobs new next dones w.3)

of_lane-map : {X Y : Type 0} (f : X → Y) (w : ℕ) (order : List ℕ) (xs : List X) → of_lane w order (map f xs) ≡ map f (of_lane w order xs)
of_lane-map f w [] xs = refl
of_lane-map f w (v ∷ order) [] = refl
of_lane-map f w (v ∷ order) (x ∷ xs) = by_test (v == w) (of_lane-map f w order xs)
  where
    by_test : (test : Bool) → of_lane w order (map f xs) ≡ map f (of_lane w order xs) →
        cond test (f x ∷ of_lane w order (map f xs)) (of_lane w order (map f xs)) ≡ map f (cond test (x ∷ of_lane w order xs) (of_lane w order xs))
    by_test true e = ap (λ ys. f x ∷ ys) e
    by_test false e = e

-- a part of each item is dealt as the items are
pub dealt-map : {X Y : Type 0} (f : X → Y) (order : List ℕ) (xs : List X) (lanes : List (List X)) → IsDealt order xs lanes → IsDealt order (map f xs) (map (map f) lanes)
dealt-map {X} {Y} f order xs lanes dealt = record {
  count = length-map xs f ∙ dealt.count;
  fits = subst (λ n. All (λ lane. lane < n) order) (sym (length-map lanes (map f))) dealt.fits;
  each = each;
}
  where
    each : (w : ℕ) (d : List Y) → w < length (map (map f) lanes) → get_or (map (map f) lanes) w d ≡ of_lane w order (map f xs)
    each w d low =
        let low' : w < length lanes = subst (λ n. w < n) (length-map lanes (map f)) low in
        get_or-map (map f) lanes w [] d low' ∙ (ap (map f) (dealt.each w [] low') ∙ sym (of_lane-map f w order xs))

abbrev Any : {X Y Z : Type 0} → X → Y → Z → Type 0
Any x y z = Unit {0}

zips_any : {X Y Z : Type 0} (xs : List X) (ys : List Y) (zs : List Z) → length ys ≡ length xs → length zs ≡ length xs → Zips (Any {X = X} {Y = Y} {Z = Z}) xs ys zs
zips_any [] [] [] n m = tt
zips_any [] [] (z ∷ zs) n m = absurd (omega (arith, m))
zips_any [] (y ∷ ys) zs n m = absurd (omega (arith, n))
zips_any (x ∷ xs) [] zs n m = absurd (omega (arith, n))
zips_any (x ∷ xs) (y ∷ ys) [] n m = absurd (omega (arith, m))
zips_any (x ∷ xs) (y ∷ ys) (z ∷ zs) n m = (tt, zips_any xs ys zs (omega (arith, n)) (omega (arith, m)))

zips_length : {X Y Z : Type 0} (R : X → Y → Z → Type 0) (xs : List X) (ys : List Y) (zs : List Z) → Zips R xs ys zs → length ys ≡ length xs
zips_length R [] [] [] z = refl
zips_length R (x ∷ xs) (y ∷ ys) (u ∷ zs) z = ap suc (zips_length R xs ys zs z.1)
zips_length R [] [] (u ∷ zs) z = absurd z
zips_length R [] (y ∷ ys) [] z = absurd z
zips_length R [] (y ∷ ys) (u ∷ zs) z = absurd z
zips_length R (x ∷ xs) [] [] z = absurd z
zips_length R (x ∷ xs) [] (u ∷ zs) z = absurd z
zips_length R (x ∷ xs) (y ∷ ys) [] z = absurd z

-- what was done was dealt to these lanes, and so were its outcomes and its packets to these queues
pub record Regathers (order : Order) (packets : ℕ) (lanes : List (List Handled)) (queues : Queues) : Type 0 where
  pub dones : List Handled
  pub dealt : IsDealt (workers_by order packets) dones lanes
  pub outcomes : IsDealtBy order (outcomes_of dones) (map queue_items queues.outcomes.items)
  pub outputs : IsDealtBy order (outputs_of dones) (map queue_items queues.packets.items)
  pub count : length dones ≡ packets

module _ {P : Type 0} (view : P → Pass FlowEntry) (configs : List Configuration) (old new : Pass FlowEntry) (commands : List Command) (order : List ℕ) (jobs : List Job) (crew : List Worker)
    (lanes : List (List Handled)) (dealt : IsDealt order jobs (map jobs_of crew)) (r : RunsCrew view configs old new commands crew lanes) where
  same_size : length lanes ≡ length (map jobs_of crew)
  same_size =
      ap length (sym r.done) ∙ (length-map r.ended done_of_lane ∙ (AllZip-long (HasWorked view configs) r.begun r.ended r.worked
      ∙ (sym (length-map r.begun worker_of_lane) ∙ (ap length r.workers ∙ sym (length-map crew jobs_of)))))

  -- each lane is as long as what was dealt to it
  lane_length : (w : ℕ) → length (get_or lanes w []) ≡ length (of_lane w order jobs)
  lane_length w = ⊎_elim near (λ (far : length r.begun ≤ w). beyond far) (at_place (HasWorked view configs) r.begun r.ended w r.worked)
    where
      beyond : length r.begun ≤ w → length (get_or lanes w []) ≡ length (of_lane w order jobs)
      beyond far =
          let size : length (map jobs_of crew) ≡ length r.begun = length-map crew jobs_of ∙ (ap length (sym r.workers) ∙ length-map r.begun worker_of_lane) in
          let out : length lanes ≤ w = omega (arith, same_size, size, far) in
          let none : of_lane w order jobs ≡ [] = of_none (length (map jobs_of crew)) w order jobs dealt.fits (omega (arith, size, far)) in
          ap length (get_or_past lanes w [] out) ∙ sym (ap length none)

      near : AtPlace r.begun r.ended w → length (get_or lanes w []) ≡ length (of_lane w order jobs)
      near p =
          let b = p.left in
          let e = p.right in
          let l = at_left worker_of_lane r.begun r.ended w b e b.worker p.at in
          let here : get_or crew w b.worker ≡ b.worker = subst (λ ws. get_or ws w b.worker ≡ b.worker) r.workers l.0 in
          let low : w < length crew = subst (λ ws. w < length ws) r.workers l.1 in
          let given : jobs_of_lane b ≡ of_lane w order jobs =
          ap jobs_of (sym here) ∙ (sym (get_or-map jobs_of crew w b.worker [] low) ∙ dealt.each w [] (rw (length-map crew jobs_of) low)) in
          let k = at_right done_of_lane r.begun r.ended w b e [] p.at in
          let got : get_or lanes w [] ≡ done_of_lane e = subst (λ ds. get_or ds w [] ≡ done_of_lane e) r.done k.0 in
          let h = at_zip (HasWorked view configs) r.begun r.ended w b e r.worked p.at in
          ap length got ∙ (works_length configs (view b.pass) b.worker.reader (jobs_of_lane b) (view e.pass) e.worker.reader (done_of_lane e) h.works ∙ ap length given)

  regathers_lanes : (dones : List Handled) × IsDealt order dones lanes
  regathers_lanes =
      let m = merges (Any {X = Job} {Y = Handled} {Z = Job}) order jobs jobs (λ w. get_or lanes w []) dealt.count dealt.count
      (λ w. zips_any (of_lane w order jobs) (get_or lanes w []) (of_lane w order jobs) (lane_length w) refl) in (
        m.ys,
        record {
          count = zips_length (Any {X = Job} {Y = Handled} {Z = Job}) jobs m.ys jobs m.zips ∙ dealt.count;
          fits = subst (λ n. All (λ lane. lane < n) order) (sym same_size) dealt.fits;
          each = λ w d low. get_or_default lanes w d [] low ∙ sym (m.each w);
        },
      )

  queues_of_crew : {X : Type 0} (part : List Handled → List X) (queues : List (List X)) → queues ≡ map part lanes → length queues ≡ length crew
  queues_of_crew part queues are = ap length are ∙ (length-map lanes part ∙ (same_size ∙ length-map crew jobs_of))

  pub regathers : (queues : Queues) (by : Order) (packets : ℕ) → AreQueuesOf lanes queues → order ≡ workers_by by packets → IsOrder by packets (length crew) → length jobs ≡ packets →
      Regathers by packets lanes queues
  regathers queues by packets are is fits count =
      let again = regathers_lanes in
      let outcomes_dealt = dealt-map (λ (done : Handled). done.outcome) order again.0 lanes again.1 in
      let packets_dealt = dealt-map (λ (done : Handled). done.packet) order again.0 lanes again.1 in
      record {
        dones = again.0;
        dealt = subst (λ o. IsDealt o again.0 lanes) is again.1;
        outcomes = dealt_by by packets (length crew) (outcomes_of again.0) (map queue_items queues.outcomes.items) fits
            (queues_of_crew outcomes_of (map queue_items queues.outcomes.items) are.outcomes)
            (subst (λ o. IsDealt o (outcomes_of again.0) (map queue_items queues.outcomes.items)) is (subst (λ ls. IsDealt order (outcomes_of again.0) ls) (sym are.outcomes) outcomes_dealt));
        outputs = dealt_by by packets (length crew) (outputs_of again.0) (map queue_items queues.packets.items) fits (queues_of_crew outputs_of (map queue_items queues.packets.items) are.packets)
            (subst (λ o. IsDealt o (outputs_of again.0) (map queue_items queues.packets.items)) is (subst (λ ls. IsDealt order (outputs_of again.0) ls) (sym are.packets) packets_dealt));
        count = again.1.count ∙ (sym dealt.count ∙ count);
      }
