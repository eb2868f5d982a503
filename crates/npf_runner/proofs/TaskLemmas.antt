-- What a phase needs of its lanes, and what they show when they are done.
use Rattle.std.proofs.Common.{◌≡◌, ◌<◌, ℕ, Some, List, [], ◌∷◌, ◌++◌, All, map, length, get_or, refl, sym, ap, subst, ◌∙◌, arith, suc}
use Rattle.std.specs.List.{AllZip, Contains}
use Rattle.std.proofs.lemmas.List.{Elements.{All-nil, All-cons, All-head, All-tail, All-append, All-contains, All-weaker, All-map, All-pop}, length-map}
use Rattle.npf_core.proofs.HistoryLemmas.{IsPrefix-trans}
use Rattle.npf_connections.specs.{Pass.{Pass, IsPass, all_places}, Stay.{IsLater, IsOut}}
use Rattle.npf_flow.specs.Flows.{flow_law}
use Rattle.npf_model.specs.Configuration.{Configuration}
use Rattle.npf_publish.specs.{declared.conf_reader.ConfReader.ConfReader, ConfReader.reader_range}
use Rattle.npf_runner_passes.{specs.{Whole.{Gathers, IsWhole}, Parts.{IsGiven, Spreads}}, proofs.WholeLemmas.gathers_all}
use Rattle.npf_engine.specs.Histories.{FlowEntry}
use Rattle.npf_runner.specs.{declared.worker.{Lane.Lane, Worker.Worker}, Commands.Collects}
use Rattle.npf_runner.specs.{Crew.{HasJobs, IsEquipped, jobs_of_lane, done_of_lane, worker_of_lane, pass_of_lane}, Job.{Handled, Job}}
use Rattle.npf_runner.specs.{Lanes.{CanWork, HasWorked}, Works.{IsRested, WorksThrough}}

-- place by place is all along
pub zip_places : {X : Type 0} (R : X → X → Type 0) (xs ys : List X) → length ys ≡ length xs → ((i : ℕ) (d : X) → i < length xs → R (get_or xs i d) (get_or ys i d)) → AllZip R xs ys
zip_places R [] [] n h = tt
zip_places R [] (y ∷ ys) n h = absurd (omega (arith, n))
zip_places R (x ∷ xs) [] n h = absurd (omega (arith, n))
zip_places R (x ∷ xs) (y ∷ ys) n h = (h 0 x (omega arith), zip_places R xs ys (omega (arith, n)) (λ i d low. h (suc i) d (omega arith)))

pub All-unmap : {X Y : Type 0} (P : Y → Type 0) (f : X → Y) (xs : List X) → All P (map f xs) → All (λ x. P (f x)) xs
All-unmap P f [] all = All-nil (λ x. P (f x))
All-unmap P f (x ∷ xs) all = All-cons (λ x. P (f x)) x xs (All-head P (f x) (map f xs) all) (All-unmap P f xs (All-tail P (f x) (map f xs) all))

-- what holds of each of some passes holds of those of lanes
pub All-passes : {P : Type 0} (Q : P → Type 0) (passes : List P) (lanes : List (Lane P)) → All Q passes → All (λ (lane : Lane P). Contains passes lane.pass) lanes →
    All (λ (lane : Lane P). Q lane.pass) lanes
All-passes {P} Q passes lanes all from =
    All-weaker (λ (lane : Lane P). Contains passes lane.pass) (λ (lane : Lane P). Q lane.pass) (λ lane has. All-contains Q passes lane.pass all has) lanes from

-- what holds of each worker holds of each lane's
pub All-workers : {P : Type 0} (Q : Worker → Type 0) (lanes : List (Lane P)) (workers : List Worker) → map worker_of_lane lanes ≡ workers → All Q workers →
    All (λ (lane : Lane P). Q lane.worker) lanes
All-workers {P} Q lanes workers is all = from_map lanes (subst (λ ws. All Q ws) (sym is) all)
  where
    from_map : (ls : List (Lane P)) → All Q (map worker_of_lane ls) → All (λ (lane : Lane P). Q lane.worker) ls
    from_map [] all = All-nil (λ (lane : Lane P). Q lane.worker)
    from_map (l ∷ ls) all = All-cons (λ (lane : Lane P). Q lane.worker) l ls (All-head Q l.worker (map worker_of_lane ls) all) (from_map ls (All-tail Q l.worker (map worker_of_lane ls) all))

pub zip_right : {X Y : Type 0} (R : X → Y → Type 0) (P : X → Type 0) (Q : Y → Type 0) → ((x : X) (y : Y) → R x y → P x → Q y) → (xs : List X) (ys : List Y) → AllZip R xs ys → All P xs → All Q ys
zip_right R P Q f [] [] z all = All-nil Q
zip_right R P Q f [] (y ∷ ys) z all = absurd z
zip_right R P Q f (x ∷ xs) [] z all = absurd z
zip_right R P Q f (x ∷ xs) (y ∷ ys) z all = All-cons Q y ys (f x y z.0 (All-head P x xs all)) (zip_right R P Q f xs ys z.1 (All-tail P x xs all))

pub can_work : {P : Type 0} (fits : P → Type 0) (view : P → Pass FlowEntry) (old : Pass FlowEntry) (configs : ℕ) (lanes : List (Lane P)) →
    All (λ (lane : Lane P). IsOut flow_law fits view lane.pass) lanes →
    All (λ (lane : Lane P). IsGiven old (view lane.pass)) lanes → All (λ (lane : Lane P). IsEquipped lane.worker) lanes → All (λ (lane : Lane P). HasJobs lane.worker) lanes →
    All (λ (lane : Lane P). (reader_range lane.worker.reader).last < configs) lanes → All (CanWork fits view configs) lanes
can_work fits view old configs lanes out given ready jobs readers k d low =
    let g = given k d low in
    let one = ap (λ (p : Pass FlowEntry). p.places) g.rests in
    record {
      out = out k d low;
      place = omega (arith, one);
      jobs = jobs k d low;
      numbers = readers k d low;
      ready = ready k d low;
    }

-- it owns as many reader places as it did, and was joined with none
abbrev IsRestedSo : Pass FlowEntry → Pass FlowEntry → Type 0
IsRestedSo old new = (new.places ≡ old.places) × (new.joined ≡ old.joined)

-- a pass that is ready to be taken in
pub record ComesBack (pass : Pass FlowEntry) : Type 0 where
  pub unjoined : pass.joined ≡ []
  pub place : pass.places ≡ 1

pub comes_back : (old given new : Pass FlowEntry) → IsGiven old given → IsRestedSo given new → ComesBack new
comes_back old given new g same = record {
  unjoined = same.1 ∙ ap (λ (p : Pass FlowEntry). p.joined) g.rests;
  place = same.0 ∙ ap (λ (p : Pass FlowEntry). p.places) g.rests;
}

works_same : (configs : List Configuration) (old : Pass FlowEntry) (reader : ConfReader) (jobs : List Job) (new : Pass FlowEntry) (next : ConfReader) (dones : List Handled) →
    WorksThrough configs old reader jobs new next dones → IsRestedSo old new
works_same configs old reader [] new next [] w =
    (ap (λ (p : Pass FlowEntry). p.places) (sym w.0), ap (λ (p : Pass FlowEntry). p.joined) (sym w.0))
works_same configs old reader [] new next (done ∷ dones) w = absurd w
works_same configs old reader (job ∷ jobs) new next [] w = absurd w
works_same configs old reader (job ∷ jobs) new next (done ∷ dones) w =
    let first = w.2.rested in
    let later = works_same configs w.0 w.1 jobs new next dones w.3 in
    (later.0 ∙ first.later.places, later.1 ∙ first.joined)

pub lanes_come_back : {P : Type 0} (view : P → Pass FlowEntry) (configs : List Configuration) (old : Pass FlowEntry) (begun ended : List (Lane P)) →
    AllZip (HasWorked view configs) begun ended → All (λ (lane : Lane P). IsGiven old (view lane.pass)) begun → All (λ (lane : Lane P). ComesBack (view lane.pass)) ended
lanes_come_back {P} view configs old begun ended z given =
    zip_right (HasWorked view configs) (λ (lane : Lane P). IsGiven old (view lane.pass)) (λ (lane : Lane P). ComesBack (view lane.pass))
    (λ b e h g. comes_back old (view b.pass) (view e.pass) g
    (works_same configs (view b.pass) b.worker.reader (jobs_of_lane b) (view e.pass) e.worker.reader (done_of_lane e) h.works))
    begun ended z given

-- all that come back: the workers' passes, and the control task's
pub All-others : {P : Type 0} (Q : P → Type 0) (others : List P) (ended : List (Lane P)) (own : P) → others ≡ map pass_of_lane ended ++ own ∷ [] →
    All (λ (lane : Lane P). Q lane.pass) ended → Q own → All Q others
All-others {P} Q others ended own is all last =
    subst (λ ps. All Q ps) (sym is) (All-append Q (map pass_of_lane ended) (own ∷ []) (All-map Q pass_of_lane ended all) (All-cons Q own [] last (All-nil Q)))

pub same_others : {P : Type 0} (others back room : List P) (ended : List (Lane P)) (own : P) → others ≡ back ++ own ∷ [] → back ≡ room ++ map pass_of_lane ended → room ≡ [] →
    others ≡ map pass_of_lane ended ++ own ∷ []
same_others others back room ended own pushed apart empty = pushed ∙ ap (λ ps. ps ++ own ∷ []) (apart ∙ ap (λ ps. ps ++ map pass_of_lane ended) empty)

pub views_of : {P : Type 0} (view : P → Pass FlowEntry) (ended : List (Lane P)) (own : P) →
    map view (map pass_of_lane ended ++ own ∷ []) ≡ map (λ (lane : Lane P). view lane.pass) ended ++ view own ∷ []
views_of view [] own = refl
views_of view (lane ∷ ended) own = ap (λ ps. view lane.pass ∷ ps) (views_of view ended own)

pub is_back : (old whole new : Pass FlowEntry) (others : List (Pass FlowEntry)) → IsWhole old whole others → Collects whole new → IsLater old new
is_back old whole new others w c =
    let sweeps : new.sweeps ≡ whole.sweeps = ap (λ (p : Pass FlowEntry). p.sweeps) c.view.view in
    record {
      slots = ap (λ (p : Pass FlowEntry). p.slots) c.view.view ∙ ap (λ (p : Pass FlowEntry). p.slots) w.left;
      number = ap (λ (p : Pass FlowEntry). p.number) c.view.view ∙ ap (λ (p : Pass FlowEntry). p.number) w.left;
      entered = ap (λ (p : Pass FlowEntry). p.entered) c.view.view ∙ ap (λ (p : Pass FlowEntry). p.entered) w.left;
      places = ap (λ (p : Pass FlowEntry). p.places) c.view.view ∙ ap (λ (p : Pass FlowEntry). p.places) w.left;
      begins = IsPrefix-trans old.history whole.history new.history (record { rest = w.added; goes_on = w.goes_on })
          (record { rest = c.frees.adds.adds.rest; goes_on = c.frees.adds.adds.goes_on });
      sweeps = omega (arith, sweeps, w.sweeps);
      epoch = omega (arith, w.epoch, c.view.epoch);
    }

module _ {P : Type 0} (view : P → Pass FlowEntry) (configs : List Configuration) (old : Pass FlowEntry)
    (passes left : List P) (crew : List Worker) (begun ended : List (Lane P)) (control controlled : P) where
  -- what the calls of a phase say of its passes
  pub record IsCrew : Type 0 where
    pub popped : passes ≡ left ++ control ∷ []
    pub given : All (IsGiven old) (map view passes)
    pub legal : All (λ pass. IsPass flow_law (view pass)) passes
    pub from : All (λ (lane : Lane P). Contains left lane.pass) begun
    pub worked : AllZip (HasWorked view configs) begun ended
    pub rested : IsRested (view control) (view controlled)

  module _ (is : IsCrew) where
    all_given : All (λ pass. IsGiven old (view pass)) left × IsGiven old (view control)
    all_given = All-pop (λ pass. IsGiven old (view pass)) passes left (Some control) is.popped (All-unmap (IsGiven old) view passes is.given)

    pub begun_given : All (λ (lane : Lane P). IsGiven old (view lane.pass)) begun
    begun_given = All-passes (λ pass. IsGiven old (view pass)) left begun all_given.0 is.from

    pub begun_legal : All (λ (lane : Lane P). IsPass flow_law (view lane.pass)) begun
    begun_legal = All-passes (λ pass. IsPass flow_law (view pass)) left begun (All-pop (λ pass. IsPass flow_law (view pass)) passes left (Some control) is.popped is.legal).0 is.from

    pub control_given : IsGiven old (view control)
    control_given = all_given.1

    pub all_back : (others : List P) → others ≡ map pass_of_lane ended ++ controlled ∷ [] → All (λ pass. ComesBack (view pass)) others
    all_back others same = All-others (λ pass. ComesBack (view pass)) others ended controlled same
        (lanes_come_back view configs old begun ended is.worked begun_given)
        (comes_back old (view control) (view controlled) control_given (is.rested.later.places, is.rested.joined))

    pub crew_whole : (mid now : Pass FlowEntry) (others : List P) → Spreads old mid (map view passes) → Gathers mid now (map view others) →
        others ≡ map pass_of_lane ended ++ controlled ∷ [] → length others ≡ length passes → old.places ≡ all_places → IsPass flow_law now →
        IsWhole old now (map (λ (lane : Lane P). view lane.pass) ended ++ view controlled ∷ [])
    crew_whole mid now others s g same count all legal =
        let views : map view others ≡ map (λ (lane : Lane P). view lane.pass) ended ++ view controlled ∷ [] = ap (map view) same ∙ views_of view ended controlled in
        let counted : length (map view others) ≡ length (map view passes) = length-map others view ∙ (count ∙ sym (length-map passes view)) in
        let ones : All (λ (p : Pass FlowEntry). p.places ≡ 1) (map view others) = All-map (λ (p : Pass FlowEntry). p.places ≡ 1) view others
        (All-weaker (λ pass. ComesBack (view pass)) (λ pass. (view pass).places ≡ 1) (λ pass b. b.place) others (all_back others same)) in
        subst (λ ps. IsWhole old now ps) views (gathers_all flow_law old mid now (map view passes) (map view others) s g counted ones all legal)
