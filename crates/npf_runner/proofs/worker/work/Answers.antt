use Rattle.std.proofs.Common.{rules, ◌≡◌, ◌≤◌, ◌<◌, ◌+◌, [], ◌∷◌, ◌++◌, All, drop, set, length, refl, sym, ap, subst, ◌∙◌, arith}
use Rattle.std.proofs.lemmas.List.{append_assoc, append-nil, drop_all, drop-set-lt, Elements.{All-head, All-rest}}
use Rattle.npf_engine.specs.Handles.{configurations}
use Rattle.npf_runner.specs.{Crew.jobs_of, Job.{Handled, Job, IsJob, with_numbers}, Numbers.packet_numbers, Played.handled, Works.WorksThrough}
use Rattle.npf_runner.proofs.{JobLemmas.{asks_range, numbered_rest}, NumbersLemmas.{number_at_place, numbered_at}, PlayedLemmas.handled_at}
use Rattle.npf_runner.proofs.RestLemmas.{rested_more}
use Rattle.npf_runner.proofs.worker.work.Goals as goal

pub at-n-requires : goal.at-n-requires
at-n-requires g c =
    let worker = c.args.lane.now.worker in
    numbered_at worker.numbers worker.packets.items c.loop-place.place (search rules) c.requires.can.jobs.same_length c.requires.can.jobs.each

pub handle-outcome-requires-clause-short : goal.handle-outcome-requires-clause-short
handle-outcome-requires-clause-short g c lifetimes outlives =
    let i = c.loop-place.place in
    let worker = c.args.lane.now.worker in
    let size = length worker.packets.items in
    let numbers = packet_numbers worker.numbers size in
    let packets = c.loop-place.packets.items in
    let n = c.at-n.result in
    let packet = c.index_mut.result.now in
    let low : i < length packets = search rules in
    let few : i < size = search rules in
    let low' : i < length numbers = let same = c.requires.can.jobs.same_length in omega (arith, same, few) in
    let left = with_numbers (drop (i + 1) numbers) (drop (i + 1) packets) in
    let is = numbered_rest numbers packets i n packet low' low (c.at-n.ensures ∙ number_at_place worker.numbers size i n few low') (search rules) in
    All-head IsJob (record { number = n; packet = packet }) left (subst (λ jobs. All IsJob jobs) is c.loop-place.invariant.2)

pub loop-place-preserved : goal.loop-place-preserved
loop-place-preserved g c =
    let V = g.C.Connections.view in
    let configs = configurations c.args.shared.now.configs.now in
    let i = c.loop-place.place in
    let first = c.args.lane.now in
    let size = length first.worker.packets.items in
    let numbers = packet_numbers first.worker.numbers size in
    let packets = c.loop-place.packets.items in
    let outcomes = c.loop-place.told.items in
    let n = c.at-n.result in
    let packet = c.index_mut.result.now in
    let outcome = c.handle-outcome.result in
    let output = c.handle-outcome.new.packet in
    let job : Job = record { number = n; packet = packet } in
    let done : Handled = record { outcome = outcome; packet = output } in
    let h = c.handle-outcome.ensures.handled in
    let inv = c.loop-place.invariant in
    let low : i < length packets = search rules in
    let few : i < size = search rules in
    let low' : i < length numbers = let same = c.requires.can.jobs.same_length in omega (arith, same, few) in
    let left = with_numbers (drop (i + 1) numbers) (drop (i + 1) packets) in
    let is : with_numbers (drop i numbers) (drop i packets) ≡ job ∷ left =
    numbered_rest numbers packets i n packet low' low (c.at-n.ensures ∙ number_at_place first.worker.numbers size i n few low') (search rules) in
    let same : with_numbers (drop (i + 1) numbers) (drop (i + 1) (set packets i output)) ≡ left = ap (with_numbers (drop (i + 1) numbers)) (drop-set-lt (i + 1) packets i output (omega arith)) in
    let before = handled outcomes packets in
    let come : c.push_reserved.new.self.items ≡ outcomes ++ outcome ∷ [] = search rules in
    let pushed : handled c.push_reserved.new.self.items (set packets i output) ≡ before ++ done ∷ [] =
    ap (λ os. handled os (set packets i output)) come ∙ handled_at outcomes packets i outcome output (search rules) low in (
      c.handle-outcome.ensures.out,
      rested_more (V first.pass) (V c.loop-place.pass) (V c.handle-outcome.new.pass) inv.1 h.rested,
      subst (λ jobs. All IsJob jobs) (sym same) (All-rest IsJob job left (with_numbers (drop i numbers) (drop i packets)) is inv.2),
      asks_range c.loop-place.reader c.handle-outcome.new.reader h.handles.asked h.handles.asks ∙ inv.3,
      search rules,
      search rules,
      search rules,
      (λ new next dones w.
          subst (λ z. WorksThrough configs (V first.pass) first.worker.reader (jobs_of first.worker) new next z)
          (sym (append_assoc before (done ∷ []) dones) ∙ ap (λ z. z ++ dones) (sym pushed))
          (inv.7 new next (done ∷ dones) (subst (λ jobs. WorksThrough configs (V c.loop-place.pass) c.loop-place.reader jobs new next (done ∷ dones)) (sym is) (
            V c.handle-outcome.new.pass,
            c.handle-outcome.new.reader,
            h,
            subst (λ jobs. WorksThrough configs (V c.handle-outcome.new.pass) c.handle-outcome.new.reader jobs new next dones) same w,
          )))),
    )

pub returns-clause-worked : goal.returns-clause-worked
returns-clause-worked g c =
    let V = g.C.Connections.view in
    let configs = configurations c.args.shared.now.configs.now in
    let first = c.args.lane.now in
    let numbers = packet_numbers first.worker.numbers (length first.worker.packets.items) in
    let pass = V c.loop-place.pass in
    let reader = c.loop-place.reader in
    let inv = c.loop-place.invariant in
    let left = drop c.loop-place.place c.loop-place.packets.items in
    let past : length first.worker.packets.items ≤ c.loop-place.place = search rules in
    let none : drop c.loop-place.place numbers ≡ [] = drop_all c.loop-place.place numbers (let same = c.requires.can.jobs.same_length in omega (arith, same, past)) in
    record {
      legal = inv.1.legal;
      works = subst (λ z. WorksThrough configs (V first.pass) first.worker.reader (jobs_of first.worker) pass reader z) (append-nil (handled c.loop-place.told.items c.loop-place.packets.items))
          (inv.7 pass reader [] (subst (λ ns. WorksThrough configs pass reader (with_numbers ns left) pass reader []) (sym none) (refl, refl)));
      same_length = search rules;
    }
