use Rattle.std.{proofs.Common.{rules, ◌≡◌, ◌+◌, All, length, map, vec_len, ap, subst}, specs.List.{AllZip, Contains, range_with_len}}
use Rattle.std.proofs.lemmas.List.Elements.{All-weaker, All-contains}
use Rattle.npf_runner_dealing.specs.Lanes.{IsDealt}
use Rattle.npf_publish.specs.ConfReader.{IsNewReader}
use Rattle.npf_runner.specs.{declared.worker.Worker.Worker, Crew.{HasJobs, jobs_of}, Order.workers_by, Spread.IsWorkerOf, Job.{Job, job_arrival, numbered_from}}
use Rattle.npf_runner.proofs.{DealtLemmas.jobs_dealt, phase.prepare.{Given.Over, Goals.In-Ok}}
use Rattle.npf_runner.proofs.phase.prepare.Goals as goal

pub returns-in-Ok-clause-spreads : goal.returns-in-Ok-clause-spreads
returns-in-Ok-clause-spreads g c =
    let task = c.args.task in
    let size : length task.packets.items ≡ vec_len task.packets = search rules in
    subst (λ n. AllZip (λ (job : Job) worker. IsWorkerOf task.spread task.workers (job_arrival job) worker) (numbered_from task.first task.packets.items) (workers_by c.in_ok-order.order n)) size
    (subst (λ ps. AllZip (λ (job : Job) worker. IsWorkerOf task.spread task.workers (job_arrival job) worker) (numbered_from task.first ps) (workers_by c.in_ok-order.order (length ps)))
    c.as_slice.ensures.value c.in_ok-order.ensures.each)

made : (g : Over) (c : In-Ok g) →
    IsDealt (workers_by c.in_ok-order.order (vec_len c.args.task.packets)) (numbered_from c.args.task.first c.args.task.packets.items) (map jobs_of c.in-Ok.crew.items) × All HasJobs c.in-Ok.crew.items
made g c =
    let task = c.args.task in
    let packets = task.packets.items in
    let count : vec_len task.packets ≡ length packets = search rules in
    let dealt = c.in-Ok.ensures in
    jobs_dealt (workers_by c.in_ok-order.order (vec_len task.packets)) task.first packets (range_with_len task.first (vec_len task.packets)) (ap (range_with_len task.first) count)
    c.in-Ok.crew.items dealt.numbers dealt.packets c.requires.first.0 (search rules) c.requires.short

pub returns-in-Ok-clause-dealt : goal.returns-in-Ok-clause-dealt
returns-in-Ok-clause-dealt g c = (made g c).0

pub returns-in-Ok-clause-jobs : goal.returns-in-Ok-clause-jobs
returns-in-Ok-clause-jobs g c = (made g c).1

pub returns-in-Ok-clause-readers : goal.returns-in-Ok-clause-readers
returns-in-Ok-clause-readers g c =
    let readers = c.in_ok-publisher.readers.items in
    let last = c.args.task.last in
    let published = c.args.published in
    All-weaker (λ (worker : Worker). Contains readers worker.reader) (λ (worker : Worker). IsNewReader (record { first = last; last = last + published }) worker.reader)
    (λ worker has. All-contains (IsNewReader (record { first = last; last = last + published })) readers worker.reader c.in_ok-publisher.ensures.readers has)
    c.in-Ok.crew.items c.in-Ok.ensures.from
