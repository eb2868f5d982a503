use Rattle.std.{proofs.Common.{rules, ◌≡◌, length, replicate, subst, sym}, specs.List.AllZip}
use Rattle.npf_runner.{specs.{Job.{Job, job_arrival, numbered_from}, Spread.IsWorkerOf}, proofs.OrderLemmas.only_workers}
use Rattle.npf_runner.proofs.order.Order.of.Goals as goal

pub returns-then-workers-eq1-clause-each : goal.returns-then-workers-eq1-clause-each
returns-then-workers-eq1-clause-each g c =
    let one : c.args.workers ≡ 1 = search rules in
    let packets = c.args.packets.now in
    subst (λ n. AllZip (λ (job : Job) worker. IsWorkerOf c.args.spread n (job_arrival job) worker) (numbered_from c.args.first packets) (replicate (length packets) 0)) (sym one)
    (only_workers c.args.spread c.args.first packets)
