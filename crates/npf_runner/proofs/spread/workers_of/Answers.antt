use Rattle.std.proofs.{Common.{rules, ◌≡◌, ◌<◌, ◌+◌, ◌++◌, ℕ, List, take, drop, length, le_refl, ap, sym, subst, ◌∙◌}, lemmas.List.{take_all, take-append-le}}
use Rattle.std.specs.List.{AllZip}
use Rattle.npf_runner.{specs.{Spread.IsWorkerOf, Job.{Job, job_arrival, numbered_from}, Plays.arriving}, proofs.JobLemmas.zip_numbered}
use Rattle.npf_runner.proofs.spread.workers_of.Goals as goal

pub returns-clause-each : goal.returns-clause-each
returns-clause-each g c =
    let first = c.args.first in
    let packets = c.args.packets.now in
    let told = c.for_each_mut.new.s in
    let made = c.in_ok-order.order in
    let count : length told ≡ length packets = search rules in
    let rest = drop (length told) made.items in
    let len : made.len ≡ length told = search rules in
    let whole : take made.len (told ++ rest) ≡ told = ap (λ n. take n (told ++ rest)) len
    ∙ (take-append-le (length told) told rest (le_refl (length told)) ∙ take_all (length told) told (le_refl (length told))) in
    subst (λ (z : List ℕ). AllZip (λ (job : Job) worker. IsWorkerOf c.args.spread c.args.workers (job_arrival job) worker) (numbered_from first packets) z) (sym whole)
    (zip_numbered (λ job worker. IsWorkerOf c.args.spread c.args.workers (job_arrival job) worker) first packets told count
    (λ i packet low is.
    let at = (c.for_each_mut.ensures i 0 (search rules)).1 in
    subst (λ w. IsWorkerOf c.args.spread c.args.workers (arriving (first + i) packet) w) at.left (at.call.takes packet is)))
