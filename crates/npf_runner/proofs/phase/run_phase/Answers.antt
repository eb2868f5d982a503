use Rattle.std.proofs.{Common.{rules, ◌≡◌, ◌<◌, ◌+◌, ◌++◌, All, length, vec_len, refl, ap, sym, subst, ◌∙◌, arith}, lemmas.List.length-map}
use Rattle.std.proofs.lemmas.List.Elements.{All-weaker}
use Rattle.npf_publish.specs.ConfReader.{IsNewReader, reader_range}
use Rattle.npf_engine.specs.Handles.{configurations}
use Rattle.npf_runner.specs.{declared.worker.Worker.Worker, Job.{Handled, numbered_from}, Order.{IsOrder, workers_by}, Played.{outcomes_of, outputs_of}}
use Rattle.npf_runner.proofs.{JobLemmas.numbered_length, RegatherLemmas.regathers}
use Rattle.npf_runner.proofs.phase.run_phase.Goals as goal

pub run_crew-ran-requires-clause-readers : goal.run_crew-ran-requires-clause-readers
run_crew-ran-requires-clause-readers g c lifetimes outlives =
    let last = c.args.task.last in
    let count = length c.args.shared.now.configs.now in
    let published = c.count_published.result in
    let low : last + published < count = search rules in
    All-weaker (λ (worker : Worker). IsNewReader (record { first = last; last = last + published }) worker.reader) (λ (worker : Worker). (reader_range worker.reader).last < count)
    (λ worker new. subst (λ r. r.last < count) (sym new.range) low) c.in_ok-order.field-0.crew.items c.in_ok-order.ensures.readers

pub gather-requires : goal.gather-requires
gather-requires g c =
    let V = g.C.Connections.view in
    let made = c.in_ok-order.field-0 in
    let ran = c.in_ok-queues.ensures.runs in
    let jobs = numbered_from c.args.task.first c.args.task.packets.items in
    let size = vec_len c.args.task.packets in
    let count : length jobs ≡ size = numbered_length c.args.task.first c.args.task.packets.items ∙ search rules in
    let crew : c.args.task.workers ≡ length made.crew.items = search rules in
    let fits = subst (λ n. IsOrder made.order size n) crew c.in_ok-order.ensures.order in
    let again = regathers V (configurations c.args.shared.now.configs.now) (V c.args.pass.now) (V c.run_crew-ran.new.pass) c.args.commands.now (workers_by made.order size) jobs made.crew.items ran.0
    c.in_ok-order.ensures.dealt ran.2 c.in_ok-queues.queues made.order size ran.1 refl fits count in
    let same = length-map again.dones (λ (done : Handled). done.outcome) ∙ again.count in
    let room = c.requires.for_outcomes in
    record { dealt = (outcomes_of again.dones, again.outcomes, omega (arith, same, room)) }

pub gather-requires-2 : goal.gather-requires-2
gather-requires-2 g c =
    let V = g.C.Connections.view in
    let made = c.in_ok-order.field-0 in
    let ran = c.in_ok-queues.ensures.runs in
    let jobs = numbered_from c.args.task.first c.args.task.packets.items in
    let size = vec_len c.args.task.packets in
    let count : length jobs ≡ size = numbered_length c.args.task.first c.args.task.packets.items ∙ search rules in
    let crew : c.args.task.workers ≡ length made.crew.items = search rules in
    let fits = subst (λ n. IsOrder made.order size n) crew c.in_ok-order.ensures.order in
    let again = regathers V (configurations c.args.shared.now.configs.now) (V c.args.pass.now) (V c.run_crew-ran.new.pass) c.args.commands.now (workers_by made.order size) jobs made.crew.items ran.0
    c.in_ok-order.ensures.dealt ran.2 c.in_ok-queues.queues made.order size ran.1 refl fits count in
    let same = length-map again.dones (λ (done : Handled). done.packet) ∙ again.count in
    let room = c.requires.for_packets in
    let all : vec_len c.roomier.result ≡ vec_len c.args.all.packets = search rules in
    record { dealt = (outputs_of again.dones, again.outputs, omega (arith, same, room, all, c.roomier.ensures.capacity)) }

pub returns-clause-runs : goal.returns-clause-runs
returns-clause-runs g c =
    let V = g.C.Connections.view in
    let made = c.in_ok-order.field-0 in
    let ran = c.in_ok-queues.ensures.runs in
    let jobs = numbered_from c.args.task.first c.args.task.packets.items in
    let size = vec_len c.args.task.packets in
    let count : length jobs ≡ size = numbered_length c.args.task.first c.args.task.packets.items ∙ search rules in
    let crew : c.args.task.workers ≡ length made.crew.items = search rules in
    let fits = subst (λ n. IsOrder made.order size n) crew c.in_ok-order.ensures.order in
    let again = regathers V (configurations c.args.shared.now.configs.now) (V c.args.pass.now) (V c.run_crew-ran.new.pass) c.args.commands.now (workers_by made.order size) jobs made.crew.items ran.0
    c.in_ok-order.ensures.dealt ran.2 c.in_ok-queues.queues made.order size ran.1 refl fits count in
    let last = c.args.task.last in (
      again.dones,
      c.gather.ensures.gathered (outcomes_of again.dones) again.outcomes,
      c.gather-2.ensures.gathered (outputs_of again.dones) again.outputs ∙ ap (λ packets. packets ++ outputs_of again.dones) c.roomier.ensures.items,
      record {
        order = workers_by made.order size;
        spreads = c.in_ok-order.ensures.spreads;
        crew = made.crew.items;
        readers = subst (λ n. All (λ (worker : Worker). IsNewReader (record { first = last; last = last + n }) worker.reader) made.crew.items) c.count_published.ensures c.in_ok-order.ensures.readers;
        dealt = c.in_ok-order.ensures.dealt;
        lanes = ran.0;
        ran = ran.2;
        gathered = again.dealt;
      },
    )
