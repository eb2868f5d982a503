use Rattle.std.{proofs.Common.{◌≡◌, ◌∷◌, [], List, ℕ, length, map, replicate, vec_len, rules, sym, subst}, specs.List.range_with_len}
use Rattle.std.proofs.lemmas.List.FromFn.{length-range_with_len}
use Rattle.npf_runner_dealing.specs.Lanes.{IsDealt}
use Rattle.npf_traffic.specs.declared.packet.Packet.{Packet}
use Rattle.npf_runner.{specs.{declared.order.Order.Order, Crew.{numbers_of_worker, packets_of_worker}, Order.workers_by}, proofs.OrderLemmas.dealt_to_only}
use Rattle.npf_runner.proofs.crew.crew_of.Goals as goal

pub returns-in_ok-crew-in-Only-clause-numbers : goal.returns-in_ok-crew-in-Only-clause-numbers
returns-in_ok-crew-in-Only-clause-numbers c =
    let size = vec_len c.args.packets in
    let numbers = range_with_len c.args.first size in
    subst (λ (order : Order). IsDealt (workers_by order size) numbers (map numbers_of_worker c.in_ok-crew-in-Only.crew.items)) (sym c.in-Only.is)
    (subst (λ (lanes : List (List ℕ)). IsDealt (replicate size 0) numbers lanes) (sym c.in_ok-crew-in-Only.ensures.numbers) (dealt_to_only size numbers (length-range_with_len c.args.first size)))

pub returns-in_ok-crew-in-Only-clause-packets : goal.returns-in_ok-crew-in-Only-clause-packets
returns-in_ok-crew-in-Only-clause-packets c =
    let size = vec_len c.args.packets in
    let packets = c.args.packets.items in
    let same : length packets ≡ size = search rules in
    subst (λ (order : Order). IsDealt (workers_by order size) packets (map packets_of_worker c.in_ok-crew-in-Only.crew.items)) (sym c.in-Only.is)
    (subst (λ (lanes : List (List Packet)). IsDealt (replicate size 0) packets lanes) (sym c.in_ok-crew-in-Only.ensures.packets) (dealt_to_only size packets same))
