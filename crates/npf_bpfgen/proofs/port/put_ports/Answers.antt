use Rattle.std.proofs.Common.{◌≡◌, ◌++◌, refl, arith}
use Rattle.npf_bpfgen.{specs.Endpoint.port_place, proofs.{PortLemmas.{ports_front, ports_guard}, TailLemmas.{extended, extended_twice}}}
use Rattle.npf_bpfgen.proofs.port.put_ports.Goals as goal

pub returns-clause-front : goal.returns-clause-front
returns-clause-front c =
    let front = ports_front (port_place c.args.endpoint) in
    let is : c.put.new.self ≡ front ++ c.put_ranges.new.tail = rw (c.in_ok-put.ensures, c.if_equal.ensures, c.if_equal-2.ensures, c.port_place.ensures) in
    extended_twice c.args.tail.now c.put_ranges.new.tail c.put.new.self _ 6 _ c.in_ok-put_ranges.ensures.front
    (extended front c.put_ranges.new.tail c.put.new.self 6 1 is refl refl) (omega arith)

pub returns-clause-value : goal.returns-clause-value
returns-clause-value c =
    let front = ports_front (port_place c.args.endpoint) in
    let is : c.put.new.self ≡ front ++ c.put_ranges.new.tail = rw (c.in_ok-put.ensures, c.if_equal.ensures, c.if_equal-2.ensures, c.port_place.ensures) in
    ports_guard c.args.ranges.now c.args.endpoint c.args.tail.now c.put_ranges.new.tail c.put.new.self c.in_ok-put_ranges.ensures.value is
