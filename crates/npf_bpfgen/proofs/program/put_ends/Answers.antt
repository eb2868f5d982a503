use Rattle.std.proofs.Common.{arith}
use Rattle.npf_model.specs.Describes.{fits_addrs, fits_ports}
use Rattle.npf_bpfgen.{specs.Endpoint.{address_of, port_of}, proofs.{ProgramLemmas.guards_both, TailLemmas.extended_twice}}
use Rattle.npf_bpfgen.proofs.program.put_ends.Goals as goal

pub returns-clause-front : goal.returns-clause-front
returns-clause-front c =
    extended_twice c.args.tail.now c.put_listed_ports.new.tail c.put_listed_addrs.new.tail _ _ _
    c.in_ok-put_listed_ports.ensures.front c.in_ok-put_listed_addrs.ensures.front (omega arith)

pub returns-clause-value : goal.returns-clause-value
returns-clause-value c =
    let e = c.args.endpoint in
    guards_both (λ tables facts. fits_addrs c.args.ends.now.excluded c.args.ends.now.addrs tables (address_of e facts)) (λ tables facts. fits_ports c.args.ends.now.ports (port_of e facts.l4))
    c.args.tail.now c.put_listed_ports.new.tail c.put_listed_addrs.new.tail
    c.in_ok-put_listed_ports.ensures.value c.in_ok-put_listed_addrs.ensures.value
