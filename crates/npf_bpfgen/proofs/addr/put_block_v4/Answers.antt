use Rattle.std.proofs.Common.{◌≡◌, [], refl}
use Rattle.npf_bpfgen.{specs.Endpoint.ipv4_place, proofs.{AddrLemmas.{block_v4_branches, block_v4_test}, TailLemmas.extended}}
use Rattle.npf_bpfgen.proofs.addr.put_block_v4.Goals as goal

pub returns-clause-front : goal.returns-clause-front
returns-clause-front c =
    let is : c.put.new.self ≡ block_v4_test (ipv4_place c.args.endpoint) c.args.len c.args.addr c.args.tail.now =
    rw (c.in_ok-put.ensures, c.if_equal.ensures, c.ipv4_place.ensures, c.shift_right.ensures, c.from.ensures, c.if_equal-2.ensures, c.first_bits_of.ensures) in
    extended (block_v4_test (ipv4_place c.args.endpoint) c.args.len c.args.addr []) c.args.tail.now c.put.new.self 5 2 is refl refl

pub returns-clause-value : goal.returns-clause-value
returns-clause-value c =
    let is : c.put.new.self ≡ block_v4_test (ipv4_place c.args.endpoint) c.args.len c.args.addr c.args.tail.now =
    rw (c.in_ok-put.ensures, c.if_equal.ensures, c.ipv4_place.ensures, c.shift_right.ensures, c.from.ensures, c.if_equal-2.ensures, c.first_bits_of.ensures) in
    block_v4_branches c.args.endpoint c.args.len c.args.addr c.args.tail.now c.put.new.self c.requires is
