use Rattle.std.proofs.Common.{◌≡◌, [], refl}
use Rattle.npf_bpfgen.{specs.Endpoint.ipv6_place, proofs.{AddrLemmas.{block_v6_branches, block_v6_test}, TailLemmas.extended}}
use Rattle.npf_bpfgen.proofs.addr.put_block_v6.Goals as goal

pub returns-clause-front : goal.returns-clause-front
returns-clause-front c =
    let is : c.put.new.self ≡ block_v6_test (ipv6_place c.args.endpoint) c.args.len c.args.addr c.args.tail.now =
    rw (c.in_ok-put.ensures, c.if_equal.ensures, c.in_ok-put_half-2.ensures, c.in_ok-put_half.ensures, c.ipv6_place-at.ensures.value, c.min.ensures, c.saturating_sub.ensures) in
    extended (block_v6_test (ipv6_place c.args.endpoint) c.args.len c.args.addr []) c.args.tail.now c.put.new.self 14 2 is refl refl

pub returns-clause-value : goal.returns-clause-value
returns-clause-value c =
    let is : c.put.new.self ≡ block_v6_test (ipv6_place c.args.endpoint) c.args.len c.args.addr c.args.tail.now =
    rw (c.in_ok-put.ensures, c.if_equal.ensures, c.in_ok-put_half-2.ensures, c.in_ok-put_half.ensures, c.ipv6_place-at.ensures.value, c.min.ensures, c.saturating_sub.ensures) in
    block_v6_branches c.args.endpoint c.args.len c.args.addr c.args.tail.now c.put.new.self c.requires is
