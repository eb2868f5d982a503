use Rattle.std.proofs.Common.{arith}
use Rattle.npf_icmpalg.{specs.Quoted.is_same_address, proofs.AddressLemmas.header_within}
use Rattle.npf_icmpalg.proofs.error_translated.outer_ends.Goals as goal

pub returns-clause-within : goal.returns-clause-within
returns-clause-within c size room =
    let facts = c.args.facts.now in
    let change = c.args.change.now in
    rw c.outer_source.ensures (rw c.fitting.ensures
    (header_within (is_same_address facts.src c.args.inner.now.dst) facts.src size facts.ip_at change.src change.dst
    (omega (arith, room.upper, room.upper_header, room.end))))
