use Rattle.std.proofs.Common.{true}
use Rattle.npf_icmpalg.proofs.AddressLemmas.{header_within}
use Rattle.npf_icmpalg.proofs.error_translated.quoted_ends.Goals as goal

pub returns-clause-within : goal.returns-clause-within
returns-clause-within c size room =
    let facts = c.args.facts.now in
    let change = c.args.change.now in
    rw c.fitting.ensures (rw c.fitting-2.ensures
    (header_within true facts.src size c.args.inner.now.ip_at change.dst change.src room))
