use Rattle.std.proofs.Common.{arith}
use Rattle.npf_icmpalg.proofs.AddressLemmas.{destination_within, source_within}
use Rattle.npf_icmpalg.proofs.error_translated.quoted_writes.Goals as goal

pub returns-clause-within : goal.returns-clause-within
returns-clause-within c size room end =
    let inner = c.args.inner.now in
    record {
      header = c.quoted_ends-header.ensures.within size (omega (arith, room.upper, room.upper_header, end));
      source = rw c.source_write.ensures (source_within inner c.quoted_ends-header.result size (omega (arith, room.upper_header, end)));
      destination = rw c.destination_write.ensures (destination_within inner c.quoted_ends-header.result size (omega (arith, room.upper_header, end)));
    }
