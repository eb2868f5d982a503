use Rattle.std.proofs.Common.{refl}
use Rattle.npf_fields.proofs.FieldBytes.{after}
use Rattle.byteorder.specs.Endian.{big_bytes}
use Rattle.npf_fields.proofs.field.put32.Goals as goal

pub returns-clause-after : goal.returns-clause-after
returns-clause-after c = λ k d behind. rw c.write_u32.ensures (after c.args.bytes.now (big_bytes 4 c.args.v) c.args.at 4 c.requires refl k d behind)
