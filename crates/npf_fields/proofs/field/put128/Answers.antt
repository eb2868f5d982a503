use Rattle.std.proofs.Common.{◌-◌, length, take, drop, arith, refl}
use Rattle.npf_fields.proofs.{FieldBytes.after, FieldNumbers.number128-put}
use Rattle.byteorder.specs.Endian.{big_bytes}
use Rattle.npf_fields.proofs.field.put128.Goals as goal

pub returns-clause-after : goal.returns-clause-after
returns-clause-after c = λ k d behind. rw c.write_u128.ensures (after c.args.bytes.now (big_bytes 16 c.args.v) c.args.at 16 c.requires refl k d behind)

pub returns-clause-written : goal.returns-clause-written
returns-clause-written c =
    rw c.write_u128.ensures (number128-put c.args.bytes.now (drop 16 (take (length c.args.bytes.now - c.args.at) (drop c.args.at c.args.bytes.now))) c.args.at c.args.v c.requires (omega arith))
