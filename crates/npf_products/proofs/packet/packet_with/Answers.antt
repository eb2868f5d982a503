use Rattle.std.proofs.Common.{arith}
use Rattle.npf_products.proofs.PacketLemmas.{numbers_are, packet_is}
use Rattle.npf_products.proofs.packet.packet_with.Goals as goal

pub returns-clause-packet : goal.returns-clause-packet
returns-clause-packet c = packet_is c.args.kind c.args.numbers.now _ _ _ _ _ c.requires.size c.requires.possible
    c.address.ensures c.address-2.ensures c.protocol_with.ensures c.carried.ensures c.low_word.ensures

pub returns-clause-numbers : goal.returns-clause-numbers
returns-clause-numbers c = numbers_are c.args.kind c.args.numbers.now _ _ _ _ _ _ (omega arith) c.requires.size
    c.address.ensures c.address-2.ensures c.protocol_with.ensures c.carried.ensures c.low_word.ensures c.direction.ensures
