use Rattle.std.proofs.Common.{◌≡◌, ◌≤◌, [], ◌∷◌, length, true, sym, ap, arith}
use Rattle.npf_products.specs.{declared.packet.CellPacket.CellPacket, Product.product_holds}
use Rattle.npf_reach.specs.{Kinds.IsPacket, Packets.has_packet}
use Rattle.npf_ctl_explain.proofs.ProductLemmas.{fails_of, found_so, holds_of, own_kinds}
use Rattle.npf_ctl_explain.proofs.class.packet_of_product.Goals as goal

pub narrow-requires-clause-of : goal.narrow-requires-clause-of
narrow-requires-clause-of c = own_kinds c.args.tables.now (c.args.product.now ∷ []) c.in_ok-all.all c.in_ok-all.ensures.of

pub narrow-requires-clause-known : goal.narrow-requires-clause-known
narrow-requires-clause-known c = let count = ap length c.in_ok-all.ensures.of.products_are in omega arith

pub packet-requires : goal.packet-requires
packet-requires c = own_kinds c.in_ok-all.all.tables.now c.in_ok-all.all.products.now c.in_ok-own.own c.in_ok-own.ensures.of

pub returns-clause-none : goal.returns-clause-none
returns-clause-none c = λ is facts ifid dir packet.
    fails_of c.args.tables.now c.args.product.now c.in_ok-all.all c.in_ok-own.own c.in_ok-all.ensures.of facts ifid dir
    (c.in_ok-own.ensures.narrowed facts ifid dir packet) (c.in_ok-all.ensures.all facts ifid dir packet) (c.packet.ensures.none is facts ifid dir packet)

pub returns-clause-holds : goal.returns-clause-holds
returns-clause-holds c =
    found_so (λ (it : CellPacket). IsPacket it.facts it.ifid) (λ it. has_packet c.in_ok-own.own it.facts it.ifid it.dir ≡ true)
    (λ it. product_holds c.args.product.now c.args.tables.now it.facts it.ifid it.dir ≡ true)
    (λ it packet there. holds_of c.args.tables.now c.args.product.now c.in_ok-all.all c.in_ok-own.own c.in_ok-all.ensures.of it.facts it.ifid it.dir
    (c.in_ok-own.ensures.narrowed it.facts it.ifid it.dir packet) there)
    c.packet.result c.packet.ensures.possible c.packet.ensures.found
