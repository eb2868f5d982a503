-- A packet, where a list asks for one past its end.
use Rattle.std.proofs.Common.{None}
use Rattle.npf_types.specs.declared.{address.Addr.TheVariants.V4, direction.Dir.TheVariants.In, facts.L4.TheVariants.Tcp}
use Rattle.npf_products.specs.declared.packet.CellPacket.{CellPacket}

abbrev pub any_packet : CellPacket
any_packet = record {
  facts = record {
    src = V4 0;
    dst = V4 0;
    proto = 0;
    ip_at = 0;
    l4_at = 0;
    end = 0;
    l4 = Tcp 0 0 (record { flags = 0; seq = 0; ack = 0; win = 0; len = 0; scale = None }) None;
  };
  ifid = record { 0 = 0 };
  dir = In;
}
