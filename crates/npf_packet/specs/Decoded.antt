use Rattle.std.specs.Prelude.{ℕ}
use Rattle.npf_packet.specs.declared.decoded.BadPacket.TheVariants.{Cut, Bad}
use Rattle.npf_packet.specs.declared.decoded.Decoded.{Decoded}
use Rattle.npf_packet.specs.declared.decoded.Decoded.TheVariants.{Malformed}

-- the packet should go on at this place
abbrev pub cut : ℕ → Decoded
cut at = Malformed Cut at

-- the field at this place says what can't be
abbrev pub bad : ℕ → Decoded
bad at = Malformed Bad at
