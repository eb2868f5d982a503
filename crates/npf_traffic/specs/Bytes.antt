-- Bytes of a packet that are lent.
use Rattle.std.specs.Prelude.{ℕ, List, []}
use Rattle.std.specs.Borrow.{Lends, MutBor, Fml, Array, u8}
use mir.Syntax.{named}
use Rattle.npf_traffic.specs.contracts.packet.PacketBytes.{the_row}

-- when the borrow ends, the packet has the bytes that were written through it
abbrev pub LendsBytes : MutBor (List ℕ) → MutBor (List ℕ) → Fml
LendsBytes packet bytes = Lends (the_row (record { mir = named 1; lft = [] })) (Array u8 0) packet bytes (λ written. written)
