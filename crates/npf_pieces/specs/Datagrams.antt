-- What a keeper of datagrams has, and what is laid out there.
use Rattle.std.specs.Prelude.{◌≡◌, ℕ, List, [], ◌∷◌, ◌++◌}
use Rattle.npf_traffic.specs.declared.packet.Packet.{Packet}
use Rattle.npf_pieces.specs.declared.arrived.Arrived.{Arrived}
use Rattle.npf_pieces.specs.declared.datagrams.Datagrams.{Datagrams}
use Rattle.npf_pieces.specs.Datagram.{IsDatagram}
use Rattle.npf_pieces.specs.DatagramAt.{PutTogether, cut_at}

-- its datagrams, in the order in which they were laid out
abbrev pub laid_out : Datagrams → List PutTogether
laid_out datagrams = cut_at datagrams.extents.items datagrams.bytes.items

-- the place of the last of a set to come, which made it whole
abbrev pub last_place : List Arrived → ℕ
last_place [] = 0
last_place (a ∷ []) = a.place
last_place (a ∷ b ∷ set) = last_place (b ∷ set)

-- the datagram of a set is laid out behind the others
pub record AddsDatagram (packets : List Packet) (set : List Arrived) (old new : List PutTogether) : Type 0 where
  pub bytes : List ℕ
  pub is : IsDatagram packets set bytes
  pub adds : new ≡ old ++ record { place = last_place set; bytes = bytes } ∷ []
