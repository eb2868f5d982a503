-- What becomes of a packet when the fragments of a run are put together.
-- READ 12 of docs/READING.md
use Rattle.std.specs.Prelude.{◌≡◌, ◌≢◌, ℕ, Some, None, List, Contains}
use Rattle.npf_types.specs.declared.link.Link.TheVariants.{Raw}
use Rattle.npf_traffic.specs.declared.packet.FragWhy.{FragWhy}
use Rattle.npf_traffic.specs.declared.packet.FragWhy.TheVariants.{Held, Overlap, Bad}
use Rattle.npf_traffic.specs.declared.packet.Packet.{Packet}
use Rattle.npf_pieces.specs.declared.arrived.Arrived.{Arrived}
use Rattle.npf_pieces.specs.declared.arrived.Ending.{Ending}
use Rattle.npf_pieces.specs.declared.arrived.Ending.TheVariants.{Unfinished, Refused, Complete}
use Rattle.npf_pieces.specs.declared.piece.Seen.{Seen}
use Rattle.npf_pieces.specs.Datagram.{IsDatagram}
use Rattle.npf_pieces.specs.Datagrams.{last_place}
use Rattle.npf_pieces.specs.Sets.{Set}
use Rattle.npf_reass_sets.specs.Among.{IsSetAmong}

-- the packet as it was, but held for this reason
abbrev pub held_as : FragWhy → Packet → Packet
held_as why packet = record packet { held = Some why }

-- the packet became the set's datagram, whose record is of IP alone
pub record BecomesDatagram (packets : List Packet) (set : Set) (old new : Packet) : Type 0 where
  pub bytes : List ℕ
  pub is : IsDatagram packets set.pieces bytes
  pub becomes : new ≡ record old { link = Raw; bytes = bytes; held = None }

-- a whole set's last piece becomes its datagram, and the others are held
pub record FollowsWhole (packets : List Packet) (set : Set) (place : ℕ) (old new : Packet) : Type 0 where
  pub last : place ≡ last_place set.pieces → BecomesDatagram packets set old new
  pub other : place ≢ last_place set.pieces → new ≡ held_as Held old

-- what becomes of the packet of this place by the ending of its piece's set
abbrev pub FollowsEnding : List Packet → Set → ℕ → Packet → Packet → Ending → Type 0
FollowsEnding packets set place old new Unfinished = new ≡ held_as Held old
FollowsEnding packets set place old new Refused = new ≡ held_as Overlap old
FollowsEnding packets set place old new Complete = FollowsWhole packets set place old new

-- the packet of this place is a piece in a set, whose ending says what becomes of it
pub record FollowsSet (packets : List Packet) (arrived : List Arrived) (a : Arrived) (old new : Packet) : Type 0 where
  pub set : Set
  pub of : IsSetAmong arrived set
  pub among : Contains set.pieces a
  pub follows : FollowsEnding packets set a.place old new set.ending

-- what becomes of the packet of this place that is seen so: all but fragments stay
abbrev pub HasFate : List Packet → List Arrived → ℕ → Packet → Packet → Seen → Type 0
HasFate packets arrived place old new Seen.NoFragment = new ≡ old
HasFate packets arrived place old new Seen.Bad = new ≡ held_as Bad old
HasFate packets arrived place old new (Seen.Piece piece) =
    FollowsSet packets arrived (record { place = place; time = old.time; piece = piece }) old new
