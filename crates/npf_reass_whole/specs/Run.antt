-- The sets of a run's pieces, as its classes tell them, and what follows of its packets.
use Rattle.std.specs.Prelude.{◌≡◌, ℕ, ◌<◌, List, [], ◌∷◌, ◌++◌, All, Contains, length, slice_index_or}
use Rattle.std.specs.List.{AllZip}
use Rattle.npf_traffic.specs.declared.packet.FragWhy.{FragWhy}
use Rattle.npf_traffic.specs.declared.packet.FragWhy.TheVariants.{Held, Overlap}
use Rattle.npf_traffic.specs.declared.packet.Packet.{Packet}
use Rattle.npf_pieces.specs.declared.arrived.Arrived.{Arrived}
use Rattle.npf_pieces.specs.declared.arrived.Ending.{Ending}
use Rattle.npf_pieces.specs.declared.arrived.Ending.TheVariants.{Unfinished, Refused, Complete}
use Rattle.npf_pieces.specs.declared.piece.Seen.{Seen}
use Rattle.npf_pieces.specs.Datagram.{IsDatagram, StandsAmong, WholeIfComplete}
use Rattle.npf_pieces.specs.DatagramAt.{PutTogether, with_datagrams, with_packet}
use Rattle.npf_pieces.specs.Datagrams.{last_place}
use Rattle.npf_pieces.specs.Piece.{IfPiece, IsGood, IsPlacedPiece, SeenAs}
use Rattle.npf_pieces.specs.Sets.{Set, StandsIn}
use Rattle.npf_reass_sets.specs.declared.class.ClassSets.{ClassSets}
use Rattle.npf_reass_sets.specs.Among.{IsSetAmong, arrived_from}
use Rattle.npf_reass_sets.specs.Class.{IsInSet, class_sets}
use Rattle.npf_reass_whole.specs.Fate.{held_as}

-- the sets of all classes
abbrev pub all_sets : List ClassSets → List Set
all_sets [] = []
all_sets (class ∷ classes) = class_sets class ++ all_sets classes

-- a class's sets are sets of these pieces, among which its own are
pub record IsClassAmong (arrived : List Arrived) (class : ClassSets) : Type 0 where
  pub places : All (StandsIn (length class.arrived.items)) class.sets.items
  pub own : All (Contains arrived) class.arrived.items
  pub sets : All (IsSetAmong arrived) (class_sets class)

-- the packet is seen as this, and where it is a piece, it is one in itself
pub record IsSeenAs (packet : Packet) (seen : Seen) : Type 0 where
  pub sees : SeenAs packet seen
  pub good : IfPiece IsGood seen
  pub placed : IfPiece (IsPlacedPiece (length packet.bytes)) seen

-- the classes tell the sets of the packets' pieces, and each piece is in one
pub record DecidesRun (packets : List Packet) (classes : List ClassSets) : Type 0 where
  pub seens : List Seen
  pub sees : AllZip IsSeenAs packets seens
  pub each : All (IsClassAmong (arrived_from 0 packets seens)) classes
  pub all : All (IsInSet (all_sets classes)) (arrived_from 0 packets seens)

-- the datagram of a whole set among these
pub record IsDatagramAmong (packets : List Packet) (sets : List Set) (datagram : PutTogether) : Type 0 where
  pub set : Set
  pub among : Contains sets set
  pub complete : set.ending ≡ Complete
  pub place : datagram.place ≡ last_place set.pieces
  pub is : IsDatagram packets set.pieces datagram.bytes

-- one of the datagrams stands in for the last piece of this set
pub record HasDatagram (datagrams : List PutTogether) (set : Set) : Type 0 where
  pub datagram : PutTogether
  pub among : Contains datagrams datagram
  pub place : datagram.place ≡ last_place set.pieces

abbrev pub HasDatagramIfComplete : List PutTogether → Set → Type 0
HasDatagramIfComplete datagrams set = set.ending ≡ Complete → HasDatagram datagrams set

-- these are the datagrams of the sets that are whole
pub record LaysOut (packets : List Packet) (sets : List Set) (datagrams : List PutTogether) : Type 0 where
  pub each : All (IsDatagramAmong packets sets) datagrams
  pub all : All (HasDatagramIfComplete datagrams) sets

-- the datagrams of the class's whole sets can be laid out
pub record CanLayOut (packets : List Packet) (class : ClassSets) : Type 0 where
  pub places : All (StandsIn (length class.arrived.items)) class.sets.items
  pub stand : All (StandsAmong packets) class.arrived.items
  pub whole : All WholeIfComplete (class_sets class)

-- more datagrams stand behind those that were there, and they are the ones of these sets
pub record AddsDatagrams (packets : List Packet) (sets : List Set) (old new : List PutTogether) : Type 0 where
  pub more : List PutTogether
  pub is : new ≡ old ++ more
  pub lays : LaysOut packets sets more

-- why the pieces of a set are held that ended so; that of a datagram is given on once it is put in its place
abbrev pub why_held : Ending → FragWhy
why_held Unfinished = Held
why_held Refused = Overlap
why_held Complete = Held

-- the packets with these pieces held
abbrev pub with_held : FragWhy → List Arrived → List Packet → List Packet
with_held why [] packets = packets
with_held why (a ∷ pieces) packets = with_held why pieces (with_packet (held_as why) a.place packets)

-- the packets with the pieces of these sets held
abbrev pub with_sets_held : List Set → List Packet → List Packet
with_sets_held [] packets = packets
with_sets_held (set ∷ sets) packets = with_sets_held sets (with_held (why_held set.ending) set.pieces packets)

-- the packet, held if it is seen as bad
abbrev pub HeldIfBad : Packet → Packet → Seen → Type 0
HeldIfBad old new Seen.NoFragment = new ≡ old
HeldIfBad old new Seen.Bad = new ≡ held_as FragWhy.Bad old
HeldIfBad old new (Seen.Piece piece) = new ≡ old

-- the pieces of the class are packets of a run of this length
pub record HasPlacesBelow (count : ℕ) (class : ClassSets) : Type 0 where
  pub places : All (StandsIn (length class.arrived.items)) class.sets.items
  pub here : All (λ a. a.place < count) class.arrived.items

-- each packet is held if it is seen as bad
pub record HoldsBad (old new : List Packet) : Type 0 where
  pub count : length new ≡ length old
  pub each : (place : ℕ) (packet : Packet) (seen : Seen) → place < length old → SeenAs (slice_index_or old place packet) seen
      → HeldIfBad (slice_index_or old place packet) (slice_index_or new place packet) seen

-- fragments are held, and these datagrams stand in place of the packets that become them
pub record PutsAll (sets : List Set) (datagrams : List PutTogether) (old new : List Packet) : Type 0 where
  pub bad : List Packet
  pub holds : HoldsBad old bad
  pub is : new ≡ with_datagrams datagrams (with_sets_held sets bad)
