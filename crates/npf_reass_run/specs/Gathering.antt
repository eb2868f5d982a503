-- The pieces among packets, by classes.
use Rattle.std.specs.Prelude.{◌≡◌, ℕ, ◌<◌, ◌==◌, List, filter, length, slice_index_or}
use Rattle.std.specs.List.{AllZip}
use Rattle.npf_traffic.specs.declared.packet.Packet.{Packet}
use Rattle.npf_pieces.specs.declared.arrived.Arrived.{Arrived}
use Rattle.npf_pieces.specs.declared.piece.Piece.{Piece}
use Rattle.npf_pieces.specs.declared.piece.Seen.{Seen}
use Rattle.npf_reass_sets.specs.declared.class.ClassSets.{ClassSets}
use Rattle.npf_reass_sets.specs.Among.{arrived_from}
use Rattle.npf_reass_whole.specs.Run.{IsSeenAs}
use Rattle.npf_reass.specs.Class.{class_of}

-- those of a class, where there are so many
abbrev pub class_pieces : ℕ → ℕ → List Arrived → List Arrived
class_pieces classes class arrived = filter (λ a. class_of classes a.piece.key == class) arrived

-- each class has its pieces among the packets, in their order
pub record GathersPieces (packets : List Packet) (classes : List ClassSets) : Type 0 where
  pub seens : List Seen
  pub sees : AllZip IsSeenAs packets seens
  pub each : (class : ℕ) (d : ClassSets) → class < length classes
      → (slice_index_or classes class d).arrived.items ≡ class_pieces (length classes) class (arrived_from 0 packets seens)

-- the offer is of one of the packets
abbrev pub IsOfferAmong : List Packet → ℕ × Piece → Type 0
IsOfferAmong packets offer = offer.0 < length packets

-- the piece is the offered one, with the time of its packet
pub record IsArrivedOffer (packets : List Packet) (offer : ℕ × Piece) (a : Arrived) : Type 0 where
  pub place : a.place ≡ offer.0
  pub piece : a.piece ≡ offer.1
  pub time : (d : Packet) → a.time ≡ (slice_index_or packets offer.0 d).time

-- the class has the pieces of the list
abbrev pub HasListed : List Packet → List (ℕ × Piece) → ClassSets → Type 0
HasListed packets list class = AllZip (IsArrivedOffer packets) list class.arrived.items
