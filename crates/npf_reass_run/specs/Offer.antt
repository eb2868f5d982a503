-- What passes have offered of packets.
use Rattle.std.specs.Prelude.{◌≡◌, ℕ, ◌==◌, Bool, List, ◌∷◌, ◌++◌, filter, map}
use Rattle.std.specs.List.{AllZip, list_any}
use Rattle.npf_traffic.specs.declared.packet.Packet.{Packet}
use Rattle.npf_pieces.specs.declared.arrived.Arrived.{Arrived}
use Rattle.npf_pieces.specs.declared.piece.Piece.{Piece}
use Rattle.npf_pieces.specs.declared.piece.Seen.{Seen}
use Rattle.npf_reass_sets.specs.Among.{arrived_at, arrived_from}
use Rattle.npf_reass_whole.specs.Run.{IsSeenAs}
use Rattle.npf_reass.specs.Class.{offered}
use Rattle.npf_reass.specs.Sight.{ReassSight}

-- one of these numbers
abbrev pub is_number_among : List ℕ → ℕ → Bool
is_number_among numbers n = list_any (λ number. number == n) numbers

-- what was offered by a pass and by those that were joined into it, in the order of its history
abbrev pub own_pieces : ReassSight → List (ℕ × Piece)
own_pieces sight =
    map offered (filter (λ offer. is_number_among (sight.number ∷ sight.joined) offer.seat) sight.history)

-- a piece, with the place of its packet
abbrev pub placed : Arrived → ℕ × Piece
placed a = (a.place, a.piece)

-- what of a list is of the packet of this place
abbrev pub of_place : ℕ → List (ℕ × Piece) → List (ℕ × Piece)
of_place place = filter (λ offer. offer.0 == place)

-- what was offered of each packet is the piece that it is, if it is one, where the first packet has
-- this place
pub record HasOffered (first : ℕ) (packets : List Packet) (sight : ReassSight) : Type 0 where
  pub seens : List Seen
  pub sees : AllZip IsSeenAs packets seens
  pub each : (place : ℕ) → of_place place (own_pieces sight)
      ≡ of_place place (map placed (arrived_from first packets seens))

-- the packet of this place is seen so, and its piece, if it is one, was offered
pub record OffersPacket (place : ℕ) (packet : Packet) (old new : ReassSight) : Type 0 where
  pub seen : Seen
  pub is : IsSeenAs packet seen
  pub adds : own_pieces new ≡ own_pieces old ++ map placed (arrived_at place packet.time seen)
