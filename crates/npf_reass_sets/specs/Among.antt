-- The pieces among the packets of a run, and their sets.
use Rattle.std.specs.Prelude.{ℕ, suc, List, [], ◌∷◌, ◌++◌, Contains}
use Rattle.npf_traffic.specs.declared.packet.Packet.{Packet}
use Rattle.npf_pieces.specs.declared.arrived.Arrived.{Arrived}
use Rattle.npf_pieces.specs.declared.piece.FragKey.{FragKey}
use Rattle.npf_pieces.specs.declared.piece.Seen.{Seen}
use Rattle.npf_pieces.specs.Sets.{Set, sets_from}
use Rattle.npf_reass_sets.specs.Key.{of_key}

-- the piece, if it is one, that the packet of this place and time is
abbrev pub arrived_at : ℕ → ℕ → Seen → List Arrived
arrived_at place time Seen.NoFragment = []
arrived_at place time Seen.Bad = []
arrived_at place time (Seen.Piece piece) = record { place = place; time = time; piece = piece } ∷ []

-- the pieces among packets that are seen as these, of which the first has this place, in the order in which they come
abbrev pub arrived_from : ℕ → List Packet → List Seen → List Arrived
arrived_from place [] seens = []
arrived_from place (packet ∷ packets) [] = []
arrived_from place (packet ∷ packets) (seen ∷ seens) =
    arrived_at place packet.time seen ++ arrived_from (suc place) packets seens

-- one of the sets that the pieces of a key make
pub record IsSetAmong (arrived : List Arrived) (set : Set) : Type 0 where
  pub key : FragKey
  pub is : Contains (sets_from [] (of_key key arrived)) set
