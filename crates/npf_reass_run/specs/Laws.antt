-- What holds of the sets of a run's pieces.
use Rattle.std.specs.Prelude.{◌≡◌, List, Contains}
use Rattle.npf_traffic.specs.declared.packet.Packet.{Packet}
use Rattle.npf_pieces.specs.declared.arrived.Arrived.{Arrived}
use Rattle.npf_pieces.specs.declared.piece.Seen.{Seen}
use Rattle.npf_pieces.specs.Sets.{Set}
use Rattle.npf_reass_sets.specs.Among.{IsSetAmong, arrived_from}

-- a piece is in one set alone
abbrev pub OneSet : Type 0
OneSet = (packets : List Packet) (seens : List Seen) (a : Arrived) (set other : Set)
    → IsSetAmong (arrived_from 0 packets seens) set
    → IsSetAmong (arrived_from 0 packets seens) other
    → Contains set.pieces a → Contains other.pieces a → set ≡ other
