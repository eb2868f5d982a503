-- A run whose fragments are put together (RFC 791 section 3.2, RFC 8200 section 4.5).
-- READ 12 of docs/READING.md
use Rattle.std.specs.Prelude.{◌≡◌, ℕ, Some, List, All, length, slice_get}
use Rattle.std.specs.List.{AllZip}
use Rattle.npf_traffic.specs.declared.packet.Packet.{Packet}
use Rattle.npf_pieces.specs.declared.piece.Seen.{Seen}
use Rattle.npf_pieces.specs.Piece.{SeenAs}
use Rattle.npf_reass_sets.specs.Among.{arrived_from}
use Rattle.npf_reass_whole.specs.Fate.{HasFate}

-- each packet of a run and what became of it, where its fragments are put together
pub record Whole (packets whole : List Packet) : Type 0 where
  pub seens : List Seen
  pub sees : AllZip SeenAs packets seens
  pub count : length whole ≡ length packets
  pub each : (place : ℕ) (old new : Packet) (seen : Seen) →
      slice_get packets place ≡ Some old → slice_get whole place ≡ Some new → slice_get seens place ≡ Some seen →
      HasFate packets (arrived_from 0 packets seens) place old new seen

-- a run without fragments stays as it is
abbrev pub NoFragmentsStay : Type 0
NoFragmentsStay = (packets : List Packet) → All (λ packet. SeenAs packet Seen.NoFragment) packets → Whole packets packets

-- both cross the same interface at the same time, the same way
pub record CrossesAlike (old new : Packet) : Type 0 where
  pub time : new.time ≡ old.time
  pub ifid : new.ifid ≡ old.ifid
  pub dir : new.dir ≡ old.dir

-- whatever becomes of a packet, it crosses where and when it did
abbrev pub WholeKeeps : Type 0
WholeKeeps = (packets whole : List Packet) → Whole packets whole → (place : ℕ) (old new : Packet) →
    slice_get packets place ≡ Some old → slice_get whole place ≡ Some new → CrossesAlike old new
