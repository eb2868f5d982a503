use Rattle.std.proofs.Common.{◌≡◌, Some, None, true, false, refl}
use Rattle.npf_types.specs.declared.key.Way.{Way, TheVariants.{Forward, Backward, Port}}
use Rattle.npf_tcp.specs.declared.{class.SegmentClass.{SegmentClass, TheVariants.{Rst, Syn, SynAck, Fin, Invalid}}, state.TcpPhase.TcpPhase}
use Rattle.npf_tcp.specs.{declared.state.TcpPhase.TheVariants.Closed, Cell.{row, no, cell, forward_cell, backward_cell}}
use Rattle.npf_tcp.specs.Mirror.{mirrored_phase, mirrored_cell, opposite_way, is_one_sided, is_symmetric}

-- a reset leads to CLOSED from every phase
forward_cell-rst : (phase : TcpPhase) → forward_cell phase Rst ≡ Some Closed
forward_cell-rst Closed = refl
forward_cell-rst _ = refl

backward_cell-rst : (phase : TcpPhase) → backward_cell phase Rst ≡ Some Closed
backward_cell-rst Closed = refl
backward_cell-rst _ = refl

pub cell-rst : (phase : TcpPhase) (way : Way) → cell phase way Rst ≡ Some Closed
cell-rst phase Forward = forward_cell-rst phase
cell-rst phase Backward = backward_cell-rst phase
cell-rst phase Port = forward_cell-rst phase

-- and an invalid segment nowhere
forward_cell-invalid : (phase : TcpPhase) → forward_cell phase Invalid ≡ None
forward_cell-invalid Closed = refl
forward_cell-invalid _ = refl

backward_cell-invalid : (phase : TcpPhase) → backward_cell phase Invalid ≡ None
backward_cell-invalid Closed = refl
backward_cell-invalid _ = refl

pub cell-invalid : (phase : TcpPhase) (way : Way) → cell phase way Invalid ≡ None
cell-invalid phase Forward = forward_cell-invalid phase
cell-invalid phase Backward = backward_cell-invalid phase
cell-invalid phase Port = forward_cell-invalid phase

-- an empty row has a cell for a reset alone
empty_row : (class : SegmentClass) (phase : TcpPhase) → row no no no no class ≡ Some phase → class ≡ Rst
empty_row Rst phase h = refl
empty_row _ phase h = cc

pub closed_cell : (way : Way) (class : SegmentClass) (phase : TcpPhase) → cell Closed way class ≡ Some phase → class ≡ Rst
closed_cell Forward = empty_row
closed_cell _ = empty_row

-- the rows of one way are those of the other, but at the one-sided cells
forward_mirrored : (phase : TcpPhase) (class : SegmentClass) → is_one_sided phase class ≡ false → backward_cell (mirrored_phase phase) class ≡ mirrored_cell (forward_cell phase class)
forward_mirrored = elim [ Closed ↦ elim [ Rst ↦ λ h. cc | _ ↦ λ h. cc ] | _ ↦ elim [ Rst ↦ λ h. cc | _ ↦ λ h. cc ] ]

backward_mirrored : (phase : TcpPhase) (class : SegmentClass) → is_one_sided phase class ≡ false → forward_cell (mirrored_phase phase) class ≡ mirrored_cell (backward_cell phase class)
backward_mirrored = elim [ Closed ↦ elim [ Rst ↦ λ h. cc | _ ↦ λ h. cc ] | _ ↦ elim [ Rst ↦ λ h. cc | _ ↦ λ h. cc ] ]

pub cell-mirrored : (phase : TcpPhase) (class : SegmentClass) → is_one_sided phase class ≡ false → (way : Way) →
    cell (mirrored_phase phase) (opposite_way way) class ≡ mirrored_cell (cell phase way class)
cell-mirrored phase class h Forward = forward_mirrored phase class h
cell-mirrored phase class h Backward = backward_mirrored phase class h
cell-mirrored phase class h Port = forward_mirrored phase class h

pub not_one_sided : (phase : TcpPhase) (class : SegmentClass) → backward_cell (mirrored_phase phase) class ≡ mirrored_cell (forward_cell phase class) → is_one_sided phase class ≡ false
not_one_sided = elim [ Closed ↦ elim [ Rst ↦ λ h. cc | _ ↦ λ h. cc ] | _ ↦ elim [ Rst ↦ λ h. cc | _ ↦ λ h. cc ] ]

pub symmetric_class : (phase : TcpPhase) → is_symmetric phase ≡ true → (class : SegmentClass) → is_one_sided phase class ≡ false
symmetric_class = elim [ Closed ↦ λ h. elim [ Rst ↦ cc | _ ↦ cc ] | _ ↦ λ h. elim [ Rst ↦ cc | _ ↦ cc ] ]

-- each of the four phases of the opening has a one-sided cell at SYN, SYN with ACK or FIN
pub symmetric_phase : (phase : TcpPhase) → is_one_sided phase Syn ≡ false → is_one_sided phase SynAck ≡ false → is_one_sided phase Fin ≡ false → is_symmetric phase ≡ true
symmetric_phase Closed syn syn_ack fin = cc
symmetric_phase _ syn syn_ack fin = cc
