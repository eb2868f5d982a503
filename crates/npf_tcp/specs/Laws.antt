use Rattle.std.specs.Prelude.{◌≡◌, ◌≢◌, ◌↔◌, ◌<◌, ◌≤◌, ◌^◌, ℕ, Bool, true, false}
use Rattle.npf_types.specs.declared.key.Way.{Way}
use Rattle.npf_types.specs.declared.facts.Segment.{Segment}
use Rattle.npf_tcp.specs.declared.class.SegmentClass.{SegmentClass}
use Rattle.npf_tcp.specs.declared.class.SegmentClass.TheVariants.{Rst, Invalid}
use Rattle.npf_tcp.specs.declared.state.Known.TheVariants.{Nothing, Seen}
use Rattle.npf_tcp.specs.declared.state.TcpPhase.{TcpPhase}
use Rattle.npf_tcp.specs.declared.state.TcpPhase.TheVariants.{Closed}
use Rattle.npf_tcp.specs.declared.state.TcpSide.{TcpSide}
use Rattle.npf_tcp.specs.declared.state.TcpState.{TcpState}
use Rattle.npf_tcp.specs.Window.{is_in_bounds}
use Rattle.npf_tcp.specs.Cell.{cell}
use Rattle.npf_tcp.specs.Class.{segment_class}
use Rattle.npf_tcp.specs.Mirror.{mirrored_state, mirrored_phase, mirrored_cell, opposite_way, is_one_sided, is_symmetric}
use Rattle.npf_tcp.specs.Opening.{opening_state}
use Rattle.npf_tcp.specs.Segment.{segment_step, sender_of, receiver_of}
use Rattle.npf_tcp.specs.Sequence.{plus, minus, is_at_or_before}

-- the two parts of the answer
abbrev pub next_state : TcpState → Way → Segment → TcpState
next_state state way seg = (segment_step state way seg).0

abbrev pub is_accepted : TcpState → Way → Segment → Bool
is_accepted state way seg = (segment_step state way seg).1

-- a fact of each side
abbrev pub BothSides : (TcpSide → Type 0) → TcpState → Type 0
BothSides P state = P state.forward × P state.backward

-- a fact of each side before and after
abbrev pub EachSide : (TcpSide → TcpSide → Type 0) → TcpState → TcpState → Type 0
EachSide P old new = P old.forward new.forward × P old.backward new.backward

abbrev pub RefusedChangesNothing : Type 0
RefusedChangesNothing =
    (state : TcpState) (way : Way) (seg : Segment) → is_accepted state way seg ≡ false → next_state state way seg ≡ state

-- an accepted reset leads to CLOSED from every phase
abbrev pub ResetCloses : Type 0
ResetCloses =
    (state : TcpState) (way : Way) (seg : Segment) → segment_class seg.flags ≡ Rst →
    is_accepted state way seg ≡ true → (next_state state way seg).phase ≡ Closed

-- and no phase refuses one: only the bounds do, and among them the one on resets where the connection is strict
abbrev pub ResetIsBounded : Type 0
ResetIsBounded =
    (state : TcpState) (way : Way) (seg : Segment) → segment_class seg.flags ≡ Rst →
    is_accepted state way seg ≡ is_in_bounds state.strict (sender_of state way) (receiver_of state way) seg

-- So a strict connection takes a reset from a side of which something is known only at the end of what that side sent, or one byte
-- before it.
abbrev pub StrictResetIsInOrder : Type 0
StrictResetIsInOrder =
    (state : TcpState) (way : Way) (seg : Segment) → state.strict ≡ true → segment_class seg.flags ≡ Rst →
    (sender_of state way).known ≢ Nothing → is_accepted state way seg ≡ true → minus (sender_of state way).end seg.seq ≤ 1

-- no segment makes a connection strict that isn't, or less strict
abbrev pub StrictStays : Type 0
StrictStays = (state : TcpState) (way : Way) (seg : Segment) → (next_state state way seg).strict ≡ state.strict

abbrev pub ClosedTakesOnlyReset : Type 0
ClosedTakesOnlyReset =
    (state : TcpState) (way : Way) (seg : Segment) → state.phase ≡ Closed →
    is_accepted state way seg ≡ true → segment_class seg.flags ≡ Rst

abbrev pub InvalidIsRefused : Type 0
InvalidIsRefused =
    (state : TcpState) (way : Way) (seg : Segment) → segment_class seg.flags ≡ Invalid → is_accepted state way seg ≡ false

-- a side that is seen stays seen
abbrev pub StaysSeen : TcpSide → TcpSide → Type 0
StaysSeen old new = old.known ≡ Seen → new.known ≡ Seen

abbrev pub SeenStaysSeen : Type 0
SeenStaysSeen =
    (state : TcpState) (way : Way) (seg : Segment) → EachSide StaysSeen state (next_state state way seg)

-- the greatest window of a side that is seen doesn't fall
abbrev pub KeepsMaxwin : TcpSide → TcpSide → Type 0
KeepsMaxwin old new = old.known ≡ Seen → old.maxwin ≤ new.maxwin

abbrev pub SeenMaxwinNeverFalls : Type 0
SeenMaxwinNeverFalls =
    (state : TcpState) (way : Way) (seg : Segment) → EachSide KeepsMaxwin state (next_state state way seg)

-- a side that isn't seen offered no window
abbrev pub IsQuietUnseen : TcpSide → Type 0
IsQuietUnseen side = side.known ≢ Seen → side.maxwin ≡ 0

-- So it is from the opening on, and then no side's greatest window ever falls. Of a side that isn't seen and has one,
-- as no connection's has, it may fall: its first segment sets it.
abbrev pub OpeningIsQuiet : Type 0
OpeningIsQuiet = (seg : Segment) (strict : Bool) → BothSides IsQuietUnseen (opening_state seg strict)

abbrev pub StepKeepsQuiet : Type 0
StepKeepsQuiet =
    (state : TcpState) (way : Way) (seg : Segment) → BothSides IsQuietUnseen state →
    BothSides IsQuietUnseen (next_state state way seg)

abbrev pub MaxwinNeverFalls : Type 0
MaxwinNeverFalls =
    (state : TcpState) (way : Way) (seg : Segment) → BothSides IsQuietUnseen state →
    EachSide (λ old new. old.maxwin ≤ new.maxwin) state (next_state state way seg)

-- the table is symmetric exactly at the cells that aren't one-sided
abbrev pub OneSidedExactly : Type 0
OneSidedExactly =
    (phase : TcpPhase) (class : SegmentClass) →
    (is_one_sided phase class ≡ false)
    ↔ ((way : Way) → cell (mirrored_phase phase) (opposite_way way) class ≡ mirrored_cell (cell phase way class))

-- the symmetric phases are those with no one-sided cell
abbrev pub SymmetricExactly : Type 0
SymmetricExactly =
    (phase : TcpPhase) → (is_symmetric phase ≡ true) ↔ ((class : SegmentClass) → is_one_sided phase class ≡ false)

-- in a symmetric phase, exchanging the sides and the way exchanges the answer
abbrev pub SidesExchange : Type 0
SidesExchange =
    (state : TcpState) (way : Way) (seg : Segment) → is_symmetric state.phase ≡ true →
    (next_state (mirrored_state state) (opposite_way way) seg ≡ mirrored_state (next_state state way seg))
    × (is_accepted (mirrored_state state) (opposite_way way) seg ≡ is_accepted state way seg)

-- and so it does in each phase for the classes at which the table is symmetric
abbrev pub ClassesExchange : Type 0
ClassesExchange =
    (state : TcpState) (way : Way) (seg : Segment) → is_one_sided state.phase (segment_class seg.flags) ≡ false →
    (next_state (mirrored_state state) (opposite_way way) seg ≡ mirrored_state (next_state state way seg))
    × (is_accepted (mirrored_state state) (opposite_way way) seg ≡ is_accepted state way seg)

-- x <= y exactly where fewer than 2^31 bytes after x comes y
abbrev pub OrderIsByDistance : Type 0
OrderIsByDistance =
    (x y : ℕ) → x < 2 ^ 32 → y < 2 ^ 32 →
    (is_at_or_before x y ≡ true) ↔ ((bytes : ℕ) × (bytes < 2 ^ 31) × (plus x bytes ≡ y))

-- x less n is the number to which n is added to give x
abbrev pub LessIsInverse : Type 0
LessIsInverse =
    (x n : ℕ) → x < 2 ^ 32 → n < 2 ^ 32 → plus (minus x n) n ≡ x
