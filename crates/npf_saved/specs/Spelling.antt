-- How a connection is spelled as a line of a saved file: words parted by spaces, and a word's parts by a mark of its own.
use Rattle.std.specs.Prelude.{ℕ, ◌/◌, ◌%◌, ◌^◌, Bool, true, false, if◌then◌else◌, Option, Some, None, List, [], ◌∷◌, ◌++◌, slice_index, codes}
use Rattle.std.specs.Fmt.{decimal}
use Rattle.std.specs.Int.{Width, w16, w32, w64, to_be_bytes}
use Rattle.hex.specs.Hex.{encode_lower}
use Rattle.npf_types.specs.declared.action.Action.{Action}
use Rattle.npf_types.specs.declared.address.Addr.{Addr}
use Rattle.npf_types.specs.declared.address.Addr.TheVariants.{V4, V6}
use Rattle.npf_types.specs.declared.change.Change.{Change}
use Rattle.npf_types.specs.declared.change.End.{End}
use Rattle.npf_types.specs.declared.key.Key.{Key}
use Rattle.npf_types.specs.declared.name.Name.{Name}
use Rattle.npf_types.specs.Name.{name_bytes}
use Rattle.npf_tcp.specs.declared.state.Known.{Known}
use Rattle.npf_tcp.specs.declared.state.Known.TheVariants as Knowns
use Rattle.npf_tcp.specs.declared.state.TcpPhase.{TcpPhase}
use Rattle.npf_tcp.specs.declared.state.TcpPhase.TheVariants as Phases
use Rattle.npf_tcp.specs.declared.state.TcpSide.{TcpSide}
use Rattle.npf_tcp.specs.declared.state.TcpState.{TcpState}
use Rattle.npf_timeouts.specs.declared.timeouts.Timeouts.{Timeouts}
use Rattle.npf_timeouts.specs.Timeouts.{are_default}
use Rattle.npf_flow.specs.declared.flow.FlowKind.{FlowKind}
use Rattle.npf_flow.specs.declared.flow.FlowKind.TheVariants.{Tcp, Other}
use Rattle.npf_saved.specs.declared.saved.Saved.{Saved}

-- a number of this width in lower-case hexadecimal digits, all of them: 4, 8 or 16
abbrev pub hex_text : Width → ℕ → List ℕ
hex_text width n = encode_lower (to_be_bytes width n)

-- `-` where there is nothing
abbrev pub or_dash : {X : Type 0} → (X → List ℕ) → Option X → List ℕ
or_dash text None = codes "-"
or_dash text (Some x) = text x

abbrev pub bit_text : Bool → List ℕ
bit_text true = codes "1"
bit_text false = codes "0"

-- a key's five numbers, parted by points
abbrev pub key_text : Key → List ℕ
key_text key =
    hex_text w64 (slice_index key.0 0) ++ 46 ∷ (hex_text w64 (slice_index key.0 1) ++ 46 ∷ (hex_text w64 (slice_index key.0 2)
    ++ 46 ∷ (hex_text w64 (slice_index key.0 3) ++ 46 ∷ hex_text w64 (slice_index key.0 4))))

-- an address in 8 or 32 digits
abbrev pub addr_text : Addr → List ℕ
addr_text (V4 address) = hex_text w32 address
addr_text (V6 address) = hex_text w64 (address / 2 ^ 64) ++ hex_text w64 (address % 2 ^ 64)

-- an end, with `+` before its port
abbrev pub end_text : End → List ℕ
end_text one = addr_text one.addr ++ 43 ∷ or_dash (hex_text w16) one.port

-- a change: source, destination, and whether it is neutral, parted by `/`
abbrev pub change_text : Change → List ℕ
change_text change = or_dash end_text change.src ++ 47 ∷ (or_dash end_text change.dst ++ 47 ∷ bit_text change.neutral)

abbrev pub known_number : Known → ℕ
known_number Knowns.Nothing = 0
known_number Knowns.Expected = 1
known_number Knowns.Seen = 2

abbrev pub phase_number : TcpPhase → ℕ
phase_number Phases.Closed = 0
phase_number Phases.SynSent = 1
phase_number Phases.SimsynSent = 2
phase_number Phases.SynReceived = 3
phase_number Phases.Established = 4
phase_number Phases.FinSent = 5
phase_number Phases.FinReceived = 6
phase_number Phases.CloseWait = 7
phase_number Phases.FinWait = 8
phase_number Phases.Closing = 9
phase_number Phases.LastAck = 10
phase_number Phases.TimeWait = 11

-- a side of a connection of TCP, parted by commas
abbrev pub side_text : TcpSide → List ℕ
side_text side =
    decimal (known_number side.known) ++ 44 ∷ (decimal side.end ++ 44 ∷ (decimal side.maxend ++ 44 ∷ (decimal side.maxwin ++ 44 ∷ or_dash decimal side.scale)))

-- the state of a connection of TCP, its forward side first, parted by colons
abbrev pub state_text : TcpState → List ℕ
state_text state =
    codes "t" ++ 58 ∷ (decimal (phase_number state.phase) ++ 58 ∷ (bit_text state.strict ++ 58 ∷ (side_text state.forward ++ 58 ∷ side_text state.backward)))

abbrev pub kind_text : FlowKind → List ℕ
kind_text (Tcp state) = state_text state
kind_text (Other answered) = codes "o" ++ bit_text answered

-- what a rule does to the packets: least TTL, greatest segment, no fragments forbidden, and the interface that they are logged to
abbrev pub action_text : Action → List ℕ
action_text action =
    or_dash decimal action.min_ttl ++ 44 ∷ (or_dash decimal action.max_mss ++ 44 ∷ (bit_text action.no_df ++ 44 ∷ or_dash name_bytes action.log))

-- the seven times in seconds, those of TCP first, parted by spaces
abbrev pub times_text : Timeouts → List ℕ
times_text times =
    decimal times.tcp_new ++ 32 ∷ (decimal times.tcp_established ++ 32 ∷ (decimal times.tcp_half_close ++ 32 ∷ (decimal times.tcp_time_wait
    ++ 32 ∷ (decimal times.tcp_close ++ 32 ∷ (decimal times.other_new ++ 32 ∷ decimal times.other_established)))))

-- what a line ends with: nothing where each time is that which holds without a statement
abbrev pub timeouts_text : Timeouts → List ℕ
timeouts_text times = if are_default times then [] else codes " timeouts " ++ times_text times

-- and what of it stands behind its first space
abbrev pub timeouts_behind : Timeouts → List ℕ
timeouts_behind times = if are_default times then [] else codes "timeouts" ++ 32 ∷ times_text times

-- a connection's line without its line feed: its keys, its flow but for the number of the packet that opened it, its translation, and
-- its timeouts
abbrev pub conn_line : Saved → List ℕ
conn_line saved =
    codes "conn" ++ 32 ∷ (key_text saved.forward ++ 32 ∷ (or_dash key_text saved.port ++ 32 ∷ (or_dash key_text saved.backward
    ++ 32 ∷ (kind_text saved.flow.kind ++ 32 ∷ (decimal saved.flow.last ++ 32 ∷ (change_text saved.flow.there ++ 32 ∷ (change_text saved.flow.back
    ++ 32 ∷ (action_text saved.flow.action ++ timeouts_text saved.flow.timeouts))))))))

-- an interface's line
abbrev pub if_line : Name → List ℕ
if_line name = codes "if" ++ 32 ∷ name_bytes name

-- the first line: what the file is, and the version of its form
abbrev pub head_line : List ℕ
head_line = codes "npf-connections 1"
