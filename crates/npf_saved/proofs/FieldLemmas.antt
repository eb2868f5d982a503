-- What the texts of a line's words lack: the marks by which the line, and the word that they stand in, are parted.
use Rattle.std.proofs.Common.{◌≡◌, ◌<◌, ◌/◌, ◌%◌, ◌^◌, ◌==◌, ◌≤◌, ◌&&◌, ℕ, Bool, true, false, not, Option, Some, None, IfSome, List, [], ◌∷◌, ◌++◌, slice_index, refl, sym, ap, ◌∙◌, arith, lit≤}
use Rattle.std.{specs.{Fmt.decimal, Int.{w16, w32, w64}, List.list_all, Char.digit_value}, proofs.lemmas.{Bool.and_parts, List.Folds.list_all-append}}
use Rattle.hex.specs.Hex.{is_hex_digit}
use Rattle.npf_types.specs.declared.{action.Action.Action, address.Addr.{Addr, TheVariants.{V4, V6}}, change.{Change.Change, End.End}, key.Key.Key, name.Name.Name}
use Rattle.npf_types.specs.{Name.name_bytes, NameText.is_name_byte}
use Rattle.npf_tcp.specs.declared.state.{Known.Known, TcpPhase.TcpPhase, TcpSide.TcpSide, TcpState.TcpState}
use Rattle.npf_tcp.specs.declared.state.Known.TheVariants as Knowns
use Rattle.npf_tcp.specs.declared.state.TcpPhase.TheVariants as Phases
use Rattle.npf_flow.specs.declared.flow.FlowKind.{FlowKind, TheVariants.{Tcp, Other}}
use Rattle.npf_saved.specs.Fields.{FitsAction, FitsAddrText, FitsChange, FitsEnd, FitsKeyText, FitsKind, FitsName, FitsSide}
use Rattle.npf_saved.specs.Spelling.{action_text, addr_text, bit_text, change_text, end_text, hex_text, key_text, kind_text, known_number, or_dash, phase_number, side_text, state_text}
use Rattle.npf_saved.proofs.{CutLemmas.{lacks, lacks_both}, WordLemmas.{bit_lacks, decimal_lacks, lacks_by, number_lacks, or_dash_lacks}}

-- the numbers of phases and of what is known are short
pub known_small : (known : Known) → known_number known < 2 ^ 64
known_small Knowns.Nothing = omega arith
known_small Knowns.Expected = omega arith
known_small Knowns.Seen = omega arith

pub phase_small : (phase : TcpPhase) → phase_number phase < 2 ^ 64
phase_small Phases.Closed = omega arith
phase_small Phases.SynSent = omega arith
phase_small Phases.SimsynSent = omega arith
phase_small Phases.SynReceived = omega arith
phase_small Phases.Established = omega arith
phase_small Phases.FinSent = omega arith
phase_small Phases.FinReceived = omega arith
phase_small Phases.CloseWait = omega arith
phase_small Phases.FinWait = omega arith
phase_small Phases.Closing = omega arith
phase_small Phases.LastAck = omega arith
phase_small Phases.TimeWait = omega arith

-- a mark that no hexadecimal digit is
module _ (mark : ℕ) (foreign : is_hex_digit mark ≡ false) where
  pub key_lacks : (key : Key) → not (46 == mark) ≡ true → lacks mark (key_text key) ≡ true
  key_lacks key point =
      let word = λ (i : ℕ). number_lacks w64 mark (slice_index key.0 i) foreign in
      lacks_both mark 46 _ _ (word 0) point (lacks_both mark 46 _ _ (word 1) point (lacks_both mark 46 _ _ (word 2) point (lacks_both mark 46 _ _ (word 3) point (word 4))))

  pub addr_lacks : (addr : Addr) → lacks mark (addr_text addr) ≡ true
  addr_lacks (V4 address) = number_lacks w32 mark address foreign
  addr_lacks (V6 address) =
      list_all-append (λ byte. not (byte == mark)) (hex_text w64 (address / 2 ^ 64)) (hex_text w64 (address % 2 ^ 64))
      ∙ rw (number_lacks w64 mark (address / 2 ^ 64) foreign, number_lacks w64 mark (address % 2 ^ 64) foreign) refl

  pub port_lacks : (port : Option ℕ) → not (45 == mark) ≡ true → lacks mark (or_dash (hex_text w16) port) ≡ true
  port_lacks None dash = rw dash refl
  port_lacks (Some port) dash = number_lacks w16 mark port foreign

  pub end_lacks : (one : Option End) → not (45 == mark) ≡ true → not (43 == mark) ≡ true → lacks mark (or_dash end_text one) ≡ true
  end_lacks None dash plus = rw dash refl
  end_lacks (Some one) dash plus = lacks_both mark 43 (addr_text one.addr) _ (addr_lacks one.addr) plus (port_lacks one.port dash)

  pub optional_key_lacks : (key : Option Key) → not (45 == mark) ≡ true → not (46 == mark) ≡ true → lacks mark (or_dash key_text key) ≡ true
  optional_key_lacks None dash point = rw dash refl
  optional_key_lacks (Some key) dash point = key_lacks key point

-- no space stands in a change
pub change_is_word : (change : Change) → lacks 32 (change_text change) ≡ true
change_is_word change =
    lacks_both 32 47 (or_dash end_text change.src) _ (end_lacks 32 refl change.src refl refl) refl
    (lacks_both 32 47 (or_dash end_text change.dst) _ (end_lacks 32 refl change.dst refl refl) refl (bit_lacks 32 refl refl change.neutral))

pub wider : (n : ℕ) → n < 2 ^ 32 → n < 2 ^ 64
wider n fits = omega (arith, fits)

pub byte_lacks : (mark : ℕ) → 10 ≤ digit_value mark → not (45 == mark) ≡ true → (given : Option ℕ) → IfSome given (λ n. n < 2 ^ 8)
    → lacks mark (or_dash decimal given) ≡ true
byte_lacks mark foreign dash None fits = rw dash refl
byte_lacks mark foreign dash (Some n) fits = decimal_lacks mark n (omega (arith, fits)) foreign

pub size_lacks : (mark : ℕ) → 10 ≤ digit_value mark → not (45 == mark) ≡ true → (given : Option ℕ) → IfSome given (λ n. n < 2 ^ 16)
    → lacks mark (or_dash decimal given) ≡ true
size_lacks mark foreign dash None fits = rw dash refl
size_lacks mark foreign dash (Some n) fits = decimal_lacks mark n (omega (arith, fits)) foreign

-- no mark stands in a name but those that are bytes of names
pub name_lacks : (mark : ℕ) → is_name_byte mark ≡ false → (name : Name) → lacks mark (name_bytes name) ≡ true
name_lacks mark foreign name = lacks_by is_name_byte mark foreign (name_bytes name) (and_parts _ (list_all is_name_byte (name_bytes name)) name.named).1

-- the parts of a side lack the marks behind which they stand
pub side_lacks : (mark : ℕ) → 10 ≤ digit_value mark → not (44 == mark) ≡ true → not (45 == mark) ≡ true → (side : TcpSide) → FitsSide side
    → lacks mark (side_text side) ≡ true
side_lacks mark foreign comma dash side fits =
    lacks_both mark 44 _ _ (decimal_lacks mark (known_number side.known) (known_small side.known) foreign) comma
    (lacks_both mark 44 _ _ (decimal_lacks mark side.end (wider side.end fits.end) foreign) comma
    (lacks_both mark 44 _ _ (decimal_lacks mark side.maxend (wider side.maxend fits.maxend) foreign) comma
    (lacks_both mark 44 _ _ (decimal_lacks mark side.maxwin (wider side.maxwin fits.maxwin) foreign) comma
    (byte_lacks mark foreign dash side.scale fits.scale))))

-- the parts of an action lack every mark that stands in no name and no number, but for its own
pub action_lacks : (mark : ℕ) → 10 ≤ digit_value mark → is_name_byte mark ≡ false → not (44 == mark) ≡ true → not (45 == mark) ≡ true → not (48 == mark) ≡ true
    → not (49 == mark) ≡ true → (action : Action) → FitsAction action → lacks mark (action_text action) ≡ true
action_lacks mark foreign nameless comma dash zero one action fits =
    let log = or_dash name_bytes action.log in
    let flag = bit_text action.no_df in
    let size = or_dash decimal action.max_mss in
    let logged = or_dash_lacks FitsName name_bytes mark dash (λ name _. name_lacks mark nameless name) action.log fits.log in
    let flagged = lacks_both mark 44 flag log (bit_lacks mark zero one action.no_df) comma logged in
    let sized = lacks_both mark 44 size (flag ++ 44 ∷ log) (size_lacks mark foreign dash action.max_mss fits.max_mss) comma flagged in
    lacks_both mark 44 (or_dash decimal action.min_ttl) (size ++ 44 ∷ (flag ++ 44 ∷ log)) (byte_lacks mark foreign dash action.min_ttl fits.min_ttl) comma sized

-- no space stands in a kind
pub kind_is_word : (kind : FlowKind) → FitsKind kind → lacks 32 (kind_text kind) ≡ true
kind_is_word (Tcp state) fits =
    let phase = decimal (phase_number state.phase) in
    let strict = bit_text state.strict in
    let forward = side_text state.forward in
    let backward = side_text state.backward in
    let sides = lacks_both 32 58 forward backward (side_lacks 32 (lit≤ tt) refl refl state.forward fits.0) refl (side_lacks 32 (lit≤ tt) refl refl state.backward fits.1) in
    let flags = lacks_both 32 58 strict (forward ++ 58 ∷ backward) (bit_lacks 32 refl refl state.strict) refl sides in
    let phases = lacks_both 32 58 phase (strict ++ 58 ∷ (forward ++ 58 ∷ backward)) (decimal_lacks 32 (phase_number state.phase) (phase_small state.phase) (lit≤ tt)) refl flags in
    lacks_both 32 58 (116 ∷ []) (phase ++ 58 ∷ (strict ++ 58 ∷ (forward ++ 58 ∷ backward))) refl refl phases
kind_is_word (Other true) fits = refl
kind_is_word (Other false) fits = refl
