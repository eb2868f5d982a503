-- The instructions that compiled rules are made of, by what they do (bpf(4)).
use Rattle.std.specs.Prelude.{ℕ, ◌+◌, ◌-◌, ◌/◌, ◌%◌, ◌^◌, List, ◌∷◌, min}
use Rattle.npf_types.specs.Address.{first_bits}
use Rattle.npf_bpf.specs.declared.insn.Insn.{Insn}
use Rattle.npf_bpf.specs.declared.operation.Arithmetic.{Arithmetic}
use Rattle.npf_bpf.specs.declared.operation.Arithmetic.TheVariants.{And, ShiftRight}
use Rattle.npf_bpf.specs.declared.operation.Comparison.{Comparison}
use Rattle.npf_bpf.specs.declared.operation.Comparison.TheVariants.{Equal, Greater, GreaterOrEqual}
use Rattle.npf_bpf.specs.declared.operation.Operand.TheVariants.{Constant}
use Rattle.npf_bpf.specs.declared.operation.Operation.{Operation}
use Rattle.npf_bpf.specs.declared.operation.Operation.TheVariants.{LoadAbsolute, LoadIndirect, LoadConstant, LoadMemory, LoadIndexMemory, Calculate, Jump, JumpIf, ReturnConstant, AskHeader, AskMember}
use Rattle.npf_bpf.specs.declared.operation.Width.TheVariants.{Word, Half, Byte}
use Rattle.npf_bpf.specs.Table.{insn_of}

-- A is calculated, or compared, with a number
abbrev pub calculation : Arithmetic → ℕ → Operation
calculation kind number = Calculate kind (Constant number)

abbrev pub comparison : Comparison → ℕ → ℕ → ℕ → Operation
comparison kind number on_true on_false = JumpIf kind (Constant number) (record { on_true = on_true; on_false = on_false })

-- A <- P[at:4]
abbrev pub load_word : ℕ → Insn
load_word at = insn_of (LoadAbsolute Word at)

-- A <- P[X+at:2], A <- P[X+at:1]
abbrev pub load_half_behind : ℕ → Insn
load_half_behind at = insn_of (LoadIndirect Half at)

abbrev pub load_byte_behind : ℕ → Insn
load_byte_behind at = insn_of (LoadIndirect Byte at)

-- A <- number
abbrev pub load_constant : ℕ → Insn
load_constant number = insn_of (LoadConstant number)

-- A <- M[place], X <- M[place]
abbrev pub load_memory : ℕ → Insn
load_memory place = insn_of (LoadMemory place)

abbrev pub load_index : ℕ → Insn
load_index place = insn_of (LoadIndexMemory place)

-- A <- A & mask, A <- A >> bits
abbrev pub mask_with : ℕ → Insn
mask_with mask = insn_of (calculation And mask)

abbrev pub shift_right : ℕ → Insn
shift_right bits = insn_of (calculation ShiftRight bits)

-- pc += distance
abbrev pub jump : ℕ → Insn
jump distance = insn_of (Jump distance)

-- pc += (A == number) ? on_true : on_false, and the same for > and >=
abbrev pub if_equal : ℕ → ℕ → ℕ → Insn
if_equal number on_true on_false = insn_of (comparison Equal number on_true on_false)

abbrev pub if_greater : ℕ → ℕ → ℕ → Insn
if_greater number on_true on_false = insn_of (comparison Greater number on_true on_false)

abbrev pub if_at_least : ℕ → ℕ → ℕ → Insn
if_at_least number on_true on_false = insn_of (comparison GreaterOrEqual number on_true on_false)

-- return the number
abbrev pub return_number : ℕ → Insn
return_number number = insn_of (ReturnConstant number)

-- the coprocessor's functions 0 and 1
abbrev pub ask_header : Insn
ask_header = insn_of AskHeader

abbrev pub ask_member : Insn
ask_member = insn_of AskMember

-- in front of `old`: on to it where the word at a place has these first bits, or else as far as `far`
-- says
abbrev pub first_bits_of_word : ℕ → ℕ → ℕ → ℕ → List Insn → List Insn
first_bits_of_word at bits word far old =
    load_word at ∷ shift_right (32 - bits) ∷ if_equal (first_bits 32 bits word) 0 far ∷ old

-- the same of the two words of a half, each by those of the first bits that lie in it
abbrev pub first_bits_of_half : ℕ → ℕ → ℕ → ℕ → List Insn → List Insn
first_bits_of_half at bits half far old =
    first_bits_of_word at (min bits 32) (half / 2 ^ 32) (far + 3)
    (first_bits_of_word (at + 4) (bits - 32) (half % 2 ^ 32) far old)

-- in front of `old`: on to it where the packet is of ICMP in IPv4, or of ICMPv6 in IPv6 (RFC 792, RFC 4443), and 0 is returned
-- otherwise. M[0] has the version, and M[2] the protocol.
abbrev pub if_version_4 : List Insn → List Insn
if_version_4 old = load_memory 0 ∷ if_equal 4 1 0 ∷ return_number 0 ∷ old

abbrev pub if_version_6 : List Insn → List Insn
if_version_6 old = load_memory 0 ∷ if_equal 6 4 3 ∷ if_equal 1 0 2 ∷ if_version_4 old

abbrev pub if_message : List Insn → List Insn
if_message old = load_memory 2 ∷ if_equal 58 0 2 ∷ if_version_6 old
