-- What a compiled rule takes for granted: the bytes are those of a packet with these facts, and the
-- coprocessor tells these facts and what the tables have.
use Rattle.std.specs.Prelude.{◌≡◌, ℕ, ◌<◌, ◌^◌, Bool, true, false, List, slice_index, None}
use Rattle.npf_types.specs.declared.address.Addr.{Addr}
use Rattle.npf_types.specs.declared.address.Addr.TheVariants.{V4, V6}
use Rattle.npf_types.specs.declared.facts.Facts.{Facts}
use Rattle.npf_model.specs.Describes.{Tables, table_has}
use Rattle.npf_packet.specs.PacketField.{IsPacketOf, upper_offset}
use Rattle.npf_bpf.specs.declared.insn.Insn.{Insn}
use Rattle.npf_bpf.specs.Coprocessor.{Coprocessor}
use Rattle.npf_bpfgen.specs.Tail.{Guards, Branches}

-- the version of IP that an address belongs to
abbrev pub ip_version : Addr → ℕ
ip_version (V4 _) = 4
ip_version (V6 _) = 6

-- what function 0 tells: the version, where layer 4 begins, and the protocol
abbrev pub header_words : Facts → ℕ × ℕ × ℕ
header_words facts = (ip_version facts.src, upper_offset facts, facts.proto)

-- the coprocessor tells the packet's facts and the tables' lists
pub record Tells (cop : Coprocessor) (tables : Tables) (facts : Facts) : Type 0 where
  pub header : cop.header ≡ header_words facts
  pub source : (table : ℕ) → cop.member table true ≡ table_has tables table facts.src
  pub destination : (table : ℕ) → cop.member table false ≡ table_has tables table facts.dst

abbrev pub AreBytes : List ℕ → Type 0
AreBytes p = (at : ℕ) → slice_index p at < 2 ^ 8

pub record IsSeen (p : List ℕ) (cop : Coprocessor) (tables : Tables) (facts : Facts) : Type 0 where
  pub bytes : AreBytes p
  pub packet : IsPacketOf p facts
  pub told : Tells cop tables facts

-- what stands in front of `old` is a test of the packet
abbrev pub GuardsPacket : (Tables → Facts → Bool) → List Insn → List Insn → Type 0
GuardsPacket test old new =
    (p : List ℕ) (cop : Coprocessor) (tables : Tables) (facts : Facts)
    → IsSeen p cop tables facts → Guards p cop (header_words facts) None (test tables facts) old new

abbrev pub BranchesOnPacket : (Tables → Facts → Bool) → List Insn → List Insn → Type 0
BranchesOnPacket test old new =
    (p : List ℕ) (cop : Coprocessor) (tables : Tables) (facts : Facts)
    → IsSeen p cop tables facts
    → Branches p cop (header_words facts) None (test tables facts) old new
