-- The numbers that a program loads from a packet, which begins at its IP header.
use Rattle.std.specs.Prelude.{ℕ, ◌+◌, ◌*◌, ◌%◌, List, length, slice_index, Option, Some, None, option_map, if◌then◌else◌, nat_le}
use Rattle.npf_fields.specs.Field.{number16, number32}
use Rattle.npf_bpf.specs.declared.operation.Width.{Width}
use Rattle.npf_bpf.specs.declared.operation.Width.TheVariants.{Word, Half, Byte}

-- how many bytes a number has
abbrev pub size_of : Width → ℕ
size_of Word = 4
size_of Half = 2
size_of Byte = 1

-- the number at an offset, most significant byte first
abbrev pub loaded_number : Width → List ℕ → ℕ → ℕ
loaded_number Word packet at = number32 packet at
loaded_number Half packet at = number16 packet at
loaded_number Byte packet at = slice_index packet at

-- that number, or none where it isn't all in the packet
abbrev pub loaded : List ℕ → Width → ℕ → Option ℕ
loaded packet width at =
    if nat_le (at + size_of width) (length packet) then Some (loaded_number width packet at) else
    None

-- the length of the IPv4 header at an offset: four times its first byte's low half
abbrev pub header_length_at : List ℕ → ℕ → Option ℕ
header_length_at packet at = option_map (λ first. 4 * (first % 16)) (loaded packet Byte at)
