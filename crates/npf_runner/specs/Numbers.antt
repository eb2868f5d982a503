-- The numbers of a worker's packets.
use Rattle.std.specs.Prelude.{ℕ, ◌<◌, ◌+◌, ◌^◌, List, length, slice_index}
use Rattle.std.specs.List.{range_with_len}
use Rattle.npf_runner.specs.declared.numbers.Numbers.{Numbers}
use Rattle.npf_runner.specs.declared.numbers.Numbers.TheVariants.{From, Listed}

-- the numbers of so many packets
abbrev pub packet_numbers : Numbers → ℕ → List ℕ
packet_numbers (From first) packets = range_with_len first packets
packet_numbers (Listed numbers) packets = numbers.items

-- the number of the packet at a place
abbrev pub packet_number : Numbers → ℕ → ℕ
packet_number (From first) place = first + place
packet_number (Listed numbers) place = slice_index numbers.items place

-- the packet at the place has a number
abbrev pub IsNumberedAt : Numbers → ℕ → Type 0
IsNumberedAt (From first) place = first + place < 2 ^ 64
IsNumberedAt (Listed numbers) place = place < length numbers.items
