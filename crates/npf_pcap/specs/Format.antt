-- The two things that a capture's magic number tells: in which order the bytes of its numbers stand, and what its
-- fractions of a second count (pcap-savefile(5)).
use Rattle.std.specs.Prelude.{ℕ, ◌*◌, min, List, drop}
use Rattle.byteorder.specs.Endian.{big_number, little_number}
use Rattle.npf_types.specs.declared.link.Link.{Link}
use Rattle.npf_types.specs.declared.link.Link.TheVariants.{Ethernet, Raw}
use Rattle.npf_pcap.specs.declared.format.Endianness.{Endianness}
use Rattle.npf_pcap.specs.declared.format.Endianness.TheVariants.{Big, Little}
use Rattle.npf_pcap.specs.declared.format.Precision.{Precision}
use Rattle.npf_pcap.specs.declared.format.Precision.TheVariants.{Micro, Nano}

-- the number of `size` bytes at a place
abbrev pub number_at : Endianness → ℕ → List ℕ → ℕ → ℕ
number_at Big size bytes at = big_number size (drop at bytes)
number_at Little size bytes at = little_number size (drop at bytes)

-- the magic number, as it reads with the highest byte first: 0xa1b2c3d4 or 0xa1b23c4d, or its bytes turned round
abbrev pub magic_of : Endianness → Precision → ℕ
magic_of Big Micro = 0xa1b2c3d4
magic_of Big Nano = 0xa1b23c4d
magic_of Little Micro = 0xd4c3b2a1
magic_of Little Nano = 0x4d3cb2a1

-- the nanoseconds in a fraction of a second; one of a second or more counts as the greatest below it
abbrev pub nanoseconds : Precision → ℕ → ℕ
nanoseconds Micro fraction = min fraction 999999 * 1000
nanoseconds Nano fraction = min fraction 999999999

-- the number of a link type (LINKTYPE_ETHERNET, LINKTYPE_RAW)
abbrev pub link_number : Link → ℕ
link_number Ethernet = 1
link_number Raw = 101
