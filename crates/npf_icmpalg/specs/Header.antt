-- The addresses that are written in an IP header.
use Rattle.std.specs.Prelude.{ℕ, ◌+◌, ◌≤◌, List, ◌++◌}
use Rattle.npf_packet.specs.Place.{least_ip_header}
use Rattle.npf_rewrite.specs.declared.word.WordAt.{WordAt}
use Rattle.npf_rewrite.specs.Address.{end_words}
use Rattle.npf_rewrite.specs.Translated.{destination_at, source_at}
use Rattle.npf_rewrite.specs.Word.{AllWithin}
use Rattle.npf_icmpalg.specs.declared.header.HeaderEnds.{HeaderEnds}

-- the words of the addresses that are named
abbrev pub header_addresses : HeaderEnds → List WordAt
header_addresses header =
    end_words (source_at header.ip_at header.family) header.src
    ++ end_words (destination_at header.ip_at header.family) header.dst

-- the header and what is named of it lie within `size` bytes
pub record HeaderWithin (size : ℕ) (header : HeaderEnds) : Type 0 where
  pub room : header.ip_at + least_ip_header header.family ≤ size
  pub src : AllWithin size (end_words (source_at header.ip_at header.family) header.src)
  pub dst : AllWithin size (end_words (destination_at header.ip_at header.family) header.dst)
