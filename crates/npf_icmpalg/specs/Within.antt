-- What is written of an error lies within its record's bytes.
use Rattle.std.specs.Prelude.{◌≡◌, ℕ, ◌+◌, ◌≤◌, List, ◌++◌, length, IfSome}
use Rattle.npf_fields.specs.Field.{number16}
use Rattle.npf_packet.specs.Field.{icmp_checksum}
use Rattle.npf_rewrite.specs.declared.word.WordAt.{WordAt}
use Rattle.npf_rewrite.specs.Sum.{sum_after}
use Rattle.npf_rewrite.specs.Word.{AllWithin, word, word_list}
use Rattle.npf_icmpalg.specs.declared.error.Inner.{Inner}
use Rattle.npf_icmpalg.specs.declared.error_translated.QuotedEnds.{QuotedEnds}
use Rattle.npf_icmpalg.specs.declared.error_translated.QuotedSums.{QuotedSums}
use Rattle.npf_icmpalg.specs.declared.header.HeaderEnds.{HeaderEnds}
use Rattle.npf_icmpalg.specs.ErrorTranslated.{counted_outer, quoted_header_sum, quoted_sum}
use Rattle.npf_icmpalg.specs.Header.{HeaderWithin, header_addresses}

-- the ports, or the identifier, that are written in what is quoted
abbrev pub port_words : QuotedEnds → List WordAt
port_words quoted = word_list quoted.source ++ word_list quoted.destination

-- what is written in what is quoted lies within `size` bytes
pub record QuotedWithin (size : ℕ) (quoted : QuotedEnds) : Type 0 where
  pub header : HeaderWithin size quoted.header
  pub source : AllWithin size (word_list quoted.source)
  pub destination : AllWithin size (word_list quoted.destination)

-- and so do the outer header and the sums of the error and of what it quotes
pub record ErrorWithin (size l4_at : ℕ) (inner : Inner) (outer : HeaderEnds) (quoted : QuotedEnds) : Type 0 where
  pub outer_room : HeaderWithin size outer
  pub quoted_room : QuotedWithin size quoted
  pub quoted_sum_room : IfSome inner.sum_at (λ at. at + 2 ≤ size)
  pub error_room : l4_at + 8 ≤ size

-- the sums of what is quoted lie within `size` bytes
pub record SumsWithin (size : ℕ) (sums : QuotedSums) : Type 0 where
  pub header : AllWithin size (word_list sums.header)
  pub upper : AllWithin size (word_list sums.upper)

-- these are the sums of what is quoted
pub record AreQuotedSums (bytes : List ℕ) (inner : Inner) (quoted : QuotedEnds) (sums : QuotedSums) : Type 0 where
  pub header : sums.header ≡ quoted_header_sum bytes quoted.header (port_words quoted)
  pub upper : sums.upper ≡ quoted_sum bytes quoted.header (port_words quoted) inner.proto inner.sum_at
  pub within : SumsWithin (length bytes) sums

-- the error's sum by the words that are written
abbrev pub told_error_sum : List ℕ → ℕ → HeaderEnds → QuotedEnds → QuotedSums → WordAt
told_error_sum bytes l4_at outer quoted sums =
    let at = l4_at + icmp_checksum in
    word at (sum_after 0 bytes (counted_outer outer.family outer ++ (header_addresses quoted.header ++ port_words quoted
    ++ word_list sums.header ++ word_list sums.upper)) (number16 bytes at))
