-- What a translation writes in an error of ICMP or ICMPv6 and in what that quotes (RFC 5508 section
-- 4, RFC 3022 section 4.3). The quoted packet went the other way, so its source is the change's
-- destination.
use Rattle.std.specs.Prelude.{ℕ, ◌+◌, ◌==◌, if◌then◌else◌, Option, Some, None, List, [], ◌∷◌, ◌++◌}
use Rattle.std.specs.Option.{option_or}
use Rattle.npf_types.specs.declared.address.Addr.{Addr}
use Rattle.npf_types.specs.declared.address.Addr.TheVariants.{V4, V6}
use Rattle.npf_types.specs.declared.action.Action.{Action}
use Rattle.npf_types.specs.declared.change.Change.{Change}
use Rattle.npf_types.specs.declared.change.End.{End}
use Rattle.npf_types.specs.declared.facts.Facts.{Facts}
use Rattle.npf_fields.specs.Field.{number16}
use Rattle.npf_key.specs.Translated.{fitting, named_port}
use Rattle.npf_packet.specs.Field.{l4_source_port, l4_destination_port, icmp_checksum, icmp_identifier}
use Rattle.npf_rewrite.specs.declared.word.WordAt.{WordAt}
use Rattle.npf_rewrite.specs.Normalised.{Normalised}
use Rattle.npf_rewrite.specs.Sum.{sum_after}
use Rattle.npf_rewrite.specs.Translated.{header_sum}
use Rattle.npf_rewrite.specs.Word.{Rewrites, named_word, word, word_list}
use Rattle.npf_icmpalg.specs.declared.error.Inner.{Inner}
use Rattle.npf_icmpalg.specs.declared.header.HeaderEnds.{HeaderEnds}
use Rattle.npf_icmpalg.specs.Error.{error_in}
use Rattle.npf_icmpalg.specs.Header.{header_addresses}
use Rattle.npf_icmpalg.specs.Quoted.{is_tcp_or_udp, is_same_address}

module _ (facts : Facts) (inner : Inner) (change : Change) where
  -- The change's source is the outer one too where the error comes from the host to which the
  -- quoted packet went; a router on the way keeps its address.
  abbrev pub outer_source : Option End
  outer_source = if is_same_address facts.src inner.dst then fitting facts.src change.src else None

  -- what the outer header gets, of ends of the packet's family
  abbrev pub outer_ends : HeaderEnds
  outer_ends = record {
    family = facts.src;
    ip_at = facts.ip_at;
    src = outer_source;
    dst = fitting facts.src change.dst;
  }

  -- what the quoted header gets, which went the other way
  abbrev pub quoted_ends : HeaderEnds
  quoted_ends = record {
    family = facts.src;
    ip_at = inner.ip_at;
    src = fitting facts.src change.dst;
    dst = fitting facts.src change.src;
  }

-- The ports of what is quoted: a quoted source is named by the change's destination. An echo has
-- its identifier for both, which either end names, and the change's source where both do.
module _ (inner : Inner) (quoted : HeaderEnds) where
  abbrev pub quoted_source_write : Option WordAt
  quoted_source_write =
      if is_tcp_or_udp inner.proto
      then named_word (inner.l4_at + l4_source_port) (named_port quoted.src)
      else named_word (inner.l4_at + icmp_identifier) (option_or (named_port quoted.dst) (named_port quoted.src))

  abbrev pub quoted_destination_write : Option WordAt
  quoted_destination_write =
      if is_tcp_or_udp inner.proto
      then named_word (inner.l4_at + l4_destination_port) (named_port quoted.dst)
      else None

  abbrev pub quoted_ports : List WordAt
  quoted_ports = word_list quoted_source_write ++ word_list quoted_destination_write

-- the sum of ICMPv6 counts the outer addresses besides, and that of ICMP doesn't
abbrev pub counted_outer : Addr → HeaderEnds → List WordAt
counted_outer (V4 _) outer = []
counted_outer (V6 _) outer = header_addresses outer

module _ (bytes : List ℕ) (quoted : HeaderEnds) (ports : List WordAt) where
  -- A quoted sum once the addresses of the quoted header and these ports are written, by the
  -- header's family and its protocol: that of ICMP doesn't count the addresses, and in UDP over
  -- IPv4 a sum of 0 says that there is none, and stays.
  abbrev pub quoted_sum_after : Addr → ℕ → ℕ → ℕ
  quoted_sum_after (V4 _) proto sum =
      if proto == 6 then sum_after 0 bytes (header_addresses quoted ++ ports) sum
      else (if proto == 17
      then (if sum == 0 then 0 else sum_after 0xffff bytes (header_addresses quoted ++ ports) sum)
      else sum_after 0 bytes ports sum)
  quoted_sum_after (V6 _) proto sum =
      if proto == 17 then sum_after 0xffff bytes (header_addresses quoted ++ ports) sum
      else sum_after 0 bytes (header_addresses quoted ++ ports) sum

  -- the quoted sum, where it is quoted whole
  abbrev pub quoted_sum : ℕ → Option ℕ → Option WordAt
  quoted_sum proto (Some at) = Some (word at (quoted_sum_after quoted.family proto (number16 bytes at)))
  quoted_sum proto None = None

  abbrev pub quoted_header_sum : Option WordAt
  quoted_header_sum = header_sum bytes quoted.ip_at quoted.family (header_addresses quoted)

  -- what is written behind the sum of the error itself, whose payload is what is quoted
  abbrev pub behind_sum : Inner → List WordAt
  behind_sum inner =
      header_addresses quoted ++ ports ++ word_list quoted_header_sum
      ++ word_list (quoted_sum inner.proto inner.sum_at)

  -- the sum of an error that begins here, once all is written that it counts
  abbrev pub error_sum : ℕ → Inner → HeaderEnds → WordAt
  error_sum l4_at inner outer =
      let at = l4_at + icmp_checksum in
      word at (sum_after 0 bytes (counted_outer outer.family outer ++ behind_sum inner) (number16 bytes at))

  -- the four sums
  abbrev pub error_sums : ℕ → Inner → HeaderEnds → List WordAt
  error_sums l4_at inner outer =
      word_list quoted_header_sum ++ word_list (quoted_sum inner.proto inner.sum_at)
      ++ word_list (header_sum bytes outer.ip_at outer.family (header_addresses outer))
      ++ error_sum l4_at inner outer ∷ []

-- the addresses and ports that are named
abbrev pub error_writes : HeaderEnds → HeaderEnds → List WordAt → List WordAt
error_writes outer quoted ports = header_addresses outer ++ header_addresses quoted ++ ports

-- a change that is neutral keeps the sum of the addresses, so no sum follows (RFC 6296 section 3.6)
abbrev pub error_words : List ℕ → Facts → Inner → Change → List WordAt
error_words bytes facts inner change =
    let outer = outer_ends facts inner change in
    let quoted = quoted_ends facts inner change in
    let ports = quoted_ports inner quoted in
    error_writes outer quoted ports
    ++ (if change.neutral then [] else error_sums bytes quoted ports facts.l4_at inner outer)

-- the bytes of the error with these facts, which quotes this, are these once the change is made
abbrev pub ErrorTranslated : List ℕ → Facts → Inner → Change → List ℕ → Type 0
ErrorTranslated bytes facts inner change translated =
    Rewrites bytes (error_words bytes facts inner change) translated

-- what is sent of an error: it is normalised and then translated
pub record ErrorSent (bytes : List ℕ) (facts : Facts) (action : Action) (change : Change) (sent : List ℕ) : Type 0 where
  pub normalised : List ℕ
  pub first : Normalised bytes facts action normalised
  pub second : ErrorTranslated normalised facts (error_in bytes facts) change sent
