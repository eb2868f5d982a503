-- What a normalisation writes (npf.conf(5), "Procedures"). The pictures of the headers are those of
-- RFC 791, 8200 and 9293, whose offsets npf_packet names.
use Rattle.std.specs.Prelude.{ℕ, ◌+◌, ◌-◌, ◌*◌, ◌/◌, ◌%◌, ◌^◌, ◌==◌, nat_lt, if◌then◌else◌, Bool, true, false, Option, Some, None, List, [], ◌∷◌, ◌++◌, slice_index}
use Rattle.npf_types.specs.declared.action.Action.{Action}
use Rattle.npf_types.specs.declared.address.Addr.{Addr}
use Rattle.npf_types.specs.declared.address.Addr.TheVariants.{V4, V6}
use Rattle.npf_types.specs.declared.facts.Facts.{Facts}
use Rattle.npf_types.specs.declared.facts.L4.{L4}
use Rattle.npf_types.specs.declared.facts.L4.TheVariants.{Tcp, Udp, Icmp, Icmp6, Other}
use Rattle.npf_fields.specs.Field.{number16}
use Rattle.npf_packet.specs.Field.{ipv4_fragment, ipv4_ttl, ipv4_protocol, ipv6_next_header, ipv6_hop_limit, tcp_checksum}
use Rattle.npf_rewrite.specs.declared.word.WordAt.{WordAt}
use Rattle.npf_rewrite.specs.Sum.{sum_after}
use Rattle.npf_rewrite.specs.Translated.{header_sum}
use Rattle.npf_rewrite.specs.Word.{Rewrites, word, word_list}

-- two bytes as a word
abbrev pub joined : ℕ → ℕ → ℕ
joined upper lower = 2 ^ 8 * upper + lower

module _ (bytes : List ℕ) where
  -- A time to live or a hop limit below the least is raised to it. In IPv4 it shares its word with
  -- the protocol behind it, in IPv6 with the next header in front of it.
  abbrev pub raised_ttl : ℕ → Addr → Option ℕ → Option WordAt
  raised_ttl ip_at (V4 _) (Some least) =
      if nat_lt (slice_index bytes (ip_at + ipv4_ttl)) least
      then Some (word (ip_at + ipv4_ttl) (joined least (slice_index bytes (ip_at + ipv4_protocol))))
      else None
  raised_ttl ip_at (V6 _) (Some least) =
      if nat_lt (slice_index bytes (ip_at + ipv6_hop_limit)) least
      then Some (word (ip_at + ipv6_next_header)
      (joined (slice_index bytes (ip_at + ipv6_next_header)) least))
      else None
  raised_ttl ip_at src None = None

  -- the bit "don't fragment" of IPv4, 0x4000 of its fragment field, is cleared
  abbrev pub cleared_fragment : ℕ → Addr → Bool → Option WordAt
  cleared_fragment ip_at (V4 _) true =
      let field = number16 bytes (ip_at + ipv4_fragment) in
      if field / 0x4000 % 2 == 1 then Some (word (ip_at + ipv4_fragment) (field - 0x4000)) else None
  cleared_fragment ip_at (V4 _) false = None
  cleared_fragment ip_at (V6 _) no_df = None

  -- the maximum segment size at a place, where it is greater than the most
  abbrev pub lowered_to : ℕ → ℕ → Option WordAt
  lowered_to most at = if nat_lt most (number16 bytes at) then Some (word at most) else None

  -- the maximum segment size of a segment with the flag S, which is 2 of the control bits
  abbrev pub lowered_mss : L4 → Option ℕ → Option WordAt
  lowered_mss (Tcp _ _ segment (Some at)) (Some most) =
      if segment.flags / 2 % 2 == 1 then lowered_to most at else None
  lowered_mss (Tcp _ _ segment None) (Some most) = None
  lowered_mss (Udp _ _) (Some most) = None
  lowered_mss (Icmp _ _ _) (Some most) = None
  lowered_mss (Icmp6 _ _ _) (Some most) = None
  lowered_mss Other (Some most) = None
  lowered_mss l4 None = None

  -- The words that change where this one is written, counted from the header's start: at an odd
  -- place it lies across two.
  abbrev pub aligned : ℕ → WordAt → List WordAt
  aligned header_at w =
      if (w.at - header_at) % 2 == 0 then w ∷ []
      else word (w.at - 1) (joined (slice_index bytes (w.at - 1)) (w.value / 2 ^ 8))
      ∷ word (w.at + 1) (joined (w.value % 2 ^ 8) (slice_index bytes (w.at + 2))) ∷ []

  -- the sum of a segment whose maximum segment size is written
  abbrev pub segment_sum : ℕ → Option WordAt → Option WordAt
  segment_sum l4_at (Some w) =
      let at = l4_at + tcp_checksum in
      Some (word at (sum_after 0 bytes (aligned l4_at w) (number16 bytes at)))
  segment_sum l4_at None = None

module _ (bytes : List ℕ) (facts : Facts) (action : Action) where
  -- what is written in the IP header
  abbrev pub header_writes : List WordAt
  header_writes =
      word_list (raised_ttl bytes facts.ip_at facts.src action.min_ttl)
      ++ word_list (cleared_fragment bytes facts.ip_at facts.src action.no_df)

  abbrev pub mss_write : Option WordAt
  mss_write = lowered_mss bytes facts.l4 action.max_mss

  -- what is written, and then the sums that follow
  abbrev pub normalised_words : List WordAt
  normalised_words =
      header_writes ++ word_list mss_write
      ++ word_list (header_sum bytes facts.ip_at facts.src header_writes)
      ++ word_list (segment_sum bytes facts.l4_at mss_write)

-- the bytes of the packet with these facts are these once the action is done
abbrev pub Normalised : List ℕ → Facts → Action → List ℕ → Type 0
Normalised bytes facts action normalised =
    Rewrites bytes (normalised_words bytes facts action) normalised
