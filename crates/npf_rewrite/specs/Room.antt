-- What rewriting asks of a packet's facts: its parts lie within its record's bytes.
use Rattle.std.specs.Prelude.{ℕ, ◌+◌, ◌^◌, ◌<◌, ◌≤◌, List, length}
use Rattle.npf_types.specs.declared.facts.Facts.{Facts}
use Rattle.npf_types.specs.declared.link.Link.{Link}
use Rattle.npf_packet.specs.declared.decoded.Decoded.TheVariants.{Ip}
use Rattle.npf_packet.specs.Decoder.{Decodes}
use Rattle.npf_rewrite.specs.declared.word.WordAt.{WordAt}
use Rattle.npf_packet.specs.Place.{HasOptionAt, least_ip_header, least_upper_header}

-- The IP header, that of what is carried and the packet's end follow one another within `size`
-- bytes. This is what `HasPlaces` says of a decoded packet, but for its link.
pub record HasRoom (size : ℕ) (facts : Facts) : Type 0 where
  pub upper : facts.ip_at + least_ip_header facts.src ≤ facts.l4_at
  pub upper_header : facts.l4_at + least_upper_header facts.l4 ≤ facts.end
  pub end : facts.end ≤ size
  pub option : HasOptionAt facts facts.l4

-- a decoded packet may be rewritten
abbrev pub DecodedHasRoom : Type 0
DecodedHasRoom =
    (link : Link) (bytes : List ℕ) (facts : Facts)
    → Decodes link bytes (Ip facts) → HasRoom (length bytes) facts

-- a word of an option of a segment, in front of its payload
pub record IsMssWrite (size : ℕ) (facts : Facts) (w : WordAt) : Type 0 where
  pub after : facts.l4_at + 20 ≤ w.at
  pub before : w.at + 2 ≤ size
  pub place : w.at < 2 ^ 32
