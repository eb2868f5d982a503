-- What stays of a packet whatever is sent of it: all in front of its IP header, its version and its lengths.
use Rattle.std.specs.Prelude.{◌≡◌, ℕ, ◌+◌, ◌<◌, List, length, slice_index}
use Rattle.npf_types.specs.declared.action.Action.{Action}
use Rattle.npf_types.specs.declared.change.Change.{Change}
use Rattle.npf_types.specs.declared.facts.Facts.{Facts}
use Rattle.npf_packet.specs.Extent.{told_end}
use Rattle.npf_packet.specs.Ipv4.{header_len}
use Rattle.npf_packet.specs.Version.{version_number}
use Rattle.npf_rewrite.specs.Normalised.{Normalised}
use Rattle.npf_rewrite.specs.Room.{HasRoom}
use Rattle.npf_rewrite.specs.Sent.{Sent}
use Rattle.npf_rewrite.specs.Translated.{Translated}

-- There are as many bytes as there were. Those in front of the IP header are as they were, and so are
-- its first six: in IPv4 they have the version, the header's length and the packet's (RFC 791 section
-- 3.1), in IPv6 the version and the payload's length (RFC 8200 section 3).
pub record KeepsLengths (facts : Facts) (old new : List ℕ) : Type 0 where
  pub size : length new ≡ length old
  pub front : (at : ℕ) → at < facts.ip_at + 6 → slice_index new at ≡ slice_index old at
  pub version : version_number new facts.ip_at ≡ version_number old facts.ip_at
  pub header : header_len new facts.ip_at ≡ header_len old facts.ip_at
  pub end : told_end new facts.ip_at ≡ told_end old facts.ip_at

-- a translation keeps them
abbrev pub TranslatedKeepsLengths : Type 0
TranslatedKeepsLengths =
    (bytes translated : List ℕ) (facts : Facts) (change : Change)
    → HasRoom (length bytes) facts → Translated bytes facts change translated
    → KeepsLengths facts bytes translated

-- a normalisation keeps them
abbrev pub NormalisedKeepsLengths : Type 0
NormalisedKeepsLengths =
    (bytes normalised : List ℕ) (facts : Facts) (action : Action)
    → HasRoom (length bytes) facts → Normalised bytes facts action normalised
    → KeepsLengths facts bytes normalised

-- so what is sent has them
abbrev pub SentKeepsLengths : Type 0
SentKeepsLengths =
    (bytes sent : List ℕ) (facts : Facts) (action : Action) (change : Change)
    → HasRoom (length bytes) facts → Sent bytes facts action change sent
    → KeepsLengths facts bytes sent
