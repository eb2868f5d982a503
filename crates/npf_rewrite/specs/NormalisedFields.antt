-- What stands in the fields that an action names once it is done (npf.conf(5), "Procedures").
use Rattle.std.specs.Prelude.{◌≡◌, ℕ, ◌+◌, ◌/◌, ◌%◌, max, min, true, Option, Some, None, List, length, slice_index}
use Rattle.npf_types.specs.declared.action.Action.{Action}
use Rattle.npf_types.specs.declared.address.Addr.{Addr}
use Rattle.npf_types.specs.declared.address.Addr.TheVariants.{V4, V6}
use Rattle.npf_types.specs.declared.facts.Facts.{Facts}
use Rattle.npf_types.specs.declared.facts.L4.TheVariants.{Tcp}
use Rattle.npf_types.specs.declared.facts.Segment.{Segment}
use Rattle.npf_fields.specs.Field.{number16}
use Rattle.npf_packet.specs.Field.{ipv4_fragment, ipv4_ttl, ipv6_hop_limit}
use Rattle.npf_rewrite.specs.Normalised.{Normalised}
use Rattle.npf_rewrite.specs.NormalisedFacts.{ActionFits}
use Rattle.npf_rewrite.specs.Room.{HasRoom}
use Rattle.npf_rewrite.specs.Verified.{HasBytes}

-- the time to live of a header of IPv4, the hop limit of one of IPv6
abbrev pub time_to_live : List ℕ → ℕ → Addr → ℕ
time_to_live bytes ip_at (V4 _) = slice_index bytes (ip_at + ipv4_ttl)
time_to_live bytes ip_at (V6 _) = slice_index bytes (ip_at + ipv6_hop_limit)

-- at least a number that is named
abbrev pub no_less : Option ℕ → ℕ → ℕ
no_less (Some least) n = max least n
no_less None n = n

-- at most one that is
abbrev pub no_more : Option ℕ → ℕ → ℕ
no_more (Some most) n = min most n
no_more None n = n

-- The time to live is at least the action's; where it says so, IPv4's bit "don't fragment", 0x4000, is
-- clear; and in a segment with the flag S the maximum segment size is at most the action's.
pub record HasNormalFields (bytes normalised : List ℕ) (facts : Facts) (action : Action) : Type 0 where
  pub ttl : time_to_live normalised facts.ip_at facts.src ≡ no_less action.min_ttl (time_to_live bytes facts.ip_at facts.src)
  pub whole : (a : ℕ) → facts.src ≡ V4 a → action.no_df ≡ true
      → number16 normalised (facts.ip_at + ipv4_fragment) / 0x4000 % 2 ≡ 0
  pub size : (sport dport at : ℕ) (seg : Segment) → facts.l4 ≡ Tcp sport dport seg (Some at) → seg.flags / 2 % 2 ≡ 1
      → number16 normalised at ≡ no_more action.max_mss (number16 bytes at)

-- so it is in every normalised packet
abbrev pub NormalisedHasFields : Type 0
NormalisedHasFields =
    (bytes normalised : List ℕ) (facts : Facts) (action : Action)
    → HasBytes bytes → ActionFits action → HasRoom (length bytes) facts
    → Normalised bytes facts action normalised → HasNormalFields bytes normalised facts action
