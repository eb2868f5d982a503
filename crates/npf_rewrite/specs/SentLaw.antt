-- What is sent of a packet is that packet still: its lengths, its facts with the ends of the change, and its sums.
use Rattle.std.specs.Prelude.{◌≡◌, ℕ, ◌+◌, true, List}
use Rattle.npf_types.specs.declared.action.Action.{Action}
use Rattle.npf_types.specs.declared.address.Addr.TheVariants.{V4}
use Rattle.npf_types.specs.declared.change.Change.{Change}
use Rattle.npf_types.specs.declared.facts.Facts.{Facts}
use Rattle.npf_types.specs.declared.facts.L4.TheVariants.{Udp}
use Rattle.npf_types.specs.declared.link.Link.{Link}
use Rattle.npf_fields.specs.Field.{number16}
use Rattle.npf_key.specs.Translated.{facts_there}
use Rattle.npf_packet.specs.declared.decoded.Decoded.TheVariants.{Ip}
use Rattle.npf_packet.specs.Decoder.{Decodes}
use Rattle.npf_packet.specs.Field.{udp_checksum}
use Rattle.npf_rewrite.specs.Lengths.{KeepsLengths}
use Rattle.npf_rewrite.specs.NormalisedFacts.{ActionFits}
use Rattle.npf_rewrite.specs.Sent.{Sent}
use Rattle.npf_rewrite.specs.TranslatedFacts.{AddressesFit}
use Rattle.npf_rewrite.specs.Verified.{HasBytes, HasSum, HeaderVerifies, KeepsSums, PortsFit, UpperVerifies}

-- These bytes are a packet's of which a change was made: it decodes to the facts of the change, and a
-- sum that verified verifies.
pub record IsPacketThere (link : Link) (bytes : List ℕ) (facts : Facts) (change : Change) (sent : List ℕ) : Type 0 where
  pub lengths : KeepsLengths facts bytes sent
  pub decodes : Decodes link sent (Ip (facts_there change facts))
  pub header : (a : ℕ) → facts.src ≡ V4 a → HeaderVerifies bytes facts → HeaderVerifies sent facts
  pub upper : HasSum bytes facts.l4_at facts.src facts.l4 → UpperVerifies bytes facts → UpperVerifies sent facts
  pub absent : (a sport dport : ℕ) → facts.src ≡ V4 a → facts.l4 ≡ Udp sport dport
      → number16 bytes (facts.l4_at + udp_checksum) ≡ 0 → number16 sent (facts.l4_at + udp_checksum) ≡ 0

-- what the action and the change name is of its type, and a neutral change keeps the sums
pub record MayBeSent (bytes : List ℕ) (facts : Facts) (action : Action) (change : Change) (sent : List ℕ) : Type 0 where
  pub numbers : ActionFits action
  pub addresses : AddressesFit facts change
  pub ports : PortsFit facts change
  pub neutral : change.neutral ≡ true → KeepsSums bytes facts change sent

-- so is what is sent of every packet
abbrev pub SentIsPacket : Type 0
SentIsPacket =
    (link : Link) (bytes sent : List ℕ) (facts : Facts) (action : Action) (change : Change)
    → HasBytes bytes → MayBeSent bytes facts action change sent → Decodes link bytes (Ip facts)
    → Sent bytes facts action change sent → IsPacketThere link bytes facts change sent
