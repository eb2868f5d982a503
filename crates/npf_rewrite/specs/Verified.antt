-- When an Internet checksum verifies: the words that it counts, the sum among them, add up to a
-- multiple of 65,535, which is 0 in one's complement (RFC 1071 section 1).
use Rattle.std.specs.Prelude.{◌≡◌, ℕ, zero, suc, ◌+◌, ◌-◌, ◌*◌, ◌/◌, ◌%◌, ◌^◌, ◌<◌, ◌==◌, ◌≢◌, if◌then◌else◌, true, false, Option, Some, None, ⊤, List, [], length, slice_index}
use Rattle.npf_types.specs.declared.address.Addr.{Addr}
use Rattle.npf_types.specs.declared.address.Addr.TheVariants.{V4, V6}
use Rattle.npf_types.specs.declared.change.Change.{Change}
use Rattle.npf_types.specs.declared.facts.Facts.{Facts}
use Rattle.npf_types.specs.declared.facts.L4.{L4}
use Rattle.npf_types.specs.declared.facts.L4.TheVariants.{Tcp, Udp, Icmp, Icmp6, Other}
use Rattle.npf_fields.specs.Field.{number16}
use Rattle.npf_key.specs.Translated.{named_port}
use Rattle.npf_packet.specs.Field.{ipv4_source, ipv6_source, udp_checksum}
use Rattle.npf_rewrite.specs.Room.{HasRoom}
use Rattle.npf_rewrite.specs.Translated.{Translated, new_ends, port_writes}

-- the sum of so many words from a place on
abbrev pub words_total : (ℕ → ℕ) → ℕ → ℕ → ℕ
words_total byte at zero = 0
words_total byte at (suc n) = (2 ^ 8 * byte at + byte (at + 1)) + words_total byte (at + 2) n

-- the sum of a header of IPv4, which is up to what it carries (RFC 791 section 3.1)
abbrev pub HeaderVerifies : List ℕ → Facts → Type 0
HeaderVerifies bytes facts =
    words_total (slice_index bytes) facts.ip_at ((facts.l4_at - facts.ip_at) / 2) % 65535 ≡ 0

-- these are bytes, as a program's are by their types
abbrev pub HasBytes : List ℕ → Type 0
HasBytes bytes = (at : ℕ) → slice_index bytes at < 2 ^ 8

-- where the change isn't neutral, a header's sum that verified still verifies
abbrev pub HeaderSumFollows : Type 0
HeaderSumFollows =
    (bytes translated : List ℕ) (facts : Facts) (change : Change) (a : ℕ)
    → HasBytes bytes → facts.src ≡ V4 a → HasRoom (length bytes) facts → change.neutral ≡ false
    → Translated bytes facts change translated
    → HeaderVerifies bytes facts → HeaderVerifies translated facts

module _ (byte : ℕ → ℕ) where
  -- the words of the addresses of a header of this address's family
  abbrev pub addresses_total : ℕ → Addr → ℕ
  addresses_total ip_at (V4 _) = words_total byte (ip_at + ipv4_source) 4
  addresses_total ip_at (V6 _) = words_total byte (ip_at + ipv6_source) 16

  -- the words of what is carried up to an end; a byte that is left is the upper half of one
  abbrev pub carried_total : ℕ → ℕ → ℕ
  carried_total at end =
      words_total byte at ((end - at) / 2)
      + (if (end - at) % 2 == 1 then 2 ^ 8 * byte (end - 1) else 0)

  -- with a pseudo-header of the addresses, the protocol and the length
  abbrev pub pseudo_total : Facts → ℕ
  pseudo_total facts =
      addresses_total facts.ip_at facts.src + (facts.proto + (facts.end - facts.l4_at))
      + carried_total facts.l4_at facts.end

  -- what the sum of what is carried counts (RFC 9293 section 3.1, RFC 768, RFC 8200 section 8.1, RFC
  -- 792)
  abbrev pub counted_total : Facts → L4 → ℕ
  counted_total facts (Tcp _ _ _ _) = pseudo_total facts
  counted_total facts (Udp _ _) = pseudo_total facts
  counted_total facts (Icmp _ _ _) = carried_total facts.l4_at facts.end
  counted_total facts (Icmp6 _ _ _) = pseudo_total facts
  counted_total facts Other = 0

-- the sum of what is carried verifies
abbrev pub UpperVerifies : List ℕ → Facts → Type 0
UpperVerifies bytes facts = counted_total (slice_index bytes) facts facts.l4 % 65535 ≡ 0

-- a datagram over IPv4 has a sum where that isn't 0
abbrev pub HasSum : List ℕ → ℕ → Addr → L4 → Type 0
HasSum bytes at (V4 _) (Udp _ _) = number16 bytes (at + udp_checksum) ≢ 0
HasSum bytes at (V6 _) (Udp _ _) = ⊤
HasSum bytes at src (Tcp _ _ _ _) = ⊤
HasSum bytes at src (Icmp _ _ _) = ⊤
HasSum bytes at src (Icmp6 _ _ _) = ⊤
HasSum bytes at src Other = ⊤

-- a port that is named is one, as a program's is by its type
abbrev pub PortFits : Option ℕ → Type 0
PortFits (Some port) = port < 2 ^ 16
PortFits None = ⊤

pub record PortsFit (facts : Facts) (change : Change) : Type 0 where
  pub src : PortFits (named_port (new_ends facts change).src)
  pub dst : PortFits (named_port (new_ends facts change).dst)

-- where the change isn't neutral, the sum of what is carried still verifies, if it is there
abbrev pub UpperSumFollows : Type 0
UpperSumFollows =
    (bytes translated : List ℕ) (facts : Facts) (change : Change)
    → HasBytes bytes → PortsFit facts change → HasRoom (length bytes) facts
    → change.neutral ≡ false → HasSum bytes facts.l4_at facts.src facts.l4
    → Translated bytes facts change translated
    → UpperVerifies bytes facts → UpperVerifies translated facts

-- a change that writes no port and leaves the sum of the address words the same
pub record KeepsSums (bytes : List ℕ) (facts : Facts) (change : Change) (translated : List ℕ) : Type 0 where
  pub no_port : port_writes facts (new_ends facts change) ≡ []
  pub addresses : addresses_total (slice_index translated) facts.ip_at facts.src % 65535
      ≡ addresses_total (slice_index bytes) facts.ip_at facts.src % 65535

-- where the change is neutral and keeps the sums, a header's sum that verified still verifies (RFC
-- 6296 section 3.6)
abbrev pub NeutralHeaderSumFollows : Type 0
NeutralHeaderSumFollows =
    (bytes translated : List ℕ) (facts : Facts) (change : Change) (a : ℕ)
    → facts.src ≡ V4 a → HasRoom (length bytes) facts → change.neutral ≡ true
    → KeepsSums bytes facts change translated → Translated bytes facts change translated
    → HeaderVerifies bytes facts → HeaderVerifies translated facts

-- and so does the sum of what is carried
abbrev pub NeutralUpperSumFollows : Type 0
NeutralUpperSumFollows =
    (bytes translated : List ℕ) (facts : Facts) (change : Change)
    → HasRoom (length bytes) facts → change.neutral ≡ true
    → KeepsSums bytes facts change translated → Translated bytes facts change translated
    → UpperVerifies bytes facts → UpperVerifies translated facts

-- a datagram over IPv4 without a sum has none afterwards
abbrev pub AbsentSumStays : Type 0
AbsentSumStays =
    (bytes translated : List ℕ) (facts : Facts) (change : Change) (a sport dport : ℕ)
    → facts.src ≡ V4 a → facts.l4 ≡ Udp sport dport → HasRoom (length bytes) facts
    → Translated bytes facts change translated
    → number16 bytes (facts.l4_at + udp_checksum) ≡ 0
    → number16 translated (facts.l4_at + udp_checksum) ≡ 0
