-- What decodes is possible.
use Rattle.std.proofs.Common.{◌≡◌, ◌<◌, ◌≤◌, ℕ, ◌+◌, ◌/◌, ◌^◌, Bool, true, false, Some, List, length, Ok, Err, refl, sym, ap, ◌∙◌, subst, arith}
use Rattle.std.{proofs.lemmas.Bool.Decides.nat_tests, specs.Prelude.{Result, MatchResult, ◌==◌, nat_lt, if◌then◌else◌, slice_index}}
use Rattle.npf_fields.specs.Field.{number16, number32, number64, number128}
use Rattle.npf_types.specs.declared.address.Addr.{Addr, TheVariants.{V4, V6}}
use Rattle.npf_types.specs.declared.{facts.{Facts.Facts, L4.{L4, TheVariants.{Tcp, Udp, Icmp, Icmp6, Other}}}, link.Link.{Link, TheVariants.{Ethernet, Raw}}}
use Rattle.npf_packet.specs.declared.decoded.Decoded.{Decoded, TheVariants.Ip}
use Rattle.npf_packet.specs.{Decoder.{DecodesIp, packet_at, version_behind}, Ipv4.{fields_v4, packet_v4}}
use Rattle.npf_packet.specs.Ipv6.{IsBehindChain, IsPacketV6, behind_last, end_v6, first_header, is_extension, next_header}
use Rattle.npf_packet.specs.{PacketField.{HasIpHeader, HasPorts, HasUpperFields}, Upper.Carries}
use Rattle.npf_packet.proofs.{ChainLemmas.chain_keeps, PacketFieldLemmas.{has_fields, has_protocol}, UpperLemmas.is_carried}
use Rattle.npf_packet.proofs.HeaderLemmas.{fields_v6, is_whole_v4, never_behind_v6, never_end_v6, never_v4, of_ok}
use Rattle.npf_possible.specs.{Possible.{AreAddresses, HasFieldSizes, IsCarried}, PossibleLaw.{DecodedIsPossible, HasBytes}}

module _ (bytes : List ℕ) (small : HasBytes bytes) where
  number16-small : (at : ℕ) → number16 bytes at < 2 ^ 16
  number16-small at = omega (arith, small at, small (at + 1))

  number32-small : (at : ℕ) → number32 bytes at < 2 ^ 32
  number32-small at = omega (arith, number16-small at, number16-small (at + 2))

  number64-small : (at : ℕ) → number64 bytes at < 2 ^ 64
  number64-small at = omega (arith, number32-small at, number32-small (at + 4))

  number128-small : (at : ℕ) → number128 bytes at < 2 ^ 128
  number128-small at = omega (arith, number64-small at, number64-small (at + 8))

  are_addresses : (ip_at l4_at proto : ℕ) (src dst : Addr) → HasIpHeader bytes ip_at l4_at proto src dst → AreAddresses src dst
  are_addresses ip_at l4_at proto (V4 src) (V4 dst) h = (
    subst (λ (n : ℕ). n < 2 ^ 32) h.source (number32-small (ip_at + 12)),
    subst (λ (n : ℕ). n < 2 ^ 32) h.destination (number32-small (ip_at + 16)),
  )
  are_addresses ip_at l4_at proto (V6 src) (V6 dst) h = (
    subst (λ (n : ℕ). n < 2 ^ 128) h.source (number128-small (ip_at + 8)),
    subst (λ (n : ℕ). n < 2 ^ 128) h.destination (number128-small (ip_at + 24)),
  )
  are_addresses ip_at l4_at proto (V4 src) (V6 dst) h = h
  are_addresses ip_at l4_at proto (V6 src) (V4 dst) h = h

  port_sizes : (at sport dport : ℕ) → HasPorts bytes at sport dport → (sport < 2 ^ 16) × (dport < 2 ^ 16)
  port_sizes at sport dport h =
      (subst (λ (n : ℕ). n < 2 ^ 16) h.source (number16-small (at + 0)), subst (λ (n : ℕ). n < 2 ^ 16) h.destination (number16-small (at + 2)))

  byte_size : (at n : ℕ) → slice_index bytes at ≡ n → n < 2 ^ 8
  byte_size at n e = subst (λ (k : ℕ). k < 2 ^ 8) e (small at)

  has_sizes : (at : ℕ) (l4 : L4) → HasUpperFields bytes at l4 → HasFieldSizes l4
  has_sizes at (Tcp sport dport segment mss_at) h = let ports = port_sizes at sport dport h.ports in (ports.0, ports.1, byte_size (at + 13) segment.flags h.flags)
  has_sizes at (Udp sport dport) h = port_sizes at sport dport h
  has_sizes at (Icmp kind code echo) h = (byte_size (at + 0) kind h.0.message_type, byte_size (at + 1) code h.0.message_code)
  has_sizes at (Icmp6 kind code echo) h = (byte_size (at + 0) kind h.0.message_type, byte_size (at + 1) code h.0.message_code)
  has_sizes at Other h = tt

-- what a packet's headers tell of its protocol
abbrev TellsProtocol : Facts → Type 0
TellsProtocol facts = (facts.proto < 2 ^ 8) × IsCarried facts.src facts.proto

-- no extension header of IPv6 and no fragment is carried
no_extension : (src kind : ℕ) → is_extension kind ≡ false → (kind == 44) ≡ false → IsCarried (V6 src) kind
no_extension src kind plain whole = (
  λ e. absurd (let h = rw e at plain in cc),
  λ e. absurd (let h = rw e at plain in cc),
  λ e. absurd (let h = rw e at whole in cc),
  λ e. absurd (let h = rw e at plain in cc),
  λ e. absurd (let h = rw e at plain in cc),
)

plain_kind : (bytes : List ℕ) (at end k n a : ℕ) (packet : _) → behind_last bytes at end (record { kind = k; named_at = n; at = a }) ≡ Ok packet
    → (is_extension k ≡ false) × ((k == 44) ≡ false)
plain_kind bytes at end k n a packet h = (grind (arith, nat_tests), grind (arith, nat_tests))

last_fields : (bytes : List ℕ) (at end k n a : ℕ) → is_extension k ≡ false → (k == 44) ≡ false
    → behind_last bytes at end (record { kind = k; named_at = n; at = a }) ≡ Ok (fields_v6 bytes at end (record { kind = k; named_at = n; at = a }))
last_fields bytes at end k n a plain whole = rw plain (rw whole refl)

-- a header of the chain has a kind of one byte, and begins within the packet
next_within : (bytes : List ℕ) (small : HasBytes bytes) (end k n a k' n' a' : ℕ)
    → next_header bytes end (record { kind = k; named_at = n; at = a }) ≡ Some (record { kind = k'; named_at = n'; at = a' }) → (k' < 2 ^ 8) × (a' ≤ end)
next_within bytes small end k n a k' n' a' h = let byte = small a in (grind (arith, nat_tests), grind (arith, nat_tests))

end_within : (bytes : List ℕ) (end at : ℕ) → end_v6 bytes at ≡ Ok end → at + 40 ≤ end
end_within bytes end at h = grind (arith, nat_tests)

same_ok : {E T : Type 0} {x y : T} → (let r : Result T E = Ok x in r) ≡ Ok y → x ≡ y
same_ok h = cc

module _ (bytes : List ℕ) (small : HasBytes bytes) (at : ℕ) (facts : Facts) where
  told_v4 : MatchResult (packet_v4 bytes at) (λ packet. Carries bytes packet (Ip facts)) (λ answer. Ip facts ≡ answer) → TellsProtocol facts
  told_v4 says =
      let found = of_ok (packet_v4 bytes at) (λ packet. Carries bytes packet (Ip facts)) (λ answer. Ip facts ≡ answer)
      (λ answer e same. never_v4 bytes at facts (e ∙ ap (λ a. Err a) (sym same))) says in
      let whole = is_whole_v4 bytes at found.0 found.1.0 in
      let carries = subst (λ packet. Carries bytes packet (Ip facts)) (sym whole.is) found.1.1 in
      let carried = is_carried bytes (fields_v4 bytes at) facts (omega (arith, whole.total)) carries in
      subst TellsProtocol carried.is (small (at + 9), tt)

  told_v6 : (header : _) → IsPacketV6 bytes at header → MatchResult header (λ packet. Carries bytes packet (Ip facts)) (λ answer. Ip facts ≡ answer)
      → TellsProtocol facts
  told_v6 header read says =
      let found = of_ok (end_v6 bytes at) (λ end. IsBehindChain bytes at end header) (λ answer. header ≡ Err answer)
      (λ answer e same. never_end_v6 bytes at facts (e ∙ ap (λ a. Err a) (sym
      (subst (λ r. MatchResult r (λ packet. Carries bytes packet (Ip facts)) (λ answer. Ip facts ≡ answer)) same says)))) read in
      let end = found.0 in
      let behind = found.1.1 in
      let last = behind.last in
      let packet = of_ok header (λ packet. Carries bytes packet (Ip facts)) (λ answer. Ip facts ≡ answer)
      (λ answer e same. never_behind_v6 bytes at end last facts (sym behind.says ∙ e ∙ ap (λ a. Err a) (sym same))) says in
      let is = sym behind.says ∙ packet.1.0 in
      let plain = plain_kind bytes at end last.kind last.named_at last.at packet.0 is in
      let same = same_ok (sym (last_fields bytes at end last.kind last.named_at last.at plain.0 plain.1) ∙ is) in
      let within = chain_keeps (next_header bytes end) (λ x. (x.kind < 2 ^ 8) × (x.at ≤ end))
      (λ x y here e. next_within bytes small end x.kind x.named_at x.at y.kind y.named_at y.at e) (first_header bytes at) behind.chain.headers last behind.chain.chain
      (small (at + 6), end_within bytes end at found.1.0) in
      let carries = subst (λ packet. Carries bytes packet (Ip facts)) (sym same) packet.1.1 in
      let carried = is_carried bytes (fields_v6 bytes at end last) facts within.1 carries in
      subst TellsProtocol carried.is (within.0, no_extension (number128 bytes (at + 8)) last.kind plain.0 plain.1)

-- the version behind the link's header, by its tests
module _ {V : Type 0} (P : V → Type 0) (facts : Facts) where
  abbrev Tells : Result V Decoded → Type 0
  Tells r = MatchResult r P (λ answer. Ip facts ≡ answer) → TellsProtocol facts

  either : (b : Bool) (r s : Result V Decoded) → Tells r → Tells s → Tells (if b then r else s)
  either true r s one two = one
  either false r s one two = two

module _ (bytes : List ℕ) (small : HasBytes bytes) (facts : Facts) where
  decoded_tells : (link : Link)
      → MatchResult (version_behind link bytes) (λ version. DecodesIp version bytes (packet_at link) (Ip facts)) (λ answer. Ip facts ≡ answer) → TellsProtocol facts
  decoded_tells Raw =
      either _ facts (length bytes == 0) _ _ (λ h. absurd (cc))
      (either _ facts (slice_index bytes 0 / 16 == 4) _ _
      (λ h. told_v4 bytes small 0 facts (subst (λ r. MatchResult r (λ packet. Carries bytes packet (Ip facts)) (λ answer. Ip facts ≡ answer)) h.read h.says))
      (either _ facts (slice_index bytes 0 / 16 == 6) _ _ (λ h. told_v6 bytes small 0 facts h.header h.read h.says) (λ h. absurd (cc))))
  decoded_tells Ethernet =
      either _ facts (nat_lt (length bytes) 14) _ _ (λ h. absurd (cc))
      (either _ facts (number16 bytes 12 == 0x0800) _ _
      (either _ facts (length bytes == 14) _ _ (λ h. absurd (cc))
      (either _ facts (slice_index bytes 14 / 16 == 4) _ _
      (λ h. told_v4 bytes small 14 facts (subst (λ r. MatchResult r (λ packet. Carries bytes packet (Ip facts)) (λ answer. Ip facts ≡ answer)) h.read h.says))
      (λ h. absurd (cc))))
      (either _ facts (number16 bytes 12 == 0x86dd) _ _
      (either _ facts (length bytes == 14) _ _ (λ h. absurd (cc))
      (either _ facts (slice_index bytes 14 / 16 == 6) _ _ (λ h. told_v6 bytes small 14 facts h.header h.read h.says) (λ h. absurd (cc))))
      (λ h. absurd (cc))))

pub decoded_is_possible_lem : DecodedIsPossible
decoded_is_possible_lem link bytes facts small decodes =
    let fields = has_fields link bytes facts decodes in
    let tells = decoded_tells bytes small facts link decodes in
    record {
      addresses = are_addresses bytes small facts.ip_at facts.l4_at facts.proto facts.src facts.dst fields.header;
      size = tells.0;
      carried = tells.1;
      protocol = has_protocol link bytes facts decodes;
      sizes = has_sizes bytes small facts.l4_at facts.l4 fields.upper;
    }
