-- For each link and bytes there is one decoding.
use Rattle.std.{proofs.Common.{◌≡◌, ℕ, ◌+◌, List, Ok, Err, sym, ap, ◌∙◌, subst}, specs.Prelude.{Result, MatchResult}}
use Rattle.npf_packet.specs.declared.{decoded.Decoded.{Decoded, TheVariants.Ip}, version.Version.{Version, TheVariants.{V4, V6}}, packet.IpPacket.IpPacket}
use Rattle.npf_packet.specs.declared.upper.Upper.{Upper, TheVariants.{Tcp, Udp, Icmp, Icmpv6, Other}}
use Rattle.npf_packet.specs.{Decoder.{DecodesIp, IsPacket, version_behind, packet_at}, DecodingLaw.OneDecoding}
use Rattle.npf_packet.specs.{Ipv6.{IsBehindChain, behind_last, end_v6, first_header, next_header}, Packet.facts_of, Tcp.{HasSegment, header_end, segment_of}}
use Rattle.npf_packet.{specs.Upper.{Carries, CarriesAs, upper_of}, proofs.{ChainLemmas.same_chain, TcpOptionLemmas.same_options}}

-- at most one value is so
abbrev pub IsOne : {A : Type 0} → (A → Type 0) → Type 0
IsOne {A} P = (one other : A) → P one → P other → one ≡ other

-- where a test's answer stands there is one, and where what was read goes on to one there is one
pub one_through : {T A E : Type 0} (r : Result T E) (P : T → A → Type 0) (answer : E → A) → ((x : T) → IsOne (P x)) → IsOne (λ a. MatchResult r (λ x. P x a) (λ e. a ≡ answer e))
one_through (Ok x) P answer each one other p q = each x one other p q
one_through (Err e) P answer each one other p q = p ∙ sym q

one_segment : (bytes : List ℕ) (packet : IpPacket) (end : ℕ) → IsOne (HasSegment bytes packet end)
one_segment bytes packet end one other p q =
    let same = same_options bytes (packet.l4_at + 20) end p.options q.options p.read q.read in
    p.says ∙ ap (λ options. Ip (facts_of packet (segment_of bytes packet end options))) same ∙ sym q.says

one_carried_as : (upper : Upper) (bytes : List ℕ) (packet : IpPacket) → IsOne (CarriesAs upper bytes packet)
one_carried_as Tcp bytes packet =
    one_through (header_end bytes packet) (HasSegment bytes packet) (λ answer. answer) (one_segment bytes packet)
one_carried_as Udp bytes packet = λ one other p q. p ∙ sym q
one_carried_as Icmp bytes packet = λ one other p q. p ∙ sym q
one_carried_as Icmpv6 bytes packet = λ one other p q. p ∙ sym q
one_carried_as Other bytes packet = λ one other p q. p ∙ sym q

one_behind_chain : (bytes : List ℕ) (ip_at end : ℕ) → IsOne (IsBehindChain bytes ip_at end)
one_behind_chain bytes ip_at end one other p q =
    let same = (same_chain (next_header bytes end) (first_header bytes ip_at) p.chain.headers q.chain.headers p.last q.last p.chain.chain q.chain.chain).1 in
    p.says ∙ ap (behind_last bytes ip_at end) same ∙ sym q.says

one_packet : (version : Version) (bytes : List ℕ) (ip_at : ℕ) → IsOne (IsPacket version bytes ip_at)
one_packet V4 bytes ip_at = λ one other p q. p ∙ sym q
one_packet V6 bytes ip_at = one_through (end_v6 bytes ip_at) (IsBehindChain bytes ip_at) (λ answer. Err answer) (one_behind_chain bytes ip_at)

one_ip : (version : Version) (bytes : List ℕ) (ip_at : ℕ) → IsOne (DecodesIp version bytes ip_at)
one_ip version bytes ip_at one other p q =
    let same = one_packet version bytes ip_at p.header q.header p.read q.read in
    let Says : Result IpPacket Decoded → Type 0 = λ header. MatchResult header (λ packet. Carries bytes packet one) (λ answer. one ≡ answer) in
    one_through q.header (Carries bytes) (λ answer. answer) (λ packet. one_carried_as (upper_of packet.src packet.proto) bytes packet) one other (subst Says same p.says) q.says

pub one_decoding_lem : OneDecoding
one_decoding_lem link bytes =
    one_through (version_behind link bytes) (λ version. DecodesIp version bytes (packet_at link)) (λ answer. answer) (λ version. one_ip version bytes (packet_at link))
