-- In each record one answer is found, and a fragment isn't looked into.
use Rattle.std.proofs.{Common.{◌≡◌, ℕ, true, Some, None, List, Err, refl, sym, ap, ◌∙◌, arith}, lemmas.Bool.Decides.nat_tests}
use Rattle.npf_packet.specs.declared.{decoded.Decoded.TheVariants.Skip, fragment_at.FragmentAt.FragmentAt, ipv6.Header.Header, packet.IpPacket.IpPacket}
use Rattle.npf_packet.specs.{declared.version.Version.{Version, TheVariants.{V4, V6}}, Decoder.{DecodesIp, packet_at, version_behind}}
use Rattle.npf_packet.specs.{FragmentAt.{FindsBehindChain, FindsIn, FragmentIsSkipped, OneFragment, fragment_v4, fragment_v6}, Ipv4.{is_fragment, whole_v4}}
use Rattle.npf_packet.{specs.Ipv6.{IsBehindChain, behind_last, end_v6, first_header, next_header}, proofs.ChainLemmas.same_chain}
use Rattle.npf_packet.proofs.{DecodingLemmas.{IsOne, one_through}, HeaderLemmas.{of_ok, when_fragment}}

one_behind_chain : (bytes : List ℕ) (ip_at end : ℕ) → IsOne (FindsBehindChain bytes ip_at end)
one_behind_chain bytes ip_at end one other p q =
    let same = (same_chain (next_header bytes end) (first_header bytes ip_at) p.chain.headers q.chain.headers p.last q.last p.chain.chain q.chain.chain).1 in
    p.is ∙ ap (fragment_v6 ip_at end) same ∙ sym q.is

one_in : (version : Version) (bytes : List ℕ) (ip_at : ℕ) → IsOne (FindsIn version bytes ip_at)
one_in V4 bytes ip_at =
    one_through (whole_v4 bytes ip_at) (λ packet found. found ≡ fragment_v4 bytes ip_at packet) (λ answer. None) (λ packet one other p q. p ∙ sym q)
one_in V6 bytes ip_at = one_through (end_v6 bytes ip_at) (FindsBehindChain bytes ip_at) (λ answer. None) (one_behind_chain bytes ip_at)

pub one_fragment_lem : OneFragment
one_fragment_lem link bytes =
    one_through (version_behind link bytes) (λ version. FindsIn version bytes (packet_at link)) (λ answer. None) (λ version. one_in version bytes (packet_at link))

-- what tells a fragment
is_part_v4 : (bytes : List ℕ) (ip_at : ℕ) (packet : IpPacket) (found : FragmentAt)
    → Some found ≡ fragment_v4 bytes ip_at packet → is_fragment bytes ip_at ≡ true
is_part_v4 bytes ip_at packet found h = grind (arith, nat_tests)

is_part_v6 : (bytes : List ℕ) (ip_at end : ℕ) (last : Header) (found : FragmentAt)
    → Some found ≡ fragment_v6 ip_at end last → behind_last bytes ip_at end last ≡ Err Skip
is_part_v6 bytes ip_at end last found h = grind (arith, nat_tests)

skipped_in : (version : Version) (bytes : List ℕ) (ip_at : ℕ) (found : FragmentAt)
    → FindsIn version bytes ip_at (Some found) → DecodesIp version bytes ip_at Skip
skipped_in V4 bytes ip_at found finds =
    let whole = of_ok (whole_v4 bytes ip_at) (λ packet. Some found ≡ fragment_v4 bytes ip_at packet)
    (λ answer. Some found ≡ None) (λ answer e no. cc) finds in
    let part = is_part_v4 bytes ip_at whole.0 found whole.1.1 in
    record {
      header = Err Skip;
      read = sym (when_fragment bytes ip_at (whole_v4 bytes ip_at) whole.0 whole.1.0 part);
      says = refl;
    }
skipped_in V6 bytes ip_at found finds =
    let whole = of_ok (end_v6 bytes ip_at) (λ end. FindsBehindChain bytes ip_at end (Some found))
    (λ answer. Some found ≡ None) (λ answer e no. cc) finds in
    let end = whole.0 in
    let behind = whole.1.1 in
    record {
      header = Err Skip;
      read = rw whole.1.0 (let is : IsBehindChain bytes ip_at end (Err Skip) = record {
        last = behind.last;
        chain = behind.chain;
        says = sym (is_part_v6 bytes ip_at end behind.last found behind.is);
      } in is);
      says = refl;
    }

pub fragment_is_skipped_lem : FragmentIsSkipped
fragment_is_skipped_lem link bytes found finds =
    let behind = of_ok (version_behind link bytes) (λ version. FindsIn version bytes (packet_at link) (Some found))
    (λ answer. Some found ≡ None) (λ answer e no. cc) finds in
    rw behind.1.0 (skipped_in behind.0 bytes (packet_at link) found behind.1.1)
