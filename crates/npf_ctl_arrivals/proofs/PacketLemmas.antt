-- The packets that a capture has at its extents, and what is known of them.
use Rattle.std.proofs.{Common.{◌≡◌, ◌∙◌, ℕ, List, All, length, map, drop, arith}, lemmas.List.{length-map, length-take, Elements.{All-map, All-weaker}}}
use Rattle.npf_types.specs.declared.{direction.Dir.Dir, interface.IfId.IfId, link.Link.Link}
use Rattle.npf_pcap.specs.{declared.extent.Extent.Extent, Extent.{IsShort, IsTimely, record_at, records_at}}
use Rattle.npf_traffic.specs.{declared.packet.Packet.Packet, Packet.IsShortPacket}
use Rattle.npf_ctl_arrivals.specs.{Arrivals.packet_of, Within.{CrossesOneOf, HasCaptureTime, IsInterfaceNumber}}

module _ (link : Link) (ifid : IfId) (dir : Dir) (bytes : List ℕ) where
  abbrev pub packet_at : Extent → Packet
  packet_at extent = packet_of link ifid dir (record_at bytes extent)

  abbrev pub packets_at : List Extent → List Packet
  packets_at extents = map (packet_of link ifid dir) (records_at bytes extents)

  pub length-packets_at : (extents : List Extent) → length (packets_at extents) ≡ length extents
  length-packets_at extents = length-map (records_at bytes extents) (packet_of link ifid dir) ∙ length-map extents (record_at bytes)

  -- a fact of each packet, from one of each extent
  each_packet : (P : Packet → Type 0) (extents : List Extent) → All (λ extent. P (packet_at extent)) extents → All P (packets_at extents)
  each_packet P extents all =
      All-map P (packet_of link ifid dir) (records_at bytes extents) (All-map (λ r. P (packet_of link ifid dir r)) (record_at bytes) extents all)

  pub short_packets : (extents : List Extent) → All IsShort extents → All IsShortPacket (packets_at extents)
  short_packets extents short =
      each_packet IsShortPacket extents
      (All-weaker IsShort (λ extent. IsShortPacket (packet_at extent)) (λ extent fits. omega (arith, fits, length-take extent.len (drop extent.at bytes))) extents short)

  pub timed_packets : (extents : List Extent) → All IsTimely extents → All HasCaptureTime (packets_at extents)
  timed_packets extents timely = each_packet HasCaptureTime extents timely

  pub crossing_packets : (count : ℕ) → IsInterfaceNumber count ifid → (extents : List Extent) → All (CrossesOneOf count) (packets_at extents)
  crossing_packets count one extents = each_packet (CrossesOneOf count) extents (λ k d h. one)
