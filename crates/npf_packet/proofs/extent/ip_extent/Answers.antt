use Rattle.std.proofs.Common.{◌≡◌, ◌+◌, ◌≤◌, ℕ, List, length, sym, ap, ◌∙◌, subst, arith}
use Rattle.npf_types.specs.declared.{address.Addr.{Addr, TheVariants.{V4, V6}}, facts.Facts.Facts, link.Link.Link}
use Rattle.npf_packet.specs.{declared.decoded.Decoded.TheVariants.Ip, Decoder.{Decodes, packet_at}, Extent.told_end, Place.least_ip_header}
use Rattle.npf_packet.proofs.{HeaderLemmas.is_read, UpperLemmas.is_carried, extent.ip_extent.Goals.{then-size-at, else-size-at}}
use Rattle.npf_packet.proofs.extent.ip_extent.Goals as goal

-- an IP header has both lengths
has_lengths : (src : Addr) → 6 ≤ least_ip_header src
has_lengths (V4 a) = omega arith
has_lengths (V6 a) = omega arith

-- what the IP header tells of a packet's facts
record IsTold (link : Link) (bytes : List ℕ) (facts : Facts) : Type 0 where
  at : packet_at link ≡ facts.ip_at
  end : told_end bytes (packet_at link) ≡ facts.end
  header : packet_at link + 6 ≤ length bytes
  whole : facts.end ≤ length bytes

is_told : (link : Link) (bytes : List ℕ) (facts : Facts) → Decodes link bytes (Ip facts)
    → IsTold link bytes facts
is_told link bytes facts decodes =
    let read = is_read link bytes facts decodes in
    let carried = is_carried bytes read.packet facts read.ip.before read.carries in
    subst (IsTold link bytes) carried.is (record {
      at = sym read.ip.ip;
      end = ap (told_end bytes) (sym read.ip.ip) ∙ read.ip.told;
      header =
          omega (arith, has_lengths read.packet.src, read.ip.ip, read.ip.after, read.ip.before, read.ip.end);
      whole = read.ip.end;
    })

pub returns-clause-packet : goal.returns-clause-packet
returns-clause-packet c = λ facts decodes.
    let bytes = c.args.bytes.now in
    let told = is_told c.args.link bytes facts decodes in
    elim c.if-size-at.branch [
      | then-size-at w ↦ absurd (omega (arith, told.header))
      | else-size-at w ↦
          let end : w.told_end.result ≡ facts.end = w.told_end.ensures ∙ ap (told_end bytes) c.packet_at-at.ensures ∙ told.end in
          record { at = c.packet_at-at.ensures ∙ told.at; end = omega (arith, end, told.whole) }
    ]
