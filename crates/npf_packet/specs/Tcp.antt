-- The header of TCP (RFC 9293 section 3.1), by the offsets of its fields:
--
--    0: source port    2: destination port
--    4: sequence number
--    8: acknowledgment number
--   12: data offset   13: control bits   14: window
--   16: checksum      18: urgent pointer
--   20: options
use Rattle.std.specs.Prelude.{◌≡◌, ℕ, ◌+◌, ◌-◌, ◌*◌, ◌/◌, nat_lt, if◌then◌else◌, Result, Ok, Err, MatchResult, List, slice_index}
use Rattle.npf_types.specs.declared.facts.L4.{L4}
use Rattle.npf_types.specs.declared.facts.L4.TheVariants.{Tcp}
use Rattle.npf_packet.specs.declared.decoded.Decoded.{Decoded}
use Rattle.npf_packet.specs.declared.decoded.Decoded.TheVariants.{Ip}
use Rattle.npf_packet.specs.declared.packet.IpPacket.{IpPacket}
use Rattle.npf_packet.specs.declared.tcp_option.Options.{Options}
use Rattle.npf_fields.specs.Field.{number16, number32}
use Rattle.npf_packet.specs.Field.{l4_source_port, l4_destination_port, tcp_sequence, tcp_acknowledgment, tcp_data_offset, tcp_flags, tcp_window}
use Rattle.npf_packet.specs.Decoded.{cut, bad}
use Rattle.npf_packet.specs.TcpOption.{HasOptions}
use Rattle.npf_packet.specs.Packet.{facts_of}

module _ (bytes : List ℕ) (packet : IpPacket) where
  -- the header's length in bytes: the data offset counts words of four
  abbrev pub header_len : ℕ
  header_len = 4 * (slice_index bytes (packet.l4_at + tcp_data_offset) / 16)

  -- where the header ends
  abbrev pub header_end : Result ℕ Decoded
  header_end =
      if nat_lt packet.end (packet.l4_at + 20) then Err (cut packet.end)
      else (if nat_lt header_len 20 then Err (bad (packet.l4_at + tcp_data_offset))
      else (if nat_lt packet.end (packet.l4_at + header_len) then Err (cut packet.end) else Ok (packet.l4_at + header_len)))

  -- a segment whose header ends here and has options that say this; its payload are the bytes up to the packet's end
  abbrev pub segment_of : ℕ → Options → L4
  segment_of header_end options =
      let at = packet.l4_at in
      Tcp (number16 bytes (at + l4_source_port)) (number16 bytes (at + l4_destination_port)) (record {
        flags = slice_index bytes (at + tcp_flags);
        seq = number32 bytes (at + tcp_sequence);
        ack = number32 bytes (at + tcp_acknowledgment);
        win = number16 bytes (at + tcp_window);
        len = packet.end - header_end;
        scale = options.scale;
      }) options.mss_at

  -- the packet carries a segment whose header ends here, and says this
  pub record HasSegment (header_end : ℕ) (decoded : Decoded) : Type 0 where
    pub options : Options
    pub read : HasOptions bytes (packet.l4_at + 20) header_end options
    pub says : decoded ≡ Ip (facts_of packet (segment_of header_end options))

  abbrev pub CarriesTcp : Decoded → Type 0
  CarriesTcp decoded = MatchResult header_end (λ header_end. HasSegment header_end decoded) (λ answer. decoded ≡ answer)
