-- Which packets are errors of ICMP or ICMPv6 that quote a packet of theirs, and what they quote.
use Rattle.std.specs.Prelude.{◌≡◌, ℕ, ◌+◌, ◌==◌, ◌||◌, ◌&&◌, ◌≤◌, nat_le, if◌then◌else◌, Bool, true, false, Option, Some, None, List, IfSome}
use Rattle.npf_types.specs.declared.facts.Facts.{Facts}
use Rattle.npf_types.specs.declared.facts.L4.{L4}
use Rattle.npf_types.specs.declared.facts.L4.TheVariants.{Tcp, Udp, Icmp, Icmp6, Other}
use Rattle.npf_types.specs.declared.interface.IfId.{IfId}
use Rattle.npf_types.specs.declared.key.Key.{Key}
use Rattle.npf_key.specs.Key.{key_between}
use Rattle.npf_packet.specs.Field.{l4_source_port, l4_destination_port}
use Rattle.npf_packet.specs.Place.{least_ip_header}
use Rattle.npf_icmpalg.specs.declared.error.Inner.{Inner}
use Rattle.npf_icmpalg.specs.declared.quoted.Quoted.{Quoted}
use Rattle.npf_icmpalg.specs.Quoted.{is_same_address, is_quoted_header, is_quoted_upper, port_or_identifier, quoted_at, quoted_echo, quoted_in, sum_offset, whole_sum_at}

-- An unreachable destination, an exceeded time or a parameter that is a problem (RFC 792); in
-- ICMPv6 these and a packet that is too big (RFC 4443 section 3).
abbrev pub is_error_kind : L4 → Bool
is_error_kind (Icmp kind _ _) = kind == 3 || kind == 11 || kind == 12
is_error_kind (Icmp6 kind _ _) = nat_le 1 kind && nat_le kind 4
is_error_kind (Tcp _ _ _ _) = false
is_error_kind (Udp _ _) = false
is_error_kind Other = false

module _ (bytes : List ℕ) (facts : Facts) where
  -- the quoted packet's header
  abbrev pub quoted_header : Quoted
  quoted_header = quoted_in bytes (quoted_at facts) facts.src

  -- The packet's type is that of an error; an IP header of its version is quoted; that carries TCP,
  -- UDP or an echo; and the quoted packet came from where the error goes.
  abbrev pub is_error : Bool
  is_error =
      is_error_kind facts.l4 && is_quoted_header bytes (quoted_at facts) facts.src facts.end
      && is_quoted_upper bytes quoted_header facts.src && is_same_address quoted_header.src facts.dst

  -- what is quoted
  abbrev pub error_in : Inner
  error_in =
      let quoted = quoted_header in
      let echo = quoted_echo bytes quoted facts.src in
      record {
        src = quoted.src;
        dst = quoted.dst;
        proto = quoted.proto;
        sport = port_or_identifier bytes echo (quoted.l4_at + l4_source_port);
        dport = port_or_identifier bytes echo (quoted.l4_at + l4_destination_port);
        ip_at = quoted_at facts;
        l4_at = quoted.l4_at;
        sum_at = whole_sum_at (quoted.l4_at + sum_offset quoted.proto) facts.end;
      }

  -- what the packet quotes, where it is an error
  abbrev pub quoted_packet : Option Inner
  quoted_packet = if is_error then Some error_in else None

-- the packet is an error, and quotes this
pub record IsError (bytes : List ℕ) (facts : Facts) (inner : Inner) : Type 0 where
  pub error : is_error bytes facts ≡ true
  pub is : inner ≡ error_in bytes facts

-- The places of what is quoted follow one another before the packet's end. This says nothing of the
-- bytes, so it holds whatever is written in them.
pub record HasQuotedRoom (facts : Facts) (inner : Inner) : Type 0 where
  pub header : inner.ip_at ≡ quoted_at facts
  pub upper : inner.ip_at + least_ip_header facts.src ≤ inner.l4_at
  pub upper_header : inner.l4_at + 8 ≤ facts.end
  pub sum : IfSome inner.sum_at (λ at. at + 2 ≤ facts.end)

-- The key of what answers the quoted packet, with source and destination changed about: a
-- connection's packet is quoted by an error that comes from the other side.
abbrev pub inner_key : Inner → IfId → Key
inner_key inner ifid = key_between inner.proto inner.dst inner.dport inner.src inner.sport ifid
