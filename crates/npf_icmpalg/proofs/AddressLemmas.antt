-- Where the words of addresses and ports lie.
use Rattle.std.{proofs.Common.{◌≡◌, ℕ, ◌+◌, ◌≤◌, Bool, true, false, Option, Some, None, arith}, specs.Prelude.if◌then◌else◌}
use Rattle.npf_types.specs.declared.{address.Addr.{Addr, TheVariants.{V4, V6}}, change.End.End}
use Rattle.npf_key.specs.Translated.{fitting, shares_family}
use Rattle.npf_packet.specs.{Field.{icmp_identifier, l4_destination_port, l4_source_port}, Place.least_ip_header}
use Rattle.npf_rewrite.specs.{Address.{address_words, end_words}, Translated.{destination_at, source_at}, Word.{AllWithin, named_word, word_list}}
use Rattle.npf_rewrite.proofs.EndLemmas.{address_size, fitted}
use Rattle.npf_icmpalg.specs.{declared.{error.Inner.Inner, header.HeaderEnds.HeaderEnds}, ErrorTranslated.{quoted_destination_write, quoted_source_write}}
use Rattle.npf_icmpalg.specs.{Header.HeaderWithin, Quoted.is_tcp_or_udp}

-- the words of an address of this family
address_within : (family x : Addr) (size at : ℕ) → at + address_size family ≤ size
    → shares_family x family ≡ true → AllWithin size (address_words at x)
address_within (V4 _) (V4 a) size at room same = (omega arith, (omega arith, tt))
address_within (V6 _) (V6 a) size at room same = (
  omega arith,
  (omega arith, (omega arith, (omega arith, (omega arith, (omega arith, (omega arith, (omega arith, tt))))))),
)
address_within (V4 _) (V6 a) size at room same = absurd cc
address_within (V6 _) (V4 a) size at room same = absurd cc

end_within : (family : Addr) (size at : ℕ) (end : Option End) → at + address_size family ≤ size
    → AllWithin size (end_words at (fitting family end))
end_within family size at end room =
    fitted family (λ o. AllWithin size (end_words at o)) tt
    (λ e same. address_within family e.addr size at room same) end

source_room : (family : Addr) (size ip_at : ℕ) → ip_at + least_ip_header family ≤ size
    → source_at ip_at family + address_size family ≤ size
source_room (V4 _) size ip_at room = omega arith
source_room (V6 _) size ip_at room = omega arith

destination_room : (family : Addr) (size ip_at : ℕ) → ip_at + least_ip_header family ≤ size
    → destination_at ip_at family + address_size family ≤ size
destination_room (V4 _) size ip_at room = omega arith
destination_room (V6 _) size ip_at room = omega arith

chosen_within : (b : Bool) (family : Addr) (size at : ℕ) (end : Option End) → at + address_size family ≤ size
    → AllWithin size (end_words at (if b then fitting family end else None))
chosen_within true family size at end room = end_within family size at end room
chosen_within false family size at end room = tt

-- ends that fit a header lie within what the header does, whether its source is written or not
pub header_within : (b : Bool) (family : Addr) (size ip_at : ℕ) (src dst : Option End)
    → ip_at + least_ip_header family ≤ size
    → HeaderWithin size (record {
      family = family;
      ip_at = ip_at;
      src = if b then fitting family src else None;
      dst = fitting family dst;
    })
header_within b family size ip_at src dst room = record {
  room = room;
  src = chosen_within b family size (source_at ip_at family) src (source_room family size ip_at room);
  dst = end_within family size (destination_at ip_at family) dst (destination_room family size ip_at room);
}

-- a word that is named lies where it does
named_within : (size at : ℕ) (value : Option ℕ) → at + 2 ≤ size → AllWithin size (word_list (named_word at value))
named_within size at (Some value) room = (room, tt)
named_within size at None room = tt

source_by : (b : Bool) (size at : ℕ) (port identifier : Option ℕ) → at + 8 ≤ size
    → AllWithin size (word_list (if b then named_word (at + l4_source_port) port else named_word (at + icmp_identifier) identifier))
source_by true size at port identifier room = named_within size (at + l4_source_port) port (omega arith)
source_by false size at port identifier room = named_within size (at + icmp_identifier) identifier (omega arith)

destination_by : (b : Bool) (size at : ℕ) (port : Option ℕ) → at + 8 ≤ size
    → AllWithin size (word_list (if b then named_word (at + l4_destination_port) port else None))
destination_by true size at port room = named_within size (at + l4_destination_port) port (omega arith)
destination_by false size at port room = tt

-- ports and identifier lie in the first eight bytes of what is carried
module _ (inner : Inner) (header : HeaderEnds) (size : ℕ) (room : inner.l4_at + 8 ≤ size) where
  pub source_within : AllWithin size (word_list (quoted_source_write inner header))
  source_within = source_by (is_tcp_or_udp inner.proto) size inner.l4_at _ _ room

  pub destination_within : AllWithin size (word_list (quoted_destination_write inner header))
  destination_within = destination_by (is_tcp_or_udp inner.proto) size inner.l4_at _ room
