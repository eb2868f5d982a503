-- A key is five numbers of 64 bits, in which each part has bits of its own.
use Rattle.std.specs.Prelude.{ℕ, ◌+◌, ◌*◌, ◌/◌, ◌%◌, ◌^◌, [], ◌∷◌}
use Rattle.npf_types.specs.declared.address.Addr.{Addr}
use Rattle.npf_types.specs.declared.address.Addr.TheVariants.{V4, V6}
use Rattle.npf_types.specs.declared.interface.IfId.{IfId}
use Rattle.npf_types.specs.declared.key.Key.{Key}
use Rattle.npf_types.specs.declared.facts.Facts.{Facts}
use Rattle.npf_types.specs.declared.change.Change.{Change}
use Rattle.npf_key.specs.Port.{source_port, destination_port}
use Rattle.npf_key.specs.Translated.{facts_there, about}

-- the version number of an address's family, as the first field of its packets has it (RFC 791, RFC 8200)
abbrev pub version : Addr → ℕ
version (V4 _) = 4
version (V6 _) = 6

-- an address as two numbers of 64 bits: an IPv4 address has upper half 0
abbrev pub upper : Addr → ℕ
upper (V4 _) = 0
upper (V6 address) = address / 2 ^ 64

abbrev pub lower : Addr → ℕ
lower (V4 address) = address
lower (V6 address) = address % 2 ^ 64

-- the first number of a packet's key, from the highest bits: the version, which is that of the source's family (a packet has
-- both addresses of one), the protocol, the interface and both ports
abbrev pub first_word : ℕ → Addr → ℕ → ℕ → IfId → ℕ
first_word proto src sport dport ifid = version src * 2 ^ 56 + proto * 2 ^ 48 + ifid.0 * 2 ^ 32 + sport * 2 ^ 16 + dport

-- the key of what has this protocol and goes from one port of an address to another: then the source and the destination
abbrev pub key_between : ℕ → Addr → ℕ → Addr → ℕ → IfId → Key
key_between proto src sport dst dport ifid =
    record { 0 = first_word proto src sport dport ifid ∷ upper src ∷ lower src ∷ upper dst ∷ lower dst ∷ [] }

-- a packet's key
abbrev pub key_of : Facts → IfId → Key
key_of facts ifid = key_between facts.proto facts.src (source_port facts.l4) facts.dst (destination_port facts.l4) ifid

-- the key of the answers to a packet that this change translates: that of the translated packet with source and destination
-- changed about
abbrev pub backward_key : Facts → IfId → Change → Key
backward_key facts ifid there = key_of (about (facts_there there facts)) ifid

-- the first number of a port's key: the version of the address, with the highest bit as a mark, and the port
abbrev pub marked_word : Addr → ℕ → ℕ
marked_word addr port = (0x80 + version addr) * 2 ^ 56 + port

-- the key of a port of an address, which a translation draws
abbrev pub port_key : Addr → ℕ → Key
port_key addr port = record { 0 = marked_word addr port ∷ upper addr ∷ lower addr ∷ 0 ∷ 0 ∷ [] }
