-- The class of a piece, and the offers of a class.
use Rattle.std.specs.Prelude.{ℕ, ◌/◌, ◌%◌, ◌^◌, ◌==◌, List, map, filter, bit_xor}
use Rattle.npf_types.specs.declared.address.Addr.{Addr}
use Rattle.npf_types.specs.declared.address.Addr.TheVariants.{V4, V6}
use Rattle.npf_pieces.specs.declared.piece.FragKey.{FragKey}
use Rattle.npf_pieces.specs.declared.piece.Piece.{Piece}
use Rattle.npf_reass.specs.declared.offer.Offer.{Offer}

-- the exclusive or of an address's halves of 64 bits
abbrev pub folded_halves : Addr → ℕ
folded_halves (V4 address) = address
folded_halves (V6 address) = bit_xor (address / 2 ^ 64) (address % 2 ^ 64)

-- all pieces of one key are of one class
abbrev pub class_of : ℕ → FragKey → ℕ
class_of classes key = bit_xor (bit_xor (bit_xor (folded_halves key.src) (folded_halves key.dst)) key.proto) key.id % classes

-- whose an offer is
abbrev pub offer_seat : Offer → ℕ
offer_seat offer = offer.seat

-- what was offered: a packet's number and the piece that it is
abbrev pub offered : Offer → ℕ × Piece
offered offer = (offer.n, offer.piece)

-- what was offered of a class, in the order of a history
abbrev pub of_class : ℕ → ℕ → List Offer → List (ℕ × Piece)
of_class classes class history = map offered (filter (λ offer. class_of classes offer.piece.key == class) history)
