-- The filter of a rule or a map: the family, the protocols with what more is said of them, and the ends.
use Rattle.std.specs.Prelude.{ℕ, Bool, true, false, ◌==◌, if◌then◌else◌, Option, List, [], ◌∷◌, ◌++◌, bit_and, codes}
use Rattle.std.specs.List.{flat_map}
use Rattle.npf_model.specs.declared.model.Model.{Model}
use Rattle.npf_model.specs.declared.rule.Rule.{Rule}
use Rattle.npf_show.specs.Ends.{where_pieces}
use Rattle.npf_show.specs.Piece.{Piece, Word, Number, Sign, glued, spaced, optional_pieces, list_pieces}

-- the family of `inet6` is `true`
abbrev pub family_pieces : Bool → List Piece
family_pieces false = spaced (Word (codes "family")) ++ spaced (Word (codes "inet4"))
family_pieces true = spaced (Word (codes "family")) ++ spaced (Word (codes "inet6"))

abbrev pub protocol_pieces : ℕ → List Piece
protocol_pieces protocol = spaced (Number protocol)

-- no protocols mean any, and are left out
abbrev pub protocols_pieces : List ℕ → List Piece
protocols_pieces [] = []
protocols_pieces (first ∷ others) = spaced (Word (codes "proto")) ++ list_pieces protocol_pieces (first ∷ others)

-- the letters of the control bits beside their bits, from the lowest on (RFC 9293 section 3.1, RFC 3168 section 6.1): FSRPAUEW
abbrev pub letters_of_bits : List (ℕ × ℕ)
letters_of_bits = (70, 1) ∷ (83, 2) ∷ (82, 4) ∷ (80, 8) ∷ (65, 16) ∷ (85, 32) ∷ (69, 64) ∷ (87, 128) ∷ []

abbrev pub letter_if_set : ℕ → ℕ × ℕ → List ℕ
letter_if_set bits row = if bit_and bits row.1 == 0 then [] else row.0 ∷ []

abbrev pub flag_text : ℕ → List ℕ
flag_text bits = flat_map (letter_if_set bits) letters_of_bits

-- the bits that have to be set, and the mask that they are looked at through
abbrev pub flags_pieces : ℕ × ℕ → List Piece
flags_pieces flags =
    spaced (Word (codes "flags")) ++ spaced (Word (flag_text flags.0)) ++ glued (Sign (codes "/")) ++ glued (Word (flag_text flags.1))

abbrev pub code_pieces : ℕ → List Piece
code_pieces code = spaced (Word (codes "code")) ++ spaced (Number code)

abbrev pub icmp_pieces : ℕ × Option ℕ → List Piece
icmp_pieces icmp = spaced (Word (codes "icmp-type")) ++ spaced (Number icmp.0) ++ optional_pieces code_pieces icmp.1

abbrev pub filter_pieces : Model → Rule → List Piece
filter_pieces model rule =
    optional_pieces family_pieces rule.v6
    ++ protocols_pieces rule.protos
    ++ optional_pieces flags_pieces rule.flags
    ++ optional_pieces icmp_pieces rule.icmp
    ++ where_pieces model rule.from rule.to
