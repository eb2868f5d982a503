-- What the canonical text of npf.conf(5) is made of: words, strings in quotes, decimal numbers, addresses and signs, with the spaces
-- and line feeds between them. Pieces without a space between them stand directly behind each other.
use Rattle.std.specs.Prelude.{ℕ, Option, Some, None, List, [], ◌∷◌, ◌++◌, codes, decimal}
use Rattle.std.specs.List.{flat_map, join_by}
use Rattle.npf_types.specs.declared.address.Addr.{Addr}
use Rattle.npf_show.specs.Address.{address_text}

pub data Piece : Type 0 where
  Space : Piece
  LineEnd : Piece
  Word : (text : List ℕ) → Piece
  Quoted : (text : List ℕ) → Piece
  Number : (number : ℕ) → Piece
  Address : (addr : Addr) → Piece
  Sign : (text : List ℕ) → Piece

-- how a piece is spelled
abbrev pub piece_text : Piece → List ℕ
piece_text Space = codes " "
piece_text LineEnd = codes "\n"
piece_text (Word text) = text
piece_text (Quoted text) = codes "\"" ++ text ++ codes "\""
piece_text (Number number) = decimal number
piece_text (Address addr) = address_text addr
piece_text (Sign text) = text

-- the pieces of a text, one directly behind the other
abbrev pub spelled : List Piece → List ℕ
spelled pieces = flat_map piece_text pieces

-- one piece without a space in front of it
abbrev pub glued : Piece → List Piece
glued piece = piece ∷ []

-- one piece behind a space
abbrev pub spaced : Piece → List Piece
spaced piece = Space ∷ piece ∷ []

-- two spaces, which stand in front of each item of a group and each call of a procedure
abbrev pub indent : List Piece
indent = Space ∷ Space ∷ []

abbrev pub line_end : List Piece
line_end = LineEnd ∷ []

-- the line of a closing brace
abbrev pub closing_line : List Piece
closing_line = glued (Sign (codes "}")) ++ line_end

-- a part that may be left out
abbrev pub optional_pieces : {A : Type 0} → (A → List Piece) → Option A → List Piece
optional_pieces pieces None = []
optional_pieces pieces (Some a) = pieces a

-- elements with commas between them
abbrev pub comma_list : {A : Type 0} → (A → List Piece) → List A → List Piece
comma_list pieces elements = join_by pieces (glued (Sign (codes ","))) elements

-- a list of one element stands for itself, any other in braces
abbrev pub list_pieces : {A : Type 0} → (A → List Piece) → List A → List Piece
list_pieces pieces (only ∷ []) = pieces only
list_pieces pieces elements = spaced (Sign (codes "{")) ++ comma_list pieces elements ++ spaced (Sign (codes "}"))
