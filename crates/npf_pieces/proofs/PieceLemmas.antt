-- A fragment that isn't bad is a good piece.
use Rattle.std.proofs.{Common.{◌≡◌, ◌≤◌, ◌%◌, ◌⊎◌, true, false, arith}, lemmas.Bool.Decides.nat_tests}
use Rattle.npf_pieces.specs.{declared.piece.Piece.Piece, Piece.{BeginsUnit, IsGood, end_of, is_all, is_bad, length_of}}

ends_whole : (piece : Piece) → is_bad piece ≡ false → (piece.last ≡ true) ⊎ (length_of piece % 8 ≡ 0)
ends_whole piece h = grind (arith, nat_tests)

is_filled : (piece : Piece) → is_bad piece ≡ false → (is_all piece ≡ true) ⊎ (1 ≤ length_of piece)
is_filled piece h = grind (arith, nat_tests)

ends_within : (piece : Piece) → is_bad piece ≡ false → end_of piece ≤ 65535
ends_within piece h = grind (arith, nat_tests)

pub good_unless_bad : (piece : Piece) → BeginsUnit piece → is_bad piece ≡ false → IsGood piece
good_unless_bad piece aligned h = record {
  begins = aligned.unit;
  ends = ends_whole piece h;
  filled = is_filled piece h;
  within = ends_within piece h;
}
