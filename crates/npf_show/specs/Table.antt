-- A table: its name, its kind, and its file where it has one.
use Rattle.std.specs.Prelude.{ℕ, List, ◌++◌, codes}
use Rattle.npf_types.specs.Name.{name_bytes}
use Rattle.npf_model.specs.declared.table.Kind.{Kind}
use Rattle.npf_model.specs.declared.table.Kind.TheVariants.{Ipset, Lpm, Const}
use Rattle.npf_model.specs.declared.table.TableDecl.{TableDecl}
use Rattle.npf_show.specs.Ends.{angled}
use Rattle.npf_show.specs.Piece.{Piece, Word, Quoted, glued, spaced, line_end, optional_pieces}

abbrev pub kind_pieces : Kind → List Piece
kind_pieces Ipset = spaced (Word (codes "ipset"))
kind_pieces Lpm = spaced (Word (codes "lpm"))
kind_pieces Const = spaced (Word (codes "const"))

abbrev pub file_pieces : List ℕ → List Piece
file_pieces file = spaced (Word (codes "file")) ++ spaced (Quoted file)

abbrev pub table_line : TableDecl → List Piece
table_line table =
    glued (Word (codes "table"))
    ++ angled (name_bytes table.name)
    ++ spaced (Word (codes "type"))
    ++ kind_pieces table.kind
    ++ optional_pieces file_pieces table.file
    ++ line_end
