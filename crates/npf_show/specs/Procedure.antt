-- A procedure: its head, the line of its log, the line of its normalisation, both indented, and its closing brace.
use Rattle.std.specs.Prelude.{ℕ, Bool, true, false, Option, Some, None, List, [], ◌∷◌, ◌++◌, codes}
use Rattle.npf_types.specs.declared.name.Name.{Name}
use Rattle.npf_types.specs.Name.{name_bytes}
use Rattle.npf_model.specs.declared.procedure.Procedure.{Procedure}
use Rattle.npf_show.specs.declared.procedure.NormalOption.{NormalOption}
use Rattle.npf_show.specs.declared.procedure.NormalOption.TheVariants.{MinTtl, MaxMss, NoDf}
use Rattle.npf_show.specs.Piece.{Piece, Word, Quoted, Number, Sign, glued, spaced, indent, line_end, closing_line, optional_pieces, comma_list}

-- the colon stays a sign of its own, since a string stands behind it
abbrev pub log_line : Name → List Piece
log_line name = indent ++ glued (Word (codes "log")) ++ glued (Sign (codes ":")) ++ spaced (Quoted (name_bytes name)) ++ line_end

abbrev pub normal_option : NormalOption → List Piece
normal_option (MinTtl number) = spaced (Quoted (codes "min-ttl")) ++ spaced (Number number)
normal_option (MaxMss number) = spaced (Quoted (codes "max-mss")) ++ spaced (Number number)
normal_option NoDf = spaced (Quoted (codes "no-df"))

abbrev pub least_option : Option ℕ → List NormalOption
least_option None = []
least_option (Some number) = MinTtl number ∷ []

abbrev pub greatest_option : Option ℕ → List NormalOption
greatest_option None = []
greatest_option (Some number) = MaxMss number ∷ []

abbrev pub fragment_option : Bool → List NormalOption
fragment_option false = []
fragment_option true = NoDf ∷ []

-- the options of a procedure's normalisation, in the grammar's order
abbrev pub normal_options : Procedure → List NormalOption
normal_options procedure = least_option procedure.min_ttl ++ greatest_option procedure.max_mss ++ fragment_option procedure.no_df

abbrev pub options_line : List NormalOption → List Piece
options_line options =
    indent ++ glued (Word (codes "normalize")) ++ glued (Sign (codes ":")) ++ comma_list normal_option options ++ line_end

-- a normalisation without options is left out
abbrev pub normalize_line : List NormalOption → List Piece
normalize_line [] = []
normalize_line (first ∷ others) = options_line (first ∷ others)

abbrev pub procedure_head : Procedure → List Piece
procedure_head procedure =
    glued (Word (codes "procedure")) ++ spaced (Quoted procedure.name) ++ spaced (Sign (codes "{")) ++ line_end

abbrev pub procedure_lines : Procedure → List Piece
procedure_lines procedure =
    procedure_head procedure ++ optional_pieces log_line procedure.log ++ normalize_line (normal_options procedure) ++ closing_line
