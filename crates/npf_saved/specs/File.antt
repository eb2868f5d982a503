-- A file of saved connections: the head, a line for each interface, and a line for each connection.
use Rattle.std.specs.Prelude.{◌≡◌, ℕ, List, [], ◌∷◌, ◌++◌}
use Rattle.std.specs.List.{flat_map}
use Rattle.npf_types.specs.declared.name.Name.{Name}
use Rattle.npf_saved.specs.declared.saved.Saved.{Saved}
use Rattle.npf_saved.specs.Fields.{FitsName, FitsSaved}
use Rattle.npf_saved.specs.Spelling.{conn_line, head_line, if_line}

-- the line is this connection's, spelled as it is and in no other way
pub record IsConnLine (line : List ℕ) (saved : Saved) : Type 0 where
  pub spelled : line ≡ conn_line saved
  pub fits : FitsSaved saved

pub record IsIfLine (line : List ℕ) (name : Name) : Type 0 where
  pub spelled : line ≡ if_line name
  pub fits : FitsName name

-- a line with its line feed
abbrev pub ended_line : List ℕ → List ℕ
ended_line line = line ++ 10 ∷ []

abbrev pub name_lines : List Name → List ℕ
name_lines names = flat_map (λ name. ended_line (if_line name)) names

abbrev pub conn_lines : List Saved → List ℕ
conn_lines conns = flat_map (λ saved. ended_line (conn_line saved)) conns

-- the text of these interfaces and connections
abbrev pub saved_text : List Name → List Saved → List ℕ
saved_text names conns = ended_line head_line ++ (name_lines names ++ conn_lines conns)
