-- A file of saved connections, and its lines.
use Rattle.std.specs.Prelude.{◌≡◌, ◌==◌, ℕ, Bool, List, [], ◌++◌}
use Rattle.std.specs.List.{All, before_first}
use Rattle.npf_types.specs.declared.name.Name.{Name}
use Rattle.npf_saved.specs.declared.saved.Saved.{Saved}
use Rattle.npf_saved.specs.Fields.{FitsName}
use Rattle.npf_saved.specs.File.{ended_line, saved_text}
use Rattle.npf_saved_file.specs.Conns.{AreSavedConns}

-- the text is that of these interfaces and connections, which may stand in this order
pub record IsSavedFile (text : List ℕ) (names : List Name) (conns : List Saved) : Type 0 where
  pub spelled : text ≡ saved_text names conns
  pub named : All FitsName names
  pub good : AreSavedConns conns

-- and that of no others
pub record IsOnlySavedFile (text : List ℕ) (names : List Name) (conns : List Saved) : Type 0 where
  pub file : IsSavedFile text names conns
  pub only : (others : List Name) (all : List Saved) → IsSavedFile text others all → (others ≡ names) × (all ≡ conns)

-- it is that of none
abbrev pub IsNoSavedFile : List ℕ → Type 0
IsNoSavedFile text = (names : List Name) (conns : List Saved) → ¬ IsSavedFile text names conns

abbrev pub is_line_feed : ℕ → Bool
is_line_feed byte = byte == 10

-- the text begins with this line, which a line feed ends
pub record IsFirstLine (text line behind : List ℕ) : Type 0 where
  pub spelled : text ≡ ended_line line ++ behind
  pub whole : line ≡ before_first is_line_feed text
