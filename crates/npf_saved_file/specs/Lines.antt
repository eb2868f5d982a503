-- How a file is taken line by line.
use Rattle.std.specs.Prelude.{◌≡◌, ◌⊎◌, ℕ, Bool, true, false, List, [], ◌∷◌, ◌++◌}
use Rattle.std.specs.List.{All, flat_map}
use Rattle.npf_types.specs.declared.name.Name.{Name}
use Rattle.npf_types.specs.Reading.{IsOnly}
use Rattle.npf_saved.specs.declared.saved.Saved.{Saved}
use Rattle.npf_saved.specs.Fields.{FitsName}
use Rattle.npf_saved.specs.File.{IsConnLine, IsIfLine}
use Rattle.npf_saved_file.specs.declared.lines.Lines.{Lines}
use Rattle.npf_saved_file.specs.Conns.{AreSavedConns, HasKeys, saved_keys}

-- what was taken may stand in this order, and the set has the connections' keys
pub record AreTaken (lines : Lines) : Type 0 where
  pub names : All FitsName lines.names.items
  pub conns : AreSavedConns lines.conns.items
  pub keys : HasKeys lines.keys.keys (flat_map saved_keys lines.conns.items)

-- the line isn't that of an interface, or a connection stands before it
abbrev pub IsNoInterface : List Saved → List ℕ → Type 0
IsNoInterface conns line = conns ≡ [] → (name : Name) → ¬ IsIfLine line name

-- the line is that of an interface, behind interfaces alone
pub record TakesName (old : Lines) (line : List ℕ) (new : Lines) : Type 0 where
  pub first : old.conns.items ≡ []
  pub name : Name
  pub is : IsOnly IsIfLine line name
  pub names : new.names.items ≡ old.names.items ++ name ∷ []
  pub conns : new.conns.items ≡ old.conns.items

-- the line is that of a connection that may stand behind the others
pub record TakesConn (old : Lines) (line : List ℕ) (new : Lines) : Type 0 where
  pub other : IsNoInterface old.conns.items line
  pub saved : Saved
  pub is : IsOnly IsConnLine line saved
  pub names : new.names.items ≡ old.names.items
  pub conns : new.conns.items ≡ old.conns.items ++ saved ∷ []

-- behind these connections the line is none of an interface, nor of a connection that may stand there
pub record IsBadSavedLine (conns : List Saved) (line : List ℕ) : Type 0 where
  pub interface : IsNoInterface conns line
  pub connection : (saved : Saved) → IsConnLine line saved → ¬ AreSavedConns (conns ++ saved ∷ [])

-- the line was taken: false where it may not stand there
abbrev pub TakesLine : Lines → List ℕ → Lines → Bool → Type 0
TakesLine old line new true = AreTaken new × (TakesName old line new ⊎ TakesConn old line new)
TakesLine old line new false = IsBadSavedLine old.conns.items line
