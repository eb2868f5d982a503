-- Why a text is refused.
use Rattle.std.specs.Prelude.{◌≡◌, ◌≢◌, ◌⊎◌, ◌+◌, ◌<◌, ◌≤◌, ℕ, List, [], ◌++◌, length, take, slice_get}
use Rattle.std.specs.List.{All}
use Rattle.npf_types.specs.declared.name.Name.{Name}
use Rattle.npf_saved.specs.declared.saved.Saved.{Saved}
use Rattle.npf_saved.specs.Fields.{FitsName}
use Rattle.npf_saved.specs.File.{saved_text}
use Rattle.npf_saved.specs.Spelling.{head_line}
use Rattle.npf_saved_file.specs.declared.fault.SavedFault.{SavedFault}
use Rattle.npf_saved_file.specs.declared.fault.SavedFault.TheVariants.{BadSaved, OtherInterfaces, TooManySaved, SavedNoNode, NoMemory}
use Rattle.npf_saved_file.specs.Conns.{AreSavedConns}
use Rattle.npf_saved_file.specs.File.{IsFirstLine, IsNoSavedFile, IsOnlySavedFile}
use Rattle.npf_saved_file.specs.Lines.{IsBadSavedLine}

-- the first line isn't the head, or no line feed ends it
pub record IsBadHead (text : List ℕ) (number : ℕ) : Type 0 where
  pub counted : number ≡ 1
  pub other : (behind : List ℕ) → ¬ IsFirstLine text head_line behind

-- good lines are followed by a line that may not stand behind them, or that no line feed ends
pub record IsBadLine (text : List ℕ) (number : ℕ) : Type 0 where
  pub names : List Name
  pub conns : List Saved
  pub rest : List ℕ
  pub spelled : text ≡ saved_text names conns ++ rest
  pub named : All FitsName names
  pub good : AreSavedConns conns
  pub counted : number ≡ length names + length conns + 2
  pub some : rest ≢ []
  pub bad : (line behind : List ℕ) → IsFirstLine rest line behind → IsBadSavedLine conns line

-- the line of this number, from 1, is the first bad one; so the text is none of a saved file
pub record IsFirstBadSaved (text : List ℕ) (number : ℕ) : Type 0 where
  pub bad : IsBadHead text number ⊎ IsBadLine text number
  pub none : IsNoSavedFile text

-- up to this place the lists are the same, and there they aren't, or one of them ends
pub record IsFirstDifference {X : Type 0} (one other : List X) (place : ℕ) : Type 0 where
  pub same : take place one ≡ take place other
  pub differs : slice_get one place ≢ slice_get other place

-- the file is one of other interfaces than these, from this line on: the first interface stands on line 2
pub record HasOtherInterfaces (text : List ℕ) (names : List Name) (line : ℕ) : Type 0 where
  pub others : List Name
  pub conns : List Saved
  pub file : IsOnlySavedFile text others conns
  pub place : ℕ
  pub first : IsFirstDifference others names place
  pub counted : line ≡ place + 2

-- the file lists so many connections, and they are more than the slots
pub record HasTooMany (text : List ℕ) (names : List Name) (slots count : ℕ) : Type 0 where
  pub conns : List Saved
  pub file : IsOnlySavedFile text names conns
  pub counted : count ≡ length conns
  pub many : slots < count

-- why a text isn't read; want of memory says nothing of it, and no table was asked yet
abbrev pub RefusesSaved : List ℕ → List Name → ℕ → SavedFault → Type 0
RefusesSaved text names slots (BadSaved line) = IsFirstBadSaved text line
RefusesSaved text names slots (OtherInterfaces line) = HasOtherInterfaces text names line
RefusesSaved text names slots (TooManySaved count) = HasTooMany text names slots count
RefusesSaved text names slots SavedNoNode = ⊥
RefusesSaved text names slots NoMemory = Unit {0}

-- the file may be loaded: it is one of these interfaces, and there is a slot for each connection
pub record MayLoad (text : List ℕ) (names : List Name) (slots : ℕ) (conns : List Saved) : Type 0 where
  pub file : IsOnlySavedFile text names conns
  pub room : length conns ≤ slots

-- why its lines aren't taken
abbrev pub RefusesLines : List ℕ → SavedFault → Type 0
RefusesLines text (BadSaved line) = IsFirstBadSaved text line
RefusesLines text NoMemory = Unit {0}
RefusesLines text _ = ⊥
