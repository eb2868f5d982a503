-- The file of a run's interfaces: each line has a name and its addresses, parted by spaces, or is blank. A comment goes from `#`
-- to its line's end. A line is blank where nothing but spaces and tabs stands before its comment. In any other line no byte but a
-- space parts words, so a tab or a carriage return stands in a word and makes the line bad.
use Rattle.std.specs.Prelude.{◌≡◌, ◌≢◌, ◌==◌, ◌||◌, ◌+◌, ℕ, Bool, true, false, IsTrue, Some, List, [], ◌∷◌, Contains, length, map, take, slice_get}
use Rattle.std.specs.List.{AllPairs, before_first, filter, list_all, slice_split}
use Rattle.npf_types.specs.declared.name.Name.{Name}
use Rattle.npf_types.specs.declared.span.Span.{Span}
use Rattle.npf_types.specs.AddressText.{IsAddressText}
use Rattle.npf_types.specs.Named.{named}
use Rattle.npf_types.specs.NameText.{is_name}
use Rattle.npf_faults.specs.declared.fault.ConfFault.{ConfFault}
use Rattle.npf_faults.specs.declared.fault.Fault.TheVariants.{BadIfaceFile}
use Rattle.npf_faults.specs.declared.fault.Refused.{Refused}
use Rattle.npf_model.specs.declared.iface.Iface.{Iface}
use Rattle.npf_expand_interfaces.specs.declared.iface_file.IfaceLine.{IfaceLine}
use Rattle.npf_expand_interfaces.specs.declared.iface_file.IfaceLine.TheVariants.{Blank, Interface, Bad}

abbrev pub ends_line : ℕ → Bool
ends_line byte = byte == 10

abbrev pub is_hash : ℕ → Bool
is_hash byte = byte == 35

abbrev pub is_space : ℕ → Bool
is_space byte = byte == 32

abbrev pub file_lines : List ℕ → List (List ℕ)
file_lines text = slice_split ends_line text

abbrev pub has_some : {X : Type 0} → List X → Bool
has_some [] = false
has_some (_ ∷ _) = true

abbrev pub is_blank : ℕ → Bool
is_blank byte = byte == 32 || byte == 9

abbrev pub words_unless : Bool → List ℕ → List (List ℕ)
words_unless true text = []
words_unless false text = filter has_some (slice_split is_space text)

-- the words of a line before its comment, of which a blank line has none
abbrev pub line_words : List ℕ → List (List ℕ)
line_words line = words_unless (list_all is_blank (before_first is_hash line)) (before_first is_hash line)

-- the words of each line that isn't blank
abbrev pub written_lines : List (List ℕ) → List (List (List ℕ))
written_lines all = filter has_some (map line_words all)

-- as many of one as of the other, and each goes with the one at its place
abbrev pub Each : {X Y : Type 0} → (X → Y → Type 0) → List X → List Y → Type 0
Each Goes [] [] = Unit {0}
Each Goes (x ∷ xs) (y ∷ ys) = Goes x y × Each Goes xs ys
Each _ _ _ = ⊥

-- the words are an interface's name and its addresses
abbrev pub IsInterface : List (List ℕ) → Iface → Type 0
IsInterface [] iface = ⊥
IsInterface (word ∷ words) iface = IsTrue (is_name word) × (iface.name ≡ named word) × Each IsAddressText words iface.addrs

-- what the words of a line are
abbrev pub IsIfaceLine : List (List ℕ) → IfaceLine → Type 0
IsIfaceLine words Blank = words ≡ []
IsIfaceLine words (Interface iface) = IsInterface words iface
IsIfaceLine words Bad = (words ≢ []) × ((iface : Iface) → ¬ IsInterface words iface)

abbrev pub iface_names : List Iface → List Name
iface_names ifaces = map (λ iface. iface.name) ifaces

-- the lines say these interfaces, in this order, and none of them twice
pub record AreInterfaces (all : List (List ℕ)) (ifaces : List Iface) : Type 0 where
  pub read : Each IsInterface (written_lines all) ifaces
  pub once : AllPairs (λ one other. one ≢ other) (iface_names ifaces)

abbrev pub IsIfaceFile : List ℕ → List Iface → Type 0
IsIfaceFile text ifaces = AreInterfaces (file_lines text) ifaces

-- behind lines with these interfaces: the line isn't blank, and is no interface or one of their names again
abbrev pub IsBadBehind : List Iface → List ℕ → Type 0
IsBadBehind ifaces line =
    (line_words line ≢ []) × ((iface : Iface) → IsInterface (line_words line) iface → Contains (iface_names ifaces) iface.name)

-- where the text behind these lines begins
abbrev pub bytes_of_lines : List (List ℕ) → ℕ
bytes_of_lines [] = 0
bytes_of_lines (line ∷ all) = length line + 1 + bytes_of_lines all

-- the first byte of the line behind these
abbrev pub line_start : List (List ℕ) → Span
line_start before = record { line = length before + 1; col = 1; at = bytes_of_lines before; len = 1 }

-- the fault stands at the first line that is bad, at its first byte
pub record IsFirstBadIfaceLine (text : List ℕ) (fault : ConfFault) : Type 0 where
  pub before : ℕ
  pub line : List ℕ
  pub earlier : List Iface
  pub there : slice_get (file_lines text) before ≡ Some line
  pub good : AreInterfaces (take before (file_lines text)) earlier
  pub bad : IsBadBehind earlier line
  pub stands : fault ≡ record { span = line_start (take before (file_lines text)); fault = BadIfaceFile }

-- why the file isn't read; want of memory says nothing of it
abbrev pub RefusesIfaces : List ℕ → Refused → Type 0
RefusesIfaces text (Refused.Fault fault) = IsFirstBadIfaceLine text fault
RefusesIfaces text Refused.NoMemory = Unit {0}
