-- What the rule says of the notes of a slot whose turn nobody has: they tell which keys its connection holds, and where their leaves stand.
use Rattle.std.specs.Prelude.{◌≡◌, ℕ, ◌<◌, List}
use Rattle.atomic_table.specs.Table.{State}
use Rattle.npf_types.specs.declared.key.Key.{Key}
use Rattle.npf_types.specs.declared.key.Way.{Way}
use Rattle.npf_core.specs.History.{state_of}
use Rattle.npf_core.specs.Machine.{Holds, HoldsNone}
use Rattle.npf_core.specs.Meaning.{Meaning}
use Rattle.npf_paths.specs.declared.place.Place.{Place}
use Rattle.npf_paths.specs.Paths.{EndsAt}
use Rattle.npf_cells_words.specs.declared.layout.Layout.{Layout}
use Rattle.npf_cells_words.specs.Codes.{place_code}
use Rattle.npf_cells_leaves.specs.Trie.{digits_of, trie_words}
use Rattle.npf_cells_lives.specs.Deaths.{last_id}
use Rattle.npf_cells_lives.specs.Notes.{note_word}
use Rattle.npf_cells_lives.specs.Turns.{Running, stage_phase, turn_word}
use Rattle.npf_cells_rule.specs.declared.view.CellView.{CellView}
use Rattle.npf_cells_rule.specs.Cells.{IsCells}

-- this is the number of the place where the key's path ends
pub record NamesEnd (digest : Key → ℕ) (layout : Layout) (words : List ℕ) (key : Key) (note : ℕ) : Type 0 where
  pub level : ℕ
  pub place : Place
  pub ends : EndsAt (digits_of digest key) (trie_words layout words).cell level place
  pub names : note ≡ place_code place

-- where the slot's connection holds a key of a way, its note names the key's place
abbrev pub NotesNameKeys : {S A R : Type 0} → Meaning S A R → Layout → Type 0
NotesNameKeys {S} {A} {R} m layout =
    (digest : Key → ℕ) (s : State (Running S) (CellView S A R)) (kept : IsCells m digest layout s) (slot : ℕ) (way : Way) (key : Key) → slot < layout.slots → turn_word layout s.words slot ≡ 0 →
    Holds (state_of m kept.log) (last_id (state_of m kept.log) slot) way key → NamesEnd digest layout s.words key (note_word layout s.words slot way)

-- and where it is Live and holds none, it is 0
abbrev pub BareNotesAreZero : {S A R : Type 0} → Meaning S A R → Layout → Type 0
BareNotesAreZero {S} {A} {R} m layout =
    (digest : Key → ℕ) (s : State (Running S) (CellView S A R)) (kept : IsCells m digest layout s) (slot : ℕ) (way : Way) → slot < layout.slots → stage_phase ((state_of m kept.log).slot slot).stage ≡ 1 →
    HoldsNone (state_of m kept.log) (last_id (state_of m kept.log) slot) way → note_word layout s.words slot way ≡ 0
