use Rattle.std.specs.Prelude.{◌≡◌, ℕ, ◌≤◌, ◌<◌, max}
use Rattle.left_right.specs.Sides.{view}
use Rattle.npf_publish.specs.declared.conf_reader.ConfReader.{ConfReader}
use Rattle.npf_publish.specs.declared.number_range.NumberRange.{NumberRange}
use Rattle.npf_publish.specs.NumberRange.{IsInRange}

-- the numbers that the reader's publisher may publish
abbrev pub reader_range : ConfReader → NumberRange
reader_range reader = reader.range

-- the number that the reader's seat saw shown last
abbrev pub shown_number : ConfReader → ℕ
shown_number reader = (view reader.reader.place).seen

-- how often the reader's seat has looked at what is shown
abbrev pub looks_made : ConfReader → ℕ
looks_made reader = (view reader.reader.place).looks

-- the least number that the reader may still read: the greatest that it was shown or told
abbrev pub least_number : ConfReader → ℕ
least_number reader = max reader.seen reader.told

-- a reader that was shown and told nothing but the first number
pub record IsNewReader (numbers : NumberRange) (reader : ConfReader) : Type 0 where
  pub range : reader_range reader ≡ numbers
  pub shown : shown_number reader ≡ numbers.first
  pub least : least_number reader ≡ numbers.first

-- A read: the number that the reader's seat was shown last, and before the last number of all it has looked again for it. The number isn't
-- below the least one, which it is from then on. So a reader reads published numbers alone, and they don't fall.
pub record Reads (old new : ConfReader) (number : ℕ) : Type 0 where
  pub range : reader_range new ≡ reader_range old
  pub within : IsInRange number (reader_range old)
  pub shown : shown_number new ≡ number
  pub looks : shown_number old < (reader_range old).last → looks_made old < looks_made new
  pub rises : least_number old ≤ number
  pub least : least_number new ≡ number

-- A look without an answer: none was made, since the publisher is closed, or it was shown a number below the one that it was told.
pub record SeesNone (old new : ConfReader) : Type 0 where
  pub range : reader_range new ≡ reader_range old
  pub least : least_number new ≡ least_number old
  pub rises : looks_made old ≤ looks_made new
  pub below : looks_made old < looks_made new → shown_number new < least_number old
