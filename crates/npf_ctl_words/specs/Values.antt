-- The arguments that have a value in every parse.
use Rattle.std.specs.Prelude.{◌≡◌, ◌||◌, ℕ, Bool, true, not, List, Some, slice_get}
use Rattle.clap.specs.Walk.{is_empty}
use Rattle.clap.specs.Words.{Accepts, App, Row, Rule, Text, first_of, found_of, matches_of, rows_of}
use Rattle.clap.specs.declared.parser.matches.ArgMatches.{ArgMatches}
use Rattle.clap.specs.declared.builder.value_parser.ValueParser.{ValueParser}

-- the words have to give the argument a value, or it has one by default
abbrev pub has_always : Rule → Bool
has_always r = r.required || not (is_empty r.defaults)

-- a value was found, and the argument's parser takes it
abbrev pub HasValue : Rule → List Row → Type 0
HasValue r rows = (t : Text) × (first_of r.id rows ≡ Some t) × ((p : ValueParser) → r.parser ≡ Some p → Accepts r.ignore_case p t)

abbrev pub HasEachValue : App → List Row → Type 0
HasEachValue app rows = (k : ℕ) (r : Rule) → slice_get app.top.rules k ≡ Some r → has_always r ≡ true → HasValue r rows

-- what `clap` found for a command's words
pub record IsMatched (app : App) (words : List Text) (m : ArgMatches) : Type 0 where
  pub rows : rows_of (found_of m) ≡ matches_of app words
  pub values : HasEachValue app (rows_of (found_of m))
