-- The words of a command line, and the command that they say.
use Rattle.std.specs.Prelude.{◌≡◌, ◌≤◌, ◌<◌, ◌&&◌, ℕ, Bool, true, false, nat_lt, IfSome, codes, if◌then◌else◌, List, [], ◌∷◌, Option, Some, None, String, is_some, map, option_and_then, option_map, string_bytes}
use Rattle.std.specs.Option.{option_map_or}
use Rattle.std.specs.Borrow.{Bor}
use Rattle.std.specs.Global.{Global}
use Rattle.std.specs.Char.{is_digit}
use Rattle.std.specs.List.{list_all}
use Rattle.std.specs.Str.{bytes_eq}
use Rattle.std.specs.Str.Parse.{digits_value, without_leading_plus}
use Rattle.clap.specs.Words.{Row, Text, fault_of, first_of, matches_of}
use Rattle.clap.specs.Walk.{is_empty}
use Rattle.npf_types.specs.declared.direction.Dir.{Dir}
use Rattle.npf_types.specs.declared.direction.Dir.TheVariants as direction
use Rattle.npf_types.specs.declared.name.Name.{Name}
use Rattle.npf_types.specs.NameText.{is_name}
use Rattle.npf_types.specs.Named.{named}
use Rattle.npf_ctl_words.specs.Definitions.{definition_of}
use Rattle.npf_ctl_words.specs.declared.command.CommandName.{CommandName}
use Rattle.npf_ctl_words.specs.declared.command.CommandName.TheVariants as name
use Rattle.npf_ctl_words.specs.declared.command.Invocation.{Invocation}
use Rattle.npf_ctl_words.specs.declared.command.Invocation.TheVariants as command
use Rattle.npf_ctl_words.specs.declared.command.CheckWords.{CheckWords}
use Rattle.npf_ctl_words.specs.declared.command.CompareWords.{CompareWords}
use Rattle.npf_ctl_words.specs.declared.command.ExplainWords.{ExplainWords}
use Rattle.npf_ctl_words.specs.declared.command.LintWords.{LintWords}
use Rattle.npf_ctl_words.specs.declared.command.Load.{Load}
use Rattle.npf_ctl_words.specs.declared.command.QueryWords.{QueryWords}
use Rattle.npf_ctl_words.specs.declared.command.RunWords.{RunWords}
use Rattle.npf_ctl_words.specs.declared.command.SpreadWord.{SpreadWord}
use Rattle.npf_ctl_words.specs.declared.command.SpreadWord.TheVariants as spread

-- the bytes of each word
abbrev pub word_texts : List (String Global) → List Text
word_texts = map string_bytes

-- the command that a word names, byte for byte
abbrev pub command_named : Text → Option CommandName
command_named word =
    if bytes_eq word (codes "run") then Some name.Run
    else (if bytes_eq word (codes "validate") then Some name.Validate
    else (if bytes_eq word (codes "show") then Some name.Show
    else (if bytes_eq word (codes "debug") then Some name.Debug
    else (if bytes_eq word (codes "why") then Some name.Why
    else (if bytes_eq word (codes "explain") then Some name.Explain
    else (if bytes_eq word (codes "query") then Some name.Query
    else (if bytes_eq word (codes "check") then Some name.Check
    else (if bytes_eq word (codes "lint") then Some name.Lint
    else (if bytes_eq word (codes "compare") then Some name.Compare
    else (if bytes_eq word (codes "gen") then Some name.Gen else None))))))))))

-- the command that the first word names
abbrev pub name_in : List Text → Option CommandName
name_in [] = None
name_in (word ∷ _) = command_named word

-- the spread that a text names, byte for byte
abbrev pub spread_named : Text → Option SpreadWord
spread_named text =
    if bytes_eq text (codes "rr") then Some spread.Rr
    else (if bytes_eq text (codes "flow") then Some spread.Flow else None)

-- the spread of what `clap` found for `run`
abbrev pub spread_in : List Row → Option SpreadWord
spread_in rows = option_and_then spread_named (first_of (codes "spread") rows)

-- the direction that a text names, byte for byte
abbrev pub dir_named : Text → Option Dir
dir_named text =
    if bytes_eq text (codes "in") then Some direction.In
    else (if bytes_eq text (codes "out") then Some direction.Out else None)

-- the interface that a text names
abbrev pub iface_named : Text → Option Name
iface_named text = if is_name text then Some (named text) else None

-- the interface of what `clap` found for `explain`
abbrev pub iface_in : List Row → Option Name
iface_in rows = option_and_then iface_named (first_of (codes "iface") rows)

-- and its direction
abbrev pub dir_in : List Row → Option Dir
dir_in rows = option_and_then dir_named (first_of (codes "dir") rows)

-- what `clap` found for an option, if it found something, by what texts name; a text that names nothing gives none
abbrev pub given_in : {A : Type 0} → (Text → Option A) → Text → List Row → Option (Option A)
given_in named_by id rows = option_map_or (λ text. option_map Some (named_by text)) (first_of id rows) (Some None)

-- where a capture alone was recorded, of what `clap` found for `run`
abbrev pub tap_iface_in : List Row → Option (Option Name)
tap_iface_in rows = given_in iface_named (codes "on") rows

abbrev pub tap_dir_in : List Row → Option (Option Dir)
tap_dir_in rows = given_in dir_named (codes "dir") rows

-- the number of digits that may have a plus sign before them
abbrev pub signed_number : Text → ℕ
signed_number text = digits_value 10 (without_leading_plus text)

-- decimal digits, one at least
abbrev pub is_numeral : Text → Bool
is_numeral [] = false
is_numeral (digit ∷ digits) = list_all (λ d. is_digit d 10) (digit ∷ digits)

-- the seconds that a text names: a number from 1 to 4294967295, which may have a plus sign before it
abbrev pub are_seconds : Text → Bool
are_seconds text = is_numeral (without_leading_plus text) && (nat_lt 0 (signed_number text) && nat_lt (signed_number text) 4294967296)

abbrev pub seconds_named : Text → Option ℕ
seconds_named text = if are_seconds text then Some (signed_number text) else None

-- those of what `clap` found for `run`
abbrev pub expire_in : List Row → Option (Option ℕ)
expire_in rows = given_in seconds_named (codes "expire") rows

-- `run` deals its packets by one of the two spreads, says of expiries how many seconds part them, and of a tap an interface and one of the two directions, if it does; and `explain` is asked of an interface and one of the two directions
abbrev pub knows_names : CommandName → List Row → Bool
knows_names name.Run rows = is_some (spread_in rows) && (is_some (tap_iface_in rows) && (is_some (tap_dir_in rows) && is_some (expire_in rows)))
knows_names name.Explain rows = is_some (iface_in rows) && is_some (dir_in rows)
knows_names _ rows = true

-- `--all` is among the words
abbrev pub asks_all : List Row → Bool
asks_all rows = option_map_or (λ text. bytes_eq text (codes "true")) (first_of (codes "all") rows) false

-- `clap`'s definition of the command takes the words behind its name; words that ask for help or a version are refused there
abbrev pub takes_words : CommandName → List Text → Bool
takes_words n words = is_empty (fault_of (definition_of n) words)

-- what `clap` finds for the words of a command
abbrev pub rows_in : CommandName → List Text → List Row
rows_in n words = matches_of (definition_of n) words

-- the first word names a command, its definition takes the words behind it, and the names in them are known
abbrev pub is_command_line : List Text → Bool
is_command_line words = option_map_or (λ n. takes_words n words && knows_names n (rows_in n words)) (name_in words) false

abbrev pub command_name : Invocation → CommandName
command_name (command.Run _) = name.Run
command_name (command.Validate _) = name.Validate
command_name (command.Show _) = name.Show
command_name (command.Debug _) = name.Debug
command_name (command.Why _) = name.Why
command_name (command.WhyAll _) = name.Why
command_name (command.Explain _) = name.Explain
command_name (command.Query _) = name.Query
command_name (command.Check _) = name.Check
command_name (command.Lint _) = name.Lint
command_name (command.Compare _) = name.Compare
command_name (command.Gen _) = name.Gen

abbrev pub given_text : Option (Bor Text) → Option Text
given_text = option_map (λ text. text.now)

-- what `clap` found for each word and option of `run`; the options `workers` and `spread` have their defaults
pub record TellsRun (rows : List Row) (run : RunWords) : Type 0 where
  pub conf : first_of (codes "conf") rows ≡ Some run.conf.now
  pub script : first_of (codes "script") rows ≡ Some run.script.now
  pub ifaces : first_of (codes "ifaces") rows ≡ given_text run.ifaces
  pub workers : option_map signed_number (first_of (codes "workers") rows) ≡ Some run.workers
  pub some : 1 ≤ run.workers
  pub few : run.workers ≤ 64
  pub spread : spread_in rows ≡ Some run.spread
  pub on : tap_iface_in rows ≡ Some run.on
  pub dir : tap_dir_in rows ≡ Some run.dir
  pub expire : expire_in rows ≡ Some run.expire
  pub apart : IfSome run.expire (λ seconds. 0 < seconds)
  pub output : first_of (codes "write") rows ≡ given_text run.output
  pub load : first_of (codes "load") rows ≡ given_text run.load
  pub save : first_of (codes "save") rows ≡ given_text run.save

-- and of a command that loads a configuration
pub record TellsLoad (rows : List Row) (load : Load) : Type 0 where
  pub conf : first_of (codes "conf") rows ≡ Some load.conf.now
  pub ifaces : first_of (codes "ifaces") rows ≡ given_text load.ifaces

-- of `why`, with `--all` or without
pub record TellsWhy (rows : List Row) (words : Load) (is_all : Bool) : Type 0 where
  pub load : TellsLoad rows words
  pub all : asks_all rows ≡ is_all

pub record TellsExplain (rows : List Row) (words : ExplainWords) : Type 0 where
  pub conf : first_of (codes "conf") rows ≡ Some words.conf.now
  pub iface : iface_in rows ≡ Some words.iface
  pub dir : dir_in rows ≡ Some words.dir
  pub class : first_of (codes "class") rows ≡ Some words.class.now
  pub ifaces : first_of (codes "ifaces") rows ≡ given_text words.ifaces

-- of `query`; the option `steps` has its default
pub record TellsQuery (rows : List Row) (words : QueryWords) : Type 0 where
  pub conf : first_of (codes "conf") rows ≡ Some words.conf.now
  pub class : first_of (codes "class") rows ≡ Some words.class.now
  pub ifaces : first_of (codes "ifaces") rows ≡ given_text words.ifaces
  pub steps : option_map signed_number (first_of (codes "steps") rows) ≡ Some words.steps

-- and of `check`
pub record TellsCheck (rows : List Row) (words : CheckWords) : Type 0 where
  pub conf : first_of (codes "conf") rows ≡ Some words.conf.now
  pub expectations : first_of (codes "expectations") rows ≡ Some words.expectations.now
  pub ifaces : first_of (codes "ifaces") rows ≡ given_text words.ifaces
  pub steps : option_map signed_number (first_of (codes "steps") rows) ≡ Some words.steps

-- and of `lint`
pub record TellsLint (rows : List Row) (words : LintWords) : Type 0 where
  pub conf : first_of (codes "conf") rows ≡ Some words.conf.now
  pub ifaces : first_of (codes "ifaces") rows ≡ given_text words.ifaces
  pub steps : option_map signed_number (first_of (codes "steps") rows) ≡ Some words.steps

-- and of `compare`
pub record TellsCompare (rows : List Row) (words : CompareWords) : Type 0 where
  pub old : first_of (codes "old") rows ≡ Some words.old.now
  pub new : first_of (codes "new") rows ≡ Some words.new.now
  pub ifaces : first_of (codes "ifaces") rows ≡ given_text words.ifaces
  pub steps : option_map signed_number (first_of (codes "steps") rows) ≡ Some words.steps

abbrev pub TellsNumber : List Row → ℕ → Type 0
TellsNumber rows number = option_map signed_number (first_of (codes "number") rows) ≡ Some number

abbrev pub TellsCommand : List Row → Invocation → Type 0
TellsCommand rows (command.Run run) = TellsRun rows run
TellsCommand rows (command.Validate load) = TellsLoad rows load
TellsCommand rows (command.Show load) = TellsLoad rows load
TellsCommand rows (command.Debug load) = TellsLoad rows load
TellsCommand rows (command.Why load) = TellsWhy rows load false
TellsCommand rows (command.WhyAll load) = TellsWhy rows load true
TellsCommand rows (command.Explain words) = TellsExplain rows words
TellsCommand rows (command.Query words) = TellsQuery rows words
TellsCommand rows (command.Check words) = TellsCheck rows words
TellsCommand rows (command.Lint words) = TellsLint rows words
TellsCommand rows (command.Compare words) = TellsCompare rows words
TellsCommand rows (command.Gen number) = TellsNumber rows number

-- the command that the words say: it is the first word's, and what `clap` found by its definition is in it
pub record SaysCommand (words : List Text) (c : Invocation) : Type 0 where
  pub taken : is_command_line words ≡ true
  pub name : name_in words ≡ Some (command_name c)
  pub told : TellsCommand (rows_in (command_name c) words) c
