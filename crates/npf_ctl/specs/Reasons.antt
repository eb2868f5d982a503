-- What is said of the faults of a configuration, of the first or of each that is left when what holds those before is taken out, by the files
-- that a command names.
use Rattle.std.specs.Prelude.{◌≡◌, ℕ, ◌-◌, ◌==◌, ◌||◌, nat_le, if◌then◌else◌, Bool, true, false, Result, Ok, Err, Option, Some, None, List, [], ◌++◌, length}
use Rattle.npf_types.specs.declared.limits.TheConstants.{MAX_TEXT_BYTES}
use Rattle.npf_types.specs.declared.span.Span.{Span}
use Rattle.npf_lexer.specs.declared.token.Token.{Token}
use Rattle.npf_model.specs.declared.iface.Iface.{Iface}
use Rattle.npf_model.specs.Configuration.{Configuration as Loaded}
use Rattle.npf_outside.specs.Files.{FilesMoment}
use Rattle.npf_ctl_input.specs.File.{ReadsFile}
use Rattle.npf_ctl_input.specs.Interfaces.{NamesInterfaces, ReadsInterfaces}
use Rattle.npf_ctl_input.specs.Loads.{LoadsAlone, LoadsText}
use Rattle.npf_ctl_messages.specs.declared.fault.CommandFault.{CommandFault}
use Rattle.npf_ctl_messages.specs.declared.fault.CommandFault.TheVariants.{Configuration, NoMemory}
use Rattle.npf_why.specs.Remains.{TakesOutPart}
use Rattle.npf_ctl_why.specs.LeftOut.{SaysOfLeft}
use Rattle.npf_ctl_why.specs.Text.{IsExplanation}
use Rattle.npf_ctl_words.specs.declared.command.Invocation.{Invocation}
use Rattle.npf_ctl_words.specs.declared.command.Invocation.TheVariants.{Why, WhyAll}
use Rattle.npf_ctl_words.specs.declared.command.Load.{Load}
use Rattle.npf_why.specs.declared.remains.Remains.{Remains}
use Rattle.npf_ctl.specs.declared.reasons.Reason.{Reason}
use Rattle.npf_ctl.specs.declared.reasons.TheConstants.{MAX_LOADS}
use Rattle.npf_ctl.specs.declared.reasons.WhichFaults.{WhichFaults}
use Rattle.npf_ctl.specs.declared.reasons.WhichFaults.TheVariants.{First, Each}

-- the command that tells these faults of what its words name
abbrev pub telling_command : WhichFaults → Load → Invocation
telling_command First load = Why load
telling_command Each load = WhyAll load

-- a fault that has a place in a text
abbrev pub is_placed : CommandFault → Bool
is_placed (Configuration file fault) = true
is_placed _ = false

-- the command explains the fault
abbrev pub is_explained : Invocation → CommandFault → Bool
is_explained (Why load) fault = is_placed fault
is_explained (WhyAll load) fault = is_placed fault
is_explained _ fault = false

-- the place is the text's end
abbrev pub is_at_end : List ℕ → Span → Bool
is_at_end text span = nat_le (length text) span.at

-- The place at which something is taken out of a text behind a fault, of which so many more are to be told: none, where that is none, where the
-- fault has no place, and where that is the text's end.
abbrev pub next_place : ℕ → List ℕ → CommandFault → Option Span
next_place more text (Configuration file fault) = if more == 0 || is_at_end text fault.span then None else Some fault.span
next_place more text _ = None

-- what holds a place was taken out of what remained
pub record IsLeftBehind (remains : Remains) (span : Span) (behind : Remains) : Type 0 where
  pub lost : List Token
  pub takes : TakesOutPart remains.left.items span behind.left.items lost
  pub gone : behind.gone.items ≡ remains.gone.items ++ lost

-- what remains behind a fault, if more is told
pub data LeavesBehind (more : ℕ) (remains : Remains) (fault : CommandFault) : Option Remains → Type 0 where
  last : next_place more remains.left.items fault ≡ None → LeavesBehind more remains fault None
  left : {span : Span} {behind : Remains} → next_place more remains.left.items fault ≡ Some span → IsLeftBehind remains span behind →
      LeavesBehind more remains fault (Some behind)

module _ (before after : FilesMoment) (given : List Iface) (conf : List ℕ) where
  -- the fault for which a text is refused, or none
  pub data LoadsNext (text : List ℕ) : Option CommandFault → Type 0 where
    loaded : {config : Loaded} → LoadsText before after given conf text (Ok config) → LoadsNext text None
    refused : {fault : CommandFault} → LoadsText before after given conf text (Err fault) → LoadsNext text (Some fault)

  -- What is told of a fault of a text from which these tokens are gone, and of so many more at most behind it: each is the fault of the text
  -- that is left without what holds the one before.
  pub data TellsFaults : ℕ → List ℕ → List Token → CommandFault → List ℕ → Type 0 where
    last : {more : ℕ} {text : List ℕ} {gone : List Token} {fault : CommandFault} {out : List ℕ} → next_place more text fault ≡ None →
        SaysOfLeft given text gone fault out → TellsFaults more text gone fault out
    sound : {more : ℕ} {text left : List ℕ} {gone lost : List Token} {fault : CommandFault} {span : Span} {out : List ℕ} →
        next_place more text fault ≡ Some span → SaysOfLeft given text gone fault out → TakesOutPart text span left lost → LoadsNext left None →
        TellsFaults more text gone fault out
    and_next : {more : ℕ} {text left : List ℕ} {gone lost : List Token} {fault next : CommandFault} {span : Span} {out rest : List ℕ} →
        next_place more text fault ≡ Some span → SaysOfLeft given text gone fault out → TakesOutPart text span left lost → LoadsNext left (Some next) →
        TellsFaults (more - 1) left (gone ++ lost) next rest → TellsFaults more text gone fault (out ++ rest)

  -- what is said of a fault of the configuration's text: its explanation; or what is told of it and of those that are left
  abbrev pub SaysOf : WhichFaults → List ℕ → CommandFault → List ℕ → Type 0
  SaysOf First text fault = IsExplanation given fault (Some text)
  SaysOf Each text fault = TellsFaults (MAX_LOADS - 1) text [] fault

module _ (which : WhichFaults) (before after : FilesMoment) (ifaces : Option (List ℕ)) (conf : List ℕ) where
  -- What is said of the first fault by the text that has it: of the configuration, with the interfaces that were read; or of their file, of
  -- which one fault is told.
  pub data ExplainsFirst (fault : CommandFault) (out : List ℕ) : Type 0 where
    of_configuration : {given : List Iface} {text : List ℕ} → is_placed fault ≡ true → ReadsInterfaces before after ifaces (Ok given) →
        ReadsFile before after conf MAX_TEXT_BYTES (Ok text) → LoadsText before after given conf text (Err fault) →
        SaysOf before after given conf which text fault out → ExplainsFirst fault out
    of_interfaces : {file text : List ℕ} → is_placed fault ≡ true → ifaces ≡ Some file → ReadsFile before after file MAX_TEXT_BYTES (Ok text) →
        NamesInterfaces file text (Err fault) → IsExplanation [] fault (Some text) out → ExplainsFirst fault out

  -- what the search for a fault comes to: there is none; one is explained; one is of a file that isn't read, or is too long; or memory is
  -- wanting
  pub data FindsReason : Result (Option Reason) CommandFault → Type 0 where
    nothing : {config : Loaded} → LoadsAlone before after ifaces conf (Ok config) → FindsReason (Ok None)
    explained : {reason : Reason} → ExplainsFirst reason.fault reason.said.items → FindsReason (Ok (Some reason))
    unplaced : {fault : CommandFault} → is_placed fault ≡ false → LoadsAlone before after ifaces conf (Err fault) → FindsReason (Err fault)
    memory : FindsReason (Err NoMemory)

-- what a fault comes to of which something is said, where it has a place
pub data TellsReason (Says : List ℕ → Type 0) (fault : CommandFault) : Result (Option Reason) CommandFault → Type 0 where
  said : {reason : Reason} → reason.fault ≡ fault → is_placed fault ≡ true → Says reason.said.items → TellsReason Says fault (Ok (Some reason))
  unsaid : is_placed fault ≡ false → TellsReason Says fault (Err fault)
  memory : TellsReason Says fault (Err NoMemory)
