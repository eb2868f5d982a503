-- What is said of the faults of a configuration.
use Rattle.std.proofs.{Common.{◌≡◌, ◌≢◌, ◌≤◌, ◌∙◌, inl, ℕ, zero, suc, arith, true, false, Option, Some, None, Ok, Err, Result, List, [], ◌++◌, ◌-◌, refl, sym, subst}, lemmas.Bool.false≢true}
use Rattle.npf_types.specs.{Stages.{goes_on, stops}, declared.limits.TheConstants.MAX_TEXT_BYTES}
use Rattle.npf_model.specs.{Configuration.{Configuration as Loaded}, declared.iface.Iface.Iface}
use Rattle.npf_outside.specs.Files.{FilesMoment}
use Rattle.npf_ctl_input.specs.{File.ReadsFile, Interfaces.{NamesInterfaces, ReadsInterfaces}, Loads.{LoadsAlone, LoadsText}, Unless.IfTold}
use Rattle.npf_ctl_messages.specs.declared.fault.CommandFault.{CommandFault, TheVariants.{Configuration, NoMemory}}
use Rattle.npf_ctl_words.specs.{declared.command.Load.Load, CommandLine.{SaysCommand, given_text}}
use Rattle.npf_ctl_why.specs.LeftOut.{SaysOfLeft}
use Rattle.npf_lexer.specs.declared.token.Token.{Token}
use Rattle.npf_why.specs.declared.remains.Remains.{Remains}
use Rattle.npf_ctl.specs.declared.findings.Finding.TheVariants.{Nothing}
use Rattle.npf_ctl.specs.{declared.reasons.{Reason.Reason, WhichFaults.{WhichFaults, TheVariants.{First, Each}}}, Commands.loaded_by, Ends.AnswersReason}
use Rattle.npf_ctl.specs.{Faults.{ChangesNoFile, LeavesFiles, MeetsFault, PutsNothing}, Run.Moment, Texts.TextOf, Top.{DoesCommand, PutsText}}
use Rattle.npf_ctl.specs.Reasons.{ExplainsFirst, FindsReason, LeavesBehind, LoadsNext, SaysOf, TellsFaults, TellsReason, is_explained, is_placed, next_place, telling_command}
use Rattle.npf_ctl_why.specs.Text.{IsExplanation}

-- a fault that has a place isn't want of memory
told_placed : (Says : CommandFault → Type 0) (fault : CommandFault) → is_placed fault ≡ true → IfTold Says fault → Says fault
told_placed Says NoMemory placed told = absurd (false≢true placed)
told_placed Says fault placed told = told

-- a file that isn't read, or is too long, has no place
unread_unplaced : (before after : FilesMoment) (name : List ℕ) (most : ℕ) (fault : CommandFault) → ReadsFile before after name most (Err fault) → is_placed fault ≡ false
unread_unplaced before after name most _ (ReadsFile.longer is) = refl
unread_unplaced before after name most _ (ReadsFile.failed rose all) = refl

-- behind a fault of which something is taken out, at least one more is told
pub more_left : (more : ℕ) (remains : Remains) (fault : CommandFault) (behind : Remains) → LeavesBehind more remains fault (Some behind) → 1 ≤ more
more_left more remains fault behind (LeavesBehind.left {span = span} at left) = go more fault at where
  go : (more : ℕ) (fault : CommandFault) → next_place more remains.left.items fault ≡ Some span → 1 ≤ more
  go zero (Configuration file fault) at = cc
  go zero _ at = cc
  go (suc more) fault at = omega arith

-- a fault other than want of memory is that for which the text is refused
pub refused_next : (before after : FilesMoment) (given : List Iface) (conf text : List ℕ) (fault : CommandFault) → fault ≢ NoMemory →
    IfTold (λ why. LoadsText before after given conf text (Err why)) fault → LoadsNext before after given conf text (Some fault)
refused_next before after given conf text NoMemory other told = absurd (other refl)
refused_next before after given conf text fault other told = LoadsNext.refused told

-- what is told of a fault, by what remains behind it
module _ (before after : FilesMoment) (given : List Iface) (conf : List ℕ) (more : ℕ) (remains : Remains) (fault : CommandFault) (out : List ℕ)
    (says : SaysOfLeft given remains.left.items remains.gone.items fault out) where
  pub told_last : LeavesBehind more remains fault None → TellsFaults before after given conf more remains.left.items remains.gone.items fault out
  told_last (LeavesBehind.last is) = TellsFaults.last is says

  pub told_sound : (behind : Remains) → LeavesBehind more remains fault (Some behind) → LoadsNext before after given conf behind.left.items None →
      TellsFaults before after given conf more remains.left.items remains.gone.items fault out
  told_sound behind (LeavesBehind.left at left) loads = TellsFaults.sound at says left.takes loads

  pub told_next : (behind : Remains) → LeavesBehind more remains fault (Some behind) → (next : CommandFault) →
      LoadsNext before after given conf behind.left.items (Some next) → (less : ℕ) → less ≡ more - 1 → (rest : List ℕ) →
      TellsFaults before after given conf less behind.left.items behind.gone.items next rest → (all : List ℕ) → all ≡ out ++ rest →
      TellsFaults before after given conf more remains.left.items remains.gone.items fault all
  told_next behind (LeavesBehind.left at left) next loads less one rest tells all whole =
      subst (λ (it : List ℕ). TellsFaults before after given conf more remains.left.items remains.gone.items fault it) (sym whole)
      (TellsFaults.and_next at says left.takes loads
      (subst (λ (ts : List Token). TellsFaults before after given conf (more - 1) behind.left.items ts next rest) left.gone
      (subst (λ (n : ℕ). TellsFaults before after given conf n behind.left.items behind.gone.items next rest) one tells)))

module _ (which : WhichFaults) (before after : FilesMoment) (ifaces : Option (List ℕ)) (conf : List ℕ) where
  -- a fault that is explained is the first
  pub explained_loads : (fault : CommandFault) (out : List ℕ) → ExplainsFirst which before after ifaces conf fault out → LoadsAlone before after ifaces conf (Err fault)
  explained_loads fault out (ExplainsFirst.of_configuration placed given read loads explains) = goes_on given (goes_on read loads)
  explained_loads fault out (ExplainsFirst.of_interfaces placed named read names explains) =
      stops (subst (λ (it : Option (List ℕ)). ReadsInterfaces before after it (Err fault)) (sym named) (goes_on read names))

  module _ (given : List Iface) (reads : ReadsInterfaces before after ifaces (Ok given)) where
    -- the configuration isn't read
    pub conf_unread : (fault : CommandFault) → IfTold (λ why. ReadsFile before after conf MAX_TEXT_BYTES (Err why)) fault → FindsReason which before after ifaces conf (Err fault)
    conf_unread NoMemory told = FindsReason.memory
    conf_unread fault told = FindsReason.unplaced (unread_unplaced before after conf MAX_TEXT_BYTES fault told) (goes_on reads (stops told))

    module _ (text : List ℕ) (read : ReadsFile before after conf MAX_TEXT_BYTES (Ok text)) where
      pub none_found : (config : Loaded) → LoadsText before after given conf text (Ok config) → FindsReason which before after ifaces conf (Ok None)
      none_found config loads = FindsReason.nothing (goes_on reads (goes_on read loads))

      -- the configuration's text is refused
      pub found_in_text : (fault : CommandFault) → IfTold (λ why. LoadsText before after given conf text (Err why)) fault → (result : Result (Option Reason) CommandFault) →
          TellsReason (SaysOf before after given conf which text fault) fault result → FindsReason which before after ifaces conf result
      found_in_text fault loads _ (TellsReason.said {reason = reason} is placed explains) =
          FindsReason.explained (subst (λ (why : CommandFault). ExplainsFirst which before after ifaces conf why reason.said.items) (sym is)
          (ExplainsFirst.of_configuration placed reads read (told_placed (λ why. LoadsText before after given conf text (Err why)) fault placed loads) explains))
      found_in_text fault loads _ (TellsReason.unsaid plain) = go fault plain loads where
        go : (fault : CommandFault) → is_placed fault ≡ false → IfTold (λ why. LoadsText before after given conf text (Err why)) fault → FindsReason which before after ifaces conf (Err fault)
        go NoMemory plain loads = FindsReason.memory
        go fault plain loads = FindsReason.unplaced plain (goes_on reads (goes_on read loads))
      found_in_text fault loads _ TellsReason.memory = FindsReason.memory

module _ (which : WhichFaults) (before after : FilesMoment) (file conf : List ℕ) where
  -- the file of interfaces isn't read
  pub ifaces_unread : (fault : CommandFault) → IfTold (λ why. ReadsFile before after file MAX_TEXT_BYTES (Err why)) fault → FindsReason which before after (Some file) conf (Err fault)
  ifaces_unread NoMemory told = FindsReason.memory
  ifaces_unread fault told = FindsReason.unplaced (unread_unplaced before after file MAX_TEXT_BYTES fault told) (stops (stops told))

  -- its text is refused
  pub found_in_ifaces : (text : List ℕ) → ReadsFile before after file MAX_TEXT_BYTES (Ok text) → (fault : CommandFault) →
      IfTold (λ why. NamesInterfaces file text (Err why)) fault → (result : Result (Option Reason) CommandFault) → TellsReason (IsExplanation [] fault (Some text)) fault result →
      FindsReason which before after (Some file) conf result
  found_in_ifaces text read fault names _ (TellsReason.said {reason = reason} is placed explains) =
      FindsReason.explained (subst (λ (why : CommandFault). ExplainsFirst which before after (Some file) conf why reason.said.items) (sym is)
      (ExplainsFirst.of_interfaces placed refl read (told_placed (λ why. NamesInterfaces file text (Err why)) fault placed names) explains))
  found_in_ifaces text read fault names _ (TellsReason.unsaid plain) = go fault plain names where
    go : (fault : CommandFault) → is_placed fault ≡ false → IfTold (λ why. NamesInterfaces file text (Err why)) fault → FindsReason which before after (Some file) conf (Err fault)
    go NoMemory plain names = FindsReason.memory
    go fault plain names = FindsReason.unplaced plain (stops (goes_on read names))
  found_in_ifaces text read fault names _ TellsReason.memory = FindsReason.memory

-- what the command loads, and that it explains each fault that has a place
pub why_loads : (which : WhichFaults) (load : Load) → loaded_by (telling_command which load) ≡ Some load
why_loads First load = refl
why_loads Each load = refl

why_explains : (which : WhichFaults) (load : Load) (fault : CommandFault) → is_explained (telling_command which load) fault ≡ is_placed fault
why_explains First load fault = refl
why_explains Each load fault = refl

pub why_does : (which : WhichFaults) (load : Load) (before after : Moment) → PutsText (telling_command which load) Nothing before after → DoesCommand (telling_command which load) Nothing before after
why_does First load before after puts = puts
why_does Each load before after puts = puts

-- nothing is to be said of a configuration without a fault
pub nothing_said : (before after : Moment) (which : WhichFaults) (load : Load) → after.pass ≡ before.pass →
    FindsReason which before.files after.files (given_text load.ifaces) load.conf.now (Ok None) → TextOf before after (telling_command which load) Nothing []
nothing_said before after First load idle (FindsReason.nothing loads) = TextOf.sound (record { loads = loads; idle = idle })
nothing_said before after Each load idle (FindsReason.nothing loads) = TextOf.all_sound (record { loads = loads; idle = idle })

module _ (words : List (List ℕ)) (before after : Moment) (which : WhichFaults) (load : Load) (said : SaysCommand words (telling_command which load)) (same : ChangesNoFile before after)
    (idle : after.pass ≡ before.pass) where
  -- a fault that isn't explained is met
  pub meets_unplaced : PutsNothing before after → (fault : CommandFault) → FindsReason which before.files after.files (given_text load.ifaces) load.conf.now (Err fault) →
      MeetsFault words before after fault
  meets_unplaced put _ (FindsReason.unplaced plain loads) =
      MeetsFault.in_loading said (why_loads which load) (why_explains which load _ ∙ plain) loads (record { put = put; files = same; idle = idle })
  meets_unplaced put _ FindsReason.memory = MeetsFault.in_memory (inl put) (LeavesFiles.unchanged same)

  -- and so is one that is explained
  pub meets_explained : (reason : Reason) → FindsReason which before.files after.files (given_text load.ifaces) load.conf.now (Ok (Some reason)) → (fault : CommandFault) →
      AnswersReason before.out after.out reason fault → MeetsFault words before after fault
  meets_explained reason (FindsReason.explained explains) _ (AnswersReason.said put flushed) = MeetsFault.in_explaining (record {
    which = which;
    load = load;
    said = said;
    text = reason.said.items;
    explains = explains;
    put = put;
    flushed = flushed;
    files = same;
    idle = idle;
  })
  meets_explained reason found _ (AnswersReason.unsaid put) = MeetsFault.in_memory (inl put) (LeavesFiles.unchanged same)
