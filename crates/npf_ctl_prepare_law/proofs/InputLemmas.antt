-- A command's files are read in one way.
use Rattle.std.proofs.Common.{◌≡◌, ◌≤◌, ◌<◌, ℕ, Option, Some, None, Result, Ok, Err, List, [], length, refl, sym, ap, subst, ◌∙◌, arith}
use Rattle.std.{specs.Prelude.IsSomeAnd, proofs.lemmas.Option.same_Some}
use Rattle.npf_types.specs.declared.limits.TheConstants.{MAX_TEXT_BYTES}
use Rattle.npf_faults.specs.declared.fault.ConfFault.{ConfFault}
use Rattle.npf_parser.specs.Law.{OnePlace, OneTree, TreeOrHalt}
use Rattle.npf_model.specs.{declared.iface.Iface.Iface, Configuration.Configuration}
use Rattle.npf_outside.specs.declared.files.FileFault.TheVariants as IsFile
use Rattle.npf_outside.specs.{Counts.Rose, Files.{IsLonger, Tree}}
use Rattle.npf_config.specs.{declared.fault.LoadFault.{LoadFault, TheVariants.{Conf, File}}, Laws.{NeverBoth, OneMeaning}}
use Rattle.npf_config_changes.{specs.ChangeLaws.HasOneResult, proofs.LawLemmas.{one_after, one_told}}
use Rattle.npf_config_law.specs.{Answers.AreOne, Entries.AreOneConfiguration, Readings.{AreAlike, AreOneLoad, LoadsOrEnds, alike, equal as equal_loads}}
use Rattle.npf_config_law.proofs.LoadLemmas.{one_load}
use Rattle.npf_ctl_script.specs.Laws.{NoScriptIsRefused, OneScript}
use Rattle.npf_ctl_messages.specs.declared.fault.CommandFault.{CommandFault, TheVariants.Configuration as Refuses}
use Rattle.npf_ctl_input.specs.{File.{ReadsFile, failed, longer, told_files, whole}, Interfaces.{NamesInterfaces, ReadsInterfaces, named, refused}}
use Rattle.npf_ctl_input.specs.Loads.{LoadsAlone, LoadsFile, LoadsText, loaded, longer as long_table, refused as refused_text, told_load, unread}
use Rattle.npf_ctl_input.specs.declared.tap.NamedTap.{NamedTap}
use Rattle.npf_ctl_input.specs.Source.{Source, Alone, ReadsEither, ReadsSource, Scripted, alone, bad_line, longer as long_script, scripted}
use Rattle.npf_ctl_prepare_law.{specs.Readings.{Agree, EndAlike, bad_lines, equal, in_text}, proofs.AgreeLemmas.behind_one}
use Rattle.npf_ctl_prepare_law.proofs.IfaceLemmas.{iface_file_or_bad, one_bad_iface_line, one_iface_file}

never_rose : Rose 0 0 → ⊥
never_rose rose = omega (arith, rose)

module _ (tree : Tree) where
  long_or_short : (name bytes : List ℕ) (most : ℕ) → tree name ≡ Some bytes → length bytes ≤ most → ¬ IsLonger (Some tree) name most 0 0
  long_or_short name bytes most has few is =
      let over : most < length bytes = subst (λ (found : Option (List ℕ)). IsSomeAnd found (λ all. most < length all)) has is in
      omega (arith, over, few)

  -- a file is read in one way
  pub one_file : (name : List ℕ) (most : ℕ) → HasOneResult (ReadsFile (told_files tree) (told_files tree) name most)
  one_file name most _ _ (whole {bytes = bytes} has _ _) (whole {bytes = other} also _ _) = ap Ok (same_Some bytes other (sym has ∙ also))
  one_file name most _ _ (whole {bytes = bytes} has few _) (longer is) = absurd (long_or_short name bytes most has few is)
  one_file name most _ _ (longer is) (whole {bytes = bytes} has few _) = absurd (long_or_short name bytes most has few is)
  one_file name most _ _ (longer _) (longer _) = refl
  one_file name most _ _ (failed rose _) _ = absurd (never_rose rose)
  one_file name most _ _ (whole _ _ _) (failed rose _) = absurd (never_rose rose)
  one_file name most _ _ (longer _) (failed rose _) = absurd (never_rose rose)

  one_naming : (file text : List ℕ) → HasOneResult (NamesInterfaces file text)
  one_naming file text _ _ (named {ifaces = ifaces} is) (named {ifaces = others} there) = ap Ok (one_iface_file text ifaces others is there)
  one_naming file text _ _ (named {ifaces = ifaces} is) (refused {fault = fault} bad) = absurd (iface_file_or_bad text ifaces fault is bad)
  one_naming file text _ _ (refused {fault = fault} bad) (named {ifaces = ifaces} is) = absurd (iface_file_or_bad text ifaces fault is bad)
  one_naming file text _ _ (refused {fault = fault} bad) (refused {fault = other} there) =
      ap (λ (f : ConfFault). Err (Refuses file f)) (one_bad_iface_line text fault other bad there)

  pub one_interfaces : (file : Option (List ℕ)) → HasOneResult (ReadsInterfaces (told_files tree) (told_files tree) file)
  one_interfaces None = one_told (Ok [])
  one_interfaces (Some file) =
      one_after (ReadsFile (told_files tree) (told_files tree) file MAX_TEXT_BYTES) (NamesInterfaces file) (one_file file MAX_TEXT_BYTES) (λ text. one_naming file text)

-- the second file of a run is read in one way
module _ (one_script : OneScript) (none_refused : NoScriptIsRefused) (file bytes : List ℕ) where
  either_agrees : Agree (λ one other. one ≡ other) (ReadsEither file bytes) (ReadsEither file bytes)
  either_agrees _ _ (alone _) (alone _) = refl
  either_agrees _ _ (alone is) (long_script not _) = not is
  either_agrees _ _ (alone is) (scripted not _ _) = absurd (not is)
  either_agrees _ _ (alone is) (bad_line not _ _) = not is
  either_agrees _ _ (long_script not _) (alone is) = not is
  either_agrees _ _ (long_script _ _) (long_script _ _) = equal refl
  either_agrees _ _ (long_script _ over) (scripted _ few _) = omega (arith, over, few)
  either_agrees _ _ (long_script _ over) (bad_line _ few _) = absurd (omega (arith, over, few))
  either_agrees _ _ (scripted not _ _) (alone is) = absurd (not is)
  either_agrees _ _ (scripted _ few _) (long_script _ over) = omega (arith, over, few)
  either_agrees _ _ (scripted {lines = lines} _ _ is) (scripted {lines = others} _ _ there) = ap Scripted (one_script bytes lines others is there)
  either_agrees _ _ (scripted {lines = lines} _ _ is) (bad_line {line = line} _ _ bad) = none_refused bytes lines line is bad
  either_agrees _ _ (bad_line not _ _) (alone is) = not is
  either_agrees _ _ (bad_line _ few _) (long_script _ over) = absurd (omega (arith, over, few))
  either_agrees _ _ (bad_line {line = line} _ _ bad) (scripted {lines = lines} _ _ is) = none_refused bytes lines line is bad
  either_agrees _ _ (bad_line _ _ _) (bad_line _ _ _) = bad_lines

  pub sources_agree : (tap : Option NamedTap) → Agree (λ one other. one ≡ other) (ReadsSource tap file bytes) (ReadsSource tap file bytes)
  sources_agree None one other is there = either_agrees one other is there
  sources_agree (Some tap) one other is there =
      subst (λ (it : Result Source CommandFault). AreOne (λ (a b : Source). a ≡ b) EndAlike it other) (sym is)
      (subst (λ (it : Result Source CommandFault). AreOne (λ (a b : Source). a ≡ b) EndAlike (Ok (Alone bytes)) it) (sym there) refl)

-- a configuration is loaded in one way
module _ (one_tree : OneTree) (tree_or_halt : TreeOrHalt) (one_place : OnePlace) (one_meaning : OneMeaning) (never_both : NeverBoth) (tree : Tree) where
  abbrev told_result : List ℕ → Result Configuration LoadFault → Result Configuration CommandFault
  told_result file (Ok config) = Ok config
  told_result file (Err fault) = Err (told_load file fault)

  record LoadsSo (ifaces : List Iface) (file text : List ℕ) (result : Result Configuration CommandFault) : Type 0 where
    pub read : Result Configuration LoadFault
    pub loads : LoadsOrEnds ifaces text (told_files tree) (told_files tree) read
    pub told : result ≡ told_result file read

  loads_so : (ifaces : List Iface) (file text : List ℕ) (result : Result Configuration CommandFault) → LoadsText (told_files tree) (told_files tree) ifaces file text result
      → LoadsSo ifaces file text result
  loads_so ifaces file text _ (loaded {config = config} {programs = programs} first within) = record { read = Ok config; loads = (first, (programs, within)); told = refl }
  loads_so ifaces file text _ (refused_text {fault = fault} is) = record { read = Err (Conf fault); loads = is; told = refl }
  loads_so ifaces file text _ (unread {span = span} {name = name} is) = record { read = Err (File span name IsFile.Failed); loads = is; told = refl }
  loads_so ifaces file text _ (long_table {span = span} {name = name} is) = record { read = Err (File span name IsFile.Long); loads = is; told = refl }

  told_alike : (file : List ℕ) (fault other : LoadFault) → AreAlike fault other → EndAlike (told_load file fault) (told_load file other)
  told_alike file fault other (equal_loads same) = equal (ap (told_load file) same)
  told_alike file _ _ (alike stand) = in_text stand

  told_one : (file : List ℕ) (one two : Result Configuration LoadFault) → AreOneLoad one two → AreOne AreOneConfiguration EndAlike (told_result file one) (told_result file two)
  told_one file (Ok a) (Ok b) same = same
  told_one file (Ok a) (Err g) same = absurd same
  told_one file (Err f) (Ok b) same = absurd same
  told_one file (Err f) (Err g) same = told_alike file f g same

  pub texts_agree : (ifaces : List Iface) (file text : List ℕ)
      → Agree AreOneConfiguration (LoadsText (told_files tree) (told_files tree) ifaces file text) (LoadsText (told_files tree) (told_files tree) ifaces file text)
  texts_agree ifaces file text one two is there =
      let first = loads_so ifaces file text one is in
      let second = loads_so ifaces file text two there in
      let same = told_one file first.read second.read (one_load one_tree tree_or_halt one_place one_meaning never_both tree (told_files tree) (told_files tree) refl
      (refl, omega arith) ifaces text first.read second.read first.loads second.loads) in
      rw (first.told, second.told) same

  pub files_agree : (ifaces : List Iface) (file : List ℕ)
      → Agree AreOneConfiguration (LoadsFile (told_files tree) (told_files tree) ifaces file) (LoadsFile (told_files tree) (told_files tree) ifaces file)
  files_agree ifaces file =
      let loads = LoadsText (told_files tree) (told_files tree) ifaces file in
      behind_one AreOneConfiguration (ReadsFile (told_files tree) (told_files tree) file MAX_TEXT_BYTES) loads loads (one_file tree file MAX_TEXT_BYTES) (texts_agree ifaces file)

  pub loads_agree : (ifaces : Option (List ℕ)) (conf : List ℕ)
      → Agree AreOneConfiguration (LoadsAlone (told_files tree) (told_files tree) ifaces conf) (LoadsAlone (told_files tree) (told_files tree) ifaces conf)
  loads_agree ifaces conf =
      behind_one AreOneConfiguration (ReadsInterfaces (told_files tree) (told_files tree) ifaces) _ _ (one_interfaces tree ifaces) (λ given. files_agree given conf)
