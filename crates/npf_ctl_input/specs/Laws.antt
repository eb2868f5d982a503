-- Where contents are told and no read of any file fails, what is read doesn't hang on the moments.
use Rattle.std.specs.Prelude.{◌≡◌, ℕ, Option, Some, Result, List}
use Rattle.npf_model.specs.declared.iface.Iface.{Iface}
use Rattle.npf_outside.specs.Files.{FilesMoment, Tree}
use Rattle.npf_types.specs.Stages.{Stage}
use Rattle.npf_ctl_messages.specs.declared.fault.CommandFault.{CommandFault}
use Rattle.npf_ctl_input.specs.File.{ReadsFile, ReadsWell, told_files}
use Rattle.npf_ctl_input.specs.Interfaces.{ReadsInterfaces}
use Rattle.npf_ctl_input.specs.Loads.{LoadsAlone, LoadsFile}

-- a stage comes to what it would come to over the contents alone
abbrev pub IsOfContents : {A : Type 0} → (FilesMoment → FilesMoment → Stage A CommandFault) → Type 0
IsOfContents {A} stage = (tree : Tree) (before after : FilesMoment) (result : Result A CommandFault) → before.contents ≡ Some tree → ReadsWell before after
    → stage before after result → stage (told_files tree) (told_files tree) result

abbrev pub FilesAreOfContents : Type 0
FilesAreOfContents = (name : List ℕ) (most : ℕ) → IsOfContents (λ before after. ReadsFile before after name most)

abbrev pub InterfacesAreOfContents : Type 0
InterfacesAreOfContents = (file : Option (List ℕ)) → IsOfContents (λ before after. ReadsInterfaces before after file)

abbrev pub ConfigurationsAreOfContents : Type 0
ConfigurationsAreOfContents = (ifaces : List Iface) (file : List ℕ) → IsOfContents (λ before after. LoadsFile before after ifaces file)

-- the same with the interfaces' file
abbrev pub LoadsAreOfContents : Type 0
LoadsAreOfContents = (ifaces : Option (List ℕ)) (conf : List ℕ) → IsOfContents (λ before after. LoadsAlone before after ifaces conf)
