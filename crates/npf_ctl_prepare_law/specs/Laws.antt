-- Over told files, of which no read fails, what a run is prepared from is one, and so is a configuration that is only looked at.
use Rattle.std.specs.Prelude.{ℕ, Option, List}
use Rattle.npf_outside.specs.Files.{Tree}
use Rattle.npf_config_law.specs.Entries.{AreOneConfiguration}
use Rattle.npf_ctl_input.specs.File.{told_files}
use Rattle.npf_ctl_input.specs.Loads.{LoadsAlone}
use Rattle.npf_ctl_prepare.specs.Prepares.{PreparesRun, RunNames}
use Rattle.npf_ctl_prepare_law.specs.Readings.{Agree, AreOnePlan}

abbrev pub OneRun : Type 0
OneRun = (tree : Tree) (names : RunNames) →
    Agree AreOnePlan (PreparesRun (told_files tree) (told_files tree) names) (PreparesRun (told_files tree) (told_files tree) names)

abbrev pub OneLoadAlone : Type 0
OneLoadAlone = (tree : Tree) (ifaces : Option (List ℕ)) (conf : List ℕ) →
    Agree AreOneConfiguration (LoadsAlone (told_files tree) (told_files tree) ifaces conf) (LoadsAlone (told_files tree) (told_files tree) ifaces conf)
