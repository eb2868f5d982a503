-- Over told contents, of which no read fails, a text is loaded in one way.
use Rattle.std.specs.Prelude.{◌≡◌, ℕ, Some, Result, List}
use Rattle.npf_model.specs.declared.iface.Iface.{Iface}
use Rattle.npf_model.specs.Configuration.{Configuration}
use Rattle.npf_outside.specs.Counts.{StoodStill}
use Rattle.npf_outside.specs.Files.{FilesMoment, Tree}
use Rattle.npf_config.specs.declared.fault.LoadFault.{LoadFault}
use Rattle.npf_config_law.specs.Readings.{AreOneLoad, LoadsOrEnds}

abbrev pub OneLoad : Type 0
OneLoad = (tree : Tree) (before now : FilesMoment) (ifaces : List Iface) (text : List ℕ) → before.contents ≡ Some tree →
    StoodStill before.read_faults now.read_faults → (one other : Result Configuration LoadFault) → LoadsOrEnds ifaces text before now one →
    LoadsOrEnds ifaces text before now other → AreOneLoad one other
