-- What a file of expectations is about.
use Rattle.std.specs.Prelude.{◌≡◌, ◌≤◌, ◌<◌, ℕ, List, length, map}
use Rattle.std.specs.List.{flat_map}
use Rattle.npf_types.specs.declared.limits.TheConstants.{MAX_INTERFACES}
use Rattle.npf_types.specs.declared.name.Name.{Name}
use Rattle.npf_table.specs.TableFile.{lines}
use Rattle.npf_model.specs.declared.iface.Iface.{Iface}
use Rattle.npf_model.specs.declared.model.Model.{Model}
use Rattle.npf_model.specs.Configuration.{Configuration}
use Rattle.npf_model.specs.Numbering.{numbered_rule}
use Rattle.npf_interfaces.specs.Names.{model_names, on_names, with_names}
use Rattle.npf_ctl_asked.specs.Asked.{numbered_with}
use Rattle.npf_ctl_messages.specs.declared.fault.CommandFault.{CommandFault}
use Rattle.npf_ctl_messages.specs.declared.fault.CommandFault.TheVariants.{Many, NoMemory}
use Rattle.npf_ctl_messages.specs.declared.fault.Quantity.TheVariants.{Interfaces}
use Rattle.npf_ctl_check.specs.declared.expectation.Expectation.{Expectation}
use Rattle.npf_ctl_check.specs.Reading.{AreExpected, RefusesAnyLine}

-- the interfaces by which classes are read: those given, and those of the configuration
abbrev pub known_ifaces : List Iface → Model → List Iface
known_ifaces given model = with_names given (model_names model)

-- the interface that a class is bound to, if it is
abbrev pub class_names : Expectation → List Name
class_names expectation = on_names expectation.class.on

-- what is expected, with the class by the numbers of these interfaces
abbrev pub numbered_expectation : List Iface → Expectation → Expectation
numbered_expectation ifaces expectation = record expectation { class = numbered_rule ifaces expectation.class }

-- these interfaces, and those of the classes behind them
abbrev pub all_ifaces : List Iface → List Expectation → List Iface
all_ifaces known read = with_names known (flat_map class_names read)

module _ (text : List ℕ) (given : List Iface) (config : Configuration) where
  -- what is asked about: these interfaces, and by their numbers the configuration and what each line of the text expects of it
  pub record AreAskedAbout (ifaces : List Iface) (asked : Configuration) (expectations : List Expectation) : Type 0 where
    pub read : List Expectation
    pub reads : AreExpected (known_ifaces given config.model) config.model (lines text) read
    pub ifaces_are : ifaces ≡ all_ifaces (known_ifaces given config.model) read
    pub few : length ifaces ≤ MAX_INTERFACES
    pub config_is : asked ≡ numbered_with ifaces config
    pub are : expectations ≡ map (numbered_expectation ifaces) read

module _ (file : List ℕ) (text : List ℕ) (given : List Iface) (config : Configuration) where
  -- why nothing can be asked: a line is refused, or there are too many interfaces; want of memory says nothing
  pub data RefusesExpectations : CommandFault → Type 0 where
    line : {fault : CommandFault} → RefusesAnyLine file (known_ifaces given config.model) config.model text fault → RefusesExpectations fault
    many : {read : List Expectation} {count : ℕ} → AreExpected (known_ifaces given config.model) config.model (lines text) read
        → count ≡ length (all_ifaces (known_ifaces given config.model) read) → MAX_INTERFACES < count → RefusesExpectations (Many Interfaces count)
    memory : RefusesExpectations NoMemory
