-- What a question is about.
use Rattle.std.specs.Prelude.{◌≡◌, ◌≤◌, ◌<◌, ℕ, Ok, Option, Some, None, List, [], ◌∷◌, length}
use Rattle.npf_types.specs.declared.limits.TheConstants.{MAX_INTERFACES}
use Rattle.npf_types.specs.declared.name.Name.{Name}
use Rattle.npf_model.specs.declared.iface.Iface.{Iface}
use Rattle.npf_model.specs.declared.rule.Rule.{Rule}
use Rattle.npf_model.specs.Configuration.{Configuration}
use Rattle.npf_model.specs.Numbering.{numbered, numbered_rule}
use Rattle.npf_class.specs.Class.{ReadsClass}
use Rattle.npf_interfaces.specs.Names.{model_names, on_names, with_names}
use Rattle.npf_ctl_class.specs.ClassFault.{IsClassFault}
use Rattle.npf_ctl_messages.specs.declared.fault.CommandFault.{CommandFault}
use Rattle.npf_ctl_messages.specs.declared.fault.CommandFault.TheVariants.{Many}
use Rattle.npf_ctl_messages.specs.declared.fault.Quantity.TheVariants.{Interfaces}

abbrev pub own_names : Option Name → List Name
own_names None = []
own_names (Some name) = name ∷ []

-- the configuration with the numbers of these interfaces
abbrev pub numbered_with : List Iface → Configuration → Configuration
numbered_with ifaces config = record config { model = numbered ifaces config.model }

module _ (given : List Iface) (config : Configuration) (own : Option Name) (text : List ℕ) where
  -- the interfaces by which the class is read: those given, those of the configuration, and that of the question
  abbrev pub read_ifaces : List Iface
  read_ifaces = with_names (with_names given (model_names config.model)) (own_names own)

  -- and those of its rule behind them
  abbrev pub asked_ifaces : Rule → List Iface
  asked_ifaces rule = with_names read_ifaces (on_names rule.on)

  -- what is asked about: these interfaces, and by their numbers the configuration and the class's rule
  pub record IsAskedAbout (ifaces : List Iface) (asked : Configuration) (class : Rule) : Type 0 where
    pub rule : Rule
    pub reads : ReadsClass read_ifaces config.model text (Ok rule)
    pub ifaces_are : ifaces ≡ asked_ifaces rule
    pub few : length ifaces ≤ MAX_INTERFACES
    pub config_is : asked ≡ numbered_with ifaces config
    pub class_is : class ≡ numbered_rule ifaces rule

  -- why nothing can be asked; want of memory says nothing
  abbrev pub RefusesAsked : CommandFault → Type 0
  RefusesAsked (Many Interfaces count) =
      (rule : Rule) × ReadsClass read_ifaces config.model text (Ok rule) × (count ≡ length (asked_ifaces rule)) × (MAX_INTERFACES < count)
  RefusesAsked fault = IsClassFault read_ifaces config.model text fault
