-- What is told of a configuration, beside the interfaces that were given with it.
use Rattle.std.specs.Prelude.{◌≡◌, ◌≤◌, ◌<◌, ℕ, Bool, List, length}
use Rattle.npf_types.specs.declared.limits.TheConstants.{MAX_INTERFACES}
use Rattle.npf_model.specs.declared.iface.Iface.{Iface}
use Rattle.npf_model.specs.Configuration.{Configuration}
use Rattle.npf_interfaces.specs.Names.{model_names, with_names}
use Rattle.npf_ctl_asked.specs.Asked.{numbered_with}
use Rattle.npf_ctl_messages.specs.declared.fault.CommandFault.{CommandFault}
use Rattle.npf_ctl_messages.specs.declared.fault.CommandFault.TheVariants.{Many}
use Rattle.npf_ctl_messages.specs.declared.fault.Quantity.TheVariants.{Interfaces}
use Rattle.npf_ctl_query.specs.QueryText.{IsStopFault}
use Rattle.npf_ctl_lint.specs.LintText.{IsLintText}

module _ (given : List Iface) (config : Configuration) where
  -- the interfaces that packets may pass on: those given, and those of the configuration
  abbrev pub lint_ifaces : List Iface
  lint_ifaces = with_names given (model_names config.model)

  -- the text is that of the configuration by their numbers
  pub record AnswersLint (found : Bool) (text : List ℕ) : Type 0 where
    pub few : length lint_ifaces ≤ MAX_INTERFACES
    pub told : IsLintText (numbered_with lint_ifaces config) found text

  -- why nothing is told; want of memory says nothing
  abbrev pub RefusesLint : ℕ → CommandFault → Type 0
  RefusesLint most (Many Interfaces count) = (count ≡ length lint_ifaces) × (MAX_INTERFACES < count)
  RefusesLint most fault = IsStopFault most fault
