-- What is told of two configurations, beside the interfaces that were given with them.
use Rattle.std.specs.Prelude.{◌≡◌, ◌≤◌, ◌<◌, ℕ, Bool, List, length}
use Rattle.npf_types.specs.declared.limits.TheConstants.{MAX_INTERFACES}
use Rattle.npf_model.specs.declared.iface.Iface.{Iface}
use Rattle.npf_model.specs.Configuration.{Configuration}
use Rattle.npf_interfaces.specs.Names.{model_names, with_names}
use Rattle.npf_ctl_asked.specs.Asked.{numbered_with}
use Rattle.npf_ctl_messages.specs.declared.fault.CommandFault.{CommandFault}
use Rattle.npf_ctl_messages.specs.declared.fault.CommandFault.TheVariants.{Many}
use Rattle.npf_ctl_messages.specs.declared.fault.Quantity.TheVariants.{Interfaces}
use Rattle.npf_ctl_compare.specs.{CompareText.IsCompareText, Differences.IsCompareFault}

module _ (given : List Iface) (old new : Configuration) where
  -- the interfaces that packets may pass on: those given, those of the old configuration, and those of the new one
  abbrev pub compare_ifaces : List Iface
  compare_ifaces = with_names (with_names given (model_names old.model)) (model_names new.model)

  -- the configurations with their numbers
  abbrev pub old_numbered : Configuration
  old_numbered = numbered_with compare_ifaces old

  abbrev pub new_numbered : Configuration
  new_numbered = numbered_with compare_ifaces new

  -- the text is that of both by these numbers
  pub record AnswersCompare (same : Bool) (text : List ℕ) : Type 0 where
    pub few : length compare_ifaces ≤ MAX_INTERFACES
    pub told : IsCompareText compare_ifaces old_numbered new_numbered same text

  -- why nothing is told; want of memory says nothing
  abbrev pub RefusesCompare : ℕ → CommandFault → Type 0
  RefusesCompare most (Many Interfaces count) = (count ≡ length compare_ifaces) × (MAX_INTERFACES < count)
  RefusesCompare most fault = IsCompareFault old_numbered new_numbered most fault
