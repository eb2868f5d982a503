-- Why two configurations aren't compared, beside the interfaces that were given with them.
use Rattle.std.proofs.Common.{◌≡◌, List, ℕ, Result, Ok, Err, IfErr, subst}
use Rattle.npf_model.specs.{declared.iface.Iface.Iface, Configuration.Configuration}
use Rattle.npf_ctl_messages.specs.declared.fault.{CommandFault.CommandFault}
use Rattle.npf_ctl_messages.specs.declared.fault.CommandFault.TheVariants as Fault
use Rattle.npf_ctl_messages.specs.declared.fault.Quantity.TheVariants.{Interfaces}
use Rattle.npf_ctl_compare.specs.{Differences.IsCompareFault, Loaded.{RefusesCompare, new_numbered, old_numbered}}

module _ (given : List Iface) (old new : Configuration) (most : ℕ) where
  not_of_interfaces : (fault : CommandFault) → IsCompareFault (old_numbered given old new) (new_numbered given old new) most fault → RefusesCompare given old new most fault
  not_of_interfaces (Fault.Many Interfaces count) is = absurd is
  not_of_interfaces fault is = is

  pub refuses : {T : Type 0} (result : Result T CommandFault) {one other : Configuration} → one ≡ old_numbered given old new → other ≡ new_numbered given old new
      → IfErr result (IsCompareFault one other most) → IfErr result (RefusesCompare given old new most)
  refuses (Ok answer) old_is new_is is = is
  refuses (Err fault) {one} {other} old_is new_is is =
      not_of_interfaces fault
      (subst (λ numbered. IsCompareFault (old_numbered given old new) numbered most fault) new_is
      (subst (λ numbered. IsCompareFault numbered other most fault) old_is is))
