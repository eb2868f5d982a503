-- What a rule or a group is bound to by direction and interface.
use Rattle.std.specs.Prelude.{◌≡◌, Bool, ◌&&◌, Option, None}
use Rattle.npf_types.specs.declared.direction.Dir.{Dir}
use Rattle.npf_types.specs.declared.direction.Dir.TheVariants.{In, Out}
use Rattle.npf_types.specs.declared.interface.IfId.{IfId}
use Rattle.npf_model.specs.declared.rule.OnIf.{OnIf}
use Rattle.npf_model.specs.Place.{fits_dir, fits_on}
use Rattle.npf_model.specs.Verdict.{PlacedRule}
use Rattle.npf_ruleset.specs.declared.binding.Binding.{Binding}

abbrev pub leaves_dir : Binding → Dir → Bool
leaves_dir binding In = binding.incoming
leaves_dir binding Out = binding.outgoing

-- a packet that passes there is left by the binding
abbrev pub is_bound : Binding → IfId → Dir → Bool
is_bound binding ifid dir = leaves_dir binding dir && fits_on binding.within ifid && fits_on binding.on ifid

-- the binding is that of a direction and an interface
pub record IsBoundTo (asked : Option Dir) (on : Option OnIf) (binding : Binding) : Type 0 where
  pub incoming : binding.incoming ≡ fits_dir asked In
  pub outgoing : binding.outgoing ≡ fits_dir asked Out
  pub within : binding.within ≡ None
  pub own : binding.on ≡ on

-- the binding is that of a rule and of its ruleset
pub record IsBindingOf (placed : PlacedRule) (binding : Binding) : Type 0 where
  pub incoming : binding.incoming ≡ (fits_dir placed.within_dir In && fits_dir placed.rule.dir In)
  pub outgoing : binding.outgoing ≡ (fits_dir placed.within_dir Out && fits_dir placed.rule.dir Out)
  pub within : binding.within ≡ placed.within_on
  pub own : binding.on ≡ placed.rule.on
