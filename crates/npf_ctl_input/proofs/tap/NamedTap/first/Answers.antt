use Rattle.std.proofs.Common.{ap}
use Rattle.npf_types.specs.declared.{direction.Dir.TheVariants.In, name.Name.Name}
use Rattle.npf_ctl_input.specs.declared.tap.NamedTap.{NamedTap}
use Rattle.npf_ctl_input.proofs.tap.NamedTap.first.Goals as goal

pub returns : goal.returns
returns c = ap (λ (name : Name). record { name = name; dir = In }) c.in-Some.ensures.value
