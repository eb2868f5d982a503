use Rattle.std.proofs.Common.{sym}
use Rattle.npf_expand_values.proofs.variable.Variables.find.Goals as goal

pub bound-requires : goal.bound-requires
bound-requires c = c.args.self.now.within c.args.name.now c.in-Some.place.now (sym c.in-Some.ensures.value)
