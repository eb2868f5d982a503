use Rattle.npf_expand_values.specs.Scope.{known_of_scope}
use Rattle.npf_expand_values.proofs.scope.Scope.alone.Goals as goal

pub returns : goal.returns
returns c = c.alone.ensures (known_of_scope c.args.self.now)
