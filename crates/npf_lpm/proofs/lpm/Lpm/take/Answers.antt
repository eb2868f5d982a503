use Rattle.std.proofs.Common.{ap}
use Rattle.npf_lpm.{specs.Families.is_narrow, proofs.BothLemmas.{families_take_v4, families_take_v6, take_v4, take_v6}}
use Rattle.npf_lpm.proofs.lpm.Lpm.take.Goals as goal

pub invariant_of-self : goal.invariant_of-self
invariant_of-self c = families_take_v4 c.self.inside.v4 c.self.inside.v6 c.remove.new.self c.self.invariant c.args.prefix c.remove.result (rw c.aligned_of.ensures.value at c.remove.ensures)

pub invariant_of-self-in-V6 : goal.invariant_of-self-in-V6
invariant_of-self-in-V6 c = families_take_v6 c.self.inside.v4 c.self.inside.v6 c.remove-in-V6.new.self c.self.invariant c.args.prefix c.remove-in-V6.result
    (rw c.aligned_of-in-V6.ensures.value at c.remove-in-V6.ensures)

pub returns-in-V4 : goal.returns-in-V4
returns-in-V4 c = rw (← c.self.view_is) (take_v4 c.self.inside.v4 c.self.inside.v6 c.remove.new.self c.self.invariant c.args.prefix c.remove.result
    (ap is_narrow c.in-V4.is) (rw c.aligned_of.ensures.value at c.remove.ensures))

pub returns-in-V6 : goal.returns-in-V6
returns-in-V6 c = rw (← c.self.view_is) (take_v6 c.self.inside.v4 c.self.inside.v6 c.remove-in-V6.new.self c.self.invariant c.args.prefix c.remove-in-V6.result
    (ap is_narrow c.in-V6.is) (rw c.aligned_of-in-V6.ensures.value at c.remove-in-V6.ensures))
