use Rattle.std.proofs.Common.{ap}
use Rattle.npf_lpm.{specs.Families.is_narrow, proofs.BothLemmas.{families_put_v4, families_put_v6, put_v4, put_v6}}
use Rattle.npf_lpm.proofs.lpm.Lpm.put.Goals as goal

pub invariant_of-self : goal.invariant_of-self
invariant_of-self c = families_put_v4 c.self.inside.v4 c.self.inside.v6 c.insert.new.self c.self.invariant c.args.prefix c.insert.result
    (ap is_narrow c.in-V4.is) (rw c.aligned_of.ensures.value at c.insert.ensures)

pub invariant_of-self-in-V6 : goal.invariant_of-self-in-V6
invariant_of-self-in-V6 c = families_put_v6 c.self.inside.v4 c.self.inside.v6 c.insert-in-V6.new.self c.self.invariant c.args.prefix c.insert-in-V6.result
    (ap is_narrow c.in-V6.is) (rw c.aligned_of-in-V6.ensures.value at c.insert-in-V6.ensures)

pub returns-in-V4 : goal.returns-in-V4
returns-in-V4 c = rw (← c.self.view_is) (put_v4 c.self.inside.v4 c.self.inside.v6 c.insert.new.self c.self.invariant c.args.prefix c.insert.result
    (ap is_narrow c.in-V4.is) (rw c.aligned_of.ensures.value at c.insert.ensures))

pub returns-in-V6 : goal.returns-in-V6
returns-in-V6 c = rw (← c.self.view_is) (put_v6 c.self.inside.v4 c.self.inside.v6 c.insert-in-V6.new.self c.self.invariant c.args.prefix c.insert-in-V6.result
    (ap is_narrow c.in-V6.is) (rw c.aligned_of-in-V6.ensures.value at c.insert-in-V6.ensures))
