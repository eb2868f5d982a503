use Rattle.std.proofs.Common.{ap, true, false}
use Rattle.npf_lpm.{specs.Families.is_narrow, proofs.BothLemmas.covers_in}
use Rattle.npf_lpm.proofs.lpm.Lpm.contains.Goals as goal

pub returns-in-V4 : goal.returns-in-V4
returns-in-V4 c =
    let d = covers_in c.self.inside.v4 c.self.inside.v6 c.self.invariant true c.args.addr (ap is_narrow c.in-V4.is) in
    rw (← c.self.view_is) (λ h. d.0 (rw c.number_of.ensures at (c.contains.ensures.0 h)), λ cov. c.contains.ensures.1 (rw c.number_of.ensures (d.1 cov)))

pub returns-in-V6 : goal.returns-in-V6
returns-in-V6 c =
    let d = covers_in c.self.inside.v4 c.self.inside.v6 c.self.invariant false c.args.addr (ap is_narrow c.in-V6.is) in
    rw (← c.self.view_is) (λ h. d.0 (rw c.number_of-in-V6.ensures at (c.contains-in-V6.ensures.0 h)), λ cov. c.contains-in-V6.ensures.1 (rw c.number_of-in-V6.ensures (d.1 cov)))
