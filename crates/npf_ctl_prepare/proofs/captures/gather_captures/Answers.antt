use Rattle.npf_ctl_input.specs.Source.{Alone}
use Rattle.npf_ctl_prepare.proofs.GatherLemmas.{only_gathered}
use Rattle.npf_ctl_prepare.proofs.captures.gather_captures.Goals as goal

pub returns-in-Some-clause-comes : goal.returns-in-Some-clause-comes
returns-in-Some-clause-comes g c =
    let one = rw c.in-Some.is at c.requires.one in
    λ before after around.
    rw c.in-Some.is
    (only_gathered before after (Alone c.in-Some.bytes.items) c.args.ifaces.now.list c.args.lines.now c.index-lines-0.result one c.gather_alone.result
    (c.gather_alone.ensures.comes before after))
