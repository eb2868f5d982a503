use Rattle.std.proofs.{Common.{ap, length, arith}, lemmas.List.length-reverse}
use Rattle.npf_bpfgen.proofs.tail.Tail.len.Goals as goal

pub returns : goal.returns
returns c = omega (arith, length-reverse c.self.inside.reversed.items, ap length c.self.view_is)
