use Rattle.std.proofs.Common.{refl}
use Rattle.npf_runner.proofs.RestLemmas.{rested_self}
use Rattle.npf_runner.proofs.control.control.Goals as goal

pub loop-command-init : goal.loop-command-init
loop-command-init g c = (c.requires.out, rested_self (g.C.Connections.view c.args.pass) c.requires.out.legal, c.requires.numbers, refl, (λ new r. r))
