use Rattle.std.proofs.Common.{sym}
use Rattle.npf_saved_file.proofs.OrderLemmas.{before_after, rises_after}
use Rattle.npf_saved_file.proofs.conns.rises.Goals as goal

pub returns-in-Some : goal.returns-in-Some
returns-in-Some c = (
  λ yes. rises_after c.args.conns.now c.in-Some.last.now c.args.saved.now c.requires (sym c.in-Some.ensures.value) (c.is_before.ensures.0 yes),
  λ all. c.is_before.ensures.1 (before_after c.args.conns.now c.in-Some.last.now c.args.saved.now all (sym c.in-Some.ensures.value)),
)
