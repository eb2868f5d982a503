use Rattle.std.proofs.{Common.{◌≡◌, rules}, lemmas.Fn.always_returns_same}
use Rattle.npf_ctl_arrivals.proofs.order.by_time.Goals as goal

pub returns-in-Ok : goal.returns-in-Ok
returns-in-Ok c = record {
  same = c.in-Ok.ensures.permutation;
  sorted = c.in-Ok.ensures.sorted (λ packet. packet.time) (always_returns_same _ (λ a r. r ≡ a.0.now.time) _ (λ a r q k. search rules));
  stable = c.in-Ok.ensures.stable (λ packet. packet.time) (always_returns_same _ (λ a r. r ≡ a.0.now.time) _ (λ a r q k. search rules));
}
