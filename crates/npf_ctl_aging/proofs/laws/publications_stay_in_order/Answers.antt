use Rattle.npf_ctl_aging.{specs.Aging.ticks, proofs.OrderLemmas.order_of_phases}
use Rattle.npf_ctl_aging.proofs.laws.publications_stay_in_order.Goals as goal

pub returns : goal.returns
returns c = λ seconds count packets phases order. (order.0, order_of_phases count 0 (ticks seconds packets) phases order.1)
