use Rattle.std.proofs.Common.{◌+◌, ◌≤◌, All, vec_len, vec_capacity}
use Rattle.npf_reass_run.{specs.Gathering.IsOfferAmong, proofs.ListLemmas.HasTaken}
use Rattle.npf_reass_run.proofs.gather.arrived_list.Given as goal

abbrev pub decreases-loop-offer : goal.decreases-loop-offer
decreases-loop-offer l = vec_len l.offers

abbrev pub invariant-loop-offer : goal.invariant-loop-offer
invariant-loop-offer l = record {
  among : All (IsOfferAmong l.packets) l.offers.items;
  taken : HasTaken l.packets l.fn.list.items l.offers.items l.arrived.items;
  room : vec_len l.arrived + vec_len l.offers ≤ vec_capacity l.arrived;
}
