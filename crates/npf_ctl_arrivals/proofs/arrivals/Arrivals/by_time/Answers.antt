use Rattle.std.proofs.{Common.{◌≡◌, ◌≤◌, List, Result, IfOk, Vec, Global, All, length}, lemmas.List.Sorted.{All-permutation, length_permutation}}
use Rattle.std.proofs.lemmas.Result.{IfOk-weaker}
use Rattle.npf_types.specs.declared.{limits.TheConstants.MAX_PACKETS, memory.NoMemory.NoMemory}
use Rattle.npf_traffic.specs.{declared.packet.Packet.Packet, Packet.IsShortPacket}
use Rattle.npf_ctl_arrivals.specs.{Arrivals.AreByTime, Within.{CrossesOneOf, HasCaptureTime}}
use Rattle.npf_ctl_arrivals.proofs.arrivals.Arrivals.by_time.Goals as goal

-- what all gathered packets are, those by time are
module _ (r : Result (Vec Packet Global) NoMemory) (gathered packets : List Packet) (sorted : IfOk r (λ v. AreByTime packets v.items)) (same : packets ≡ gathered) where
  each_still : (P : Packet → Type 0) → All P gathered → IfOk r (λ v. All P v.items)
  each_still P all = IfOk-weaker r (λ v. AreByTime packets v.items) (λ v. All P v.items) (λ v by_time. All-permutation P packets v.items by_time.same (rw same all)) sorted

  as_many : length gathered ≤ MAX_PACKETS → IfOk r (λ v. length v.items ≤ MAX_PACKETS)
  as_many few = IfOk-weaker r (λ v. AreByTime packets v.items) (λ v. length v.items ≤ MAX_PACKETS) (λ v by_time. rw (length_permutation packets v.items by_time.same, same) few) sorted

pub returns-clause-count : goal.returns-clause-count
returns-clause-count c = as_many c.by_time.result _ _ c.by_time.ensures c.in_ok-packets.ensures c.requires.count

pub returns-clause-short : goal.returns-clause-short
returns-clause-short c = each_still c.by_time.result _ _ c.by_time.ensures c.in_ok-packets.ensures IsShortPacket c.requires.short

pub returns-clause-timed : goal.returns-clause-timed
returns-clause-timed c = each_still c.by_time.result _ _ c.by_time.ensures c.in_ok-packets.ensures HasCaptureTime c.requires.timed

pub returns-clause-crosses : goal.returns-clause-crosses
returns-clause-crosses c = λ count. each_still c.by_time.result _ _ c.by_time.ensures c.in_ok-packets.ensures (CrossesOneOf count)
