use Rattle.std.proofs.Common.{◌≤◌, ◌+◌, ◌<◌, ℕ, suc, List, [], ◌∷◌, length, get_or, drop, length-drop, drop-cons, arith}
use Rattle.npf_pcap.specs.{declared.extent.Extent.Extent, Extent.StandApart}
use Rattle.npf_ctl_arrivals.proofs.trace.cut.Goals as goal

ends_within : (low : ℕ) (extents : List Extent) (high : ℕ) → StandApart low extents high → low ≤ high
ends_within low [] high p = p
ends_within low (extent ∷ extents) high p = omega (arith, p, ends_within (extent.at + extent.len) extents high p.1)

-- the extent at a place stands between those before and the end
at_place :
    (low : ℕ) (extents : List Extent) (high i : ℕ) → StandApart low (drop i extents) high → i < length extents → (d : Extent) →
    (low ≤ (get_or extents i d).at) × ((get_or extents i d).at + (get_or extents i d).len ≤ high)
at_place low extents high i p inside d =
    let q = rw (drop-cons extents i d inside) at p in
    (q.0, ends_within ((get_or extents i d).at + (get_or extents i d).len) (drop (suc i) extents) high q.1)

pub split_at_mut-behind-requires : goal.split_at_mut-behind-requires
split_at_mut-behind-requires c =
    let within = at_place c.loop-extent.at c.args.extents.now (length c.args.bytes.now) c.loop-extent.extent-index c.loop-extent.invariant.apart c.loop-extent-test.true in
    rw c.loop-extent.invariant.rest (omega (arith, within (record { time = 0; at = 0; len = 0 }), length-drop c.loop-extent.at c.args.bytes.now))

pub split_at_mut-own-requires : goal.split_at_mut-own-requires
split_at_mut-own-requires c =
    let within = at_place c.loop-extent.at c.args.extents.now (length c.args.bytes.now) c.loop-extent.extent-index c.loop-extent.invariant.apart c.loop-extent-test.true in
    let rest = rw c.loop-extent.invariant.rest at c.split_at_mut-behind.ensures.back_len in
    omega (arith, within (record { time = 0; at = 0; len = 0 }), rest, length-drop c.loop-extent.at c.args.bytes.now)
