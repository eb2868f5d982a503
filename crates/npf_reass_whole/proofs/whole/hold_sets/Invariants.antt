use Rattle.std.proofs.Common.{◌≡◌, drop, map}
use Rattle.npf_pieces.specs.Sets.{set_at}
use Rattle.npf_reass_whole.specs.Run.{with_sets_held}
use Rattle.npf_reass_whole.proofs.whole.hold_sets.Given as goal

abbrev pub invariant-loop-set : goal.invariant-loop-set
invariant-loop-set l =
    with_sets_held (map (set_at l.class.arrived.items) (drop l.set-index l.class.sets.items)) l.packets
    ≡ with_sets_held (map (set_at l.class.arrived.items) l.class.sets.items) l.initial.packets
