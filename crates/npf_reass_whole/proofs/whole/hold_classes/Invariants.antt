use Rattle.std.proofs.Common.{◌≡◌, drop}
use Rattle.npf_reass_whole.specs.Run.{all_sets, with_sets_held}
use Rattle.npf_reass_whole.proofs.whole.hold_classes.Given as goal

abbrev pub invariant-loop-class : goal.invariant-loop-class
invariant-loop-class l = with_sets_held (all_sets (drop l.class-index l.classes)) l.packets ≡ with_sets_held (all_sets l.classes) l.initial.packets
