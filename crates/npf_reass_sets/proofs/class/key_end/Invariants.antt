use Rattle.std.{proofs.Common.{◌≡◌, ℕ, ◌<◌, ◌≤◌, true}, specs.Prelude.slice_index_or}
use Rattle.npf_pieces.specs.declared.arrived.Arrived.{Arrived}
use Rattle.npf_reass_sets.specs.Class.{same_key}
use Rattle.npf_reass_sets.proofs.class.key_end.Given as goal

abbrev pub invariant-loop-to : goal.invariant-loop-to
invariant-loop-to l = (k : ℕ) (d : Arrived) → l.from ≤ k → k < l.to → same_key (slice_index_or l.arrived l.from d) (slice_index_or l.arrived k d) ≡ true
