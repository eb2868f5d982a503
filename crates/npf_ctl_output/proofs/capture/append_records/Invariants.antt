use Rattle.std.proofs.Common.{◌-◌, ◌≤◌, length, vec_capacity}
use Rattle.npf_ctl_output.{specs.Capture.bytes_behind, proofs.WrittenLemmas.IsAppended}
use Rattle.npf_ctl_output.proofs.capture.append_records.Given as goal

abbrev pub invariant-loop-place : goal.invariant-loop-place
invariant-loop-place l = record {
  so_far : IsAppended (bytes_behind l.extents l.outputs l.outcomes l.from) (bytes_behind l.extents l.outputs l.outcomes l.place) l.initial.part.items l.part.items;
  room : vec_capacity l.initial.part ≤ vec_capacity l.part;
}

abbrev pub decreases-loop-place : goal.decreases-loop-place
decreases-loop-place l = length l.outputs - l.place
