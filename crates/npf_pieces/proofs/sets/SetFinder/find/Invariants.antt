use Rattle.std.{proofs.Common.{◌≡◌, ◌+◌}, specs.Prelude.{◌++◌, [], map, slice_range}}
use Rattle.npf_pieces.specs.{Judged.IsJudged, Sets.{set_at, sets_from}}
use Rattle.npf_pieces.proofs.sets.SetFinder.find.Given as goal

abbrev pub invariant-loop-place : goal.invariant-loop-place
invariant-loop-place l = record {
  at : l.self.known.behind ≡ l.place;
  judged : IsJudged l.arrived l.to (map (set_at l.arrived) l.initial.sets.items ++ sets_from [] (slice_range l.arrived l.from l.to)) l.self.known l.sets.items;
}
