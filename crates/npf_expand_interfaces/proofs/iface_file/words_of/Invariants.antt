use Rattle.std.{proofs.Common.{◌≡◌, length, map, take}, specs.List.{filter, slice_split}}
use Rattle.npf_expand_interfaces.specs.IfaceFile.{has_some, is_space}
use Rattle.npf_expand_interfaces.proofs.iface_file.words_of.Given as goal

abbrev pub invariant-loop-piece : goal.invariant-loop-piece
invariant-loop-piece l = record {
  can : (goal.iterator-loop-piece).can_next l.piece-iterator;
  finite : (goal.iterator-loop-piece).is_finite l.piece-iterator;
  kept : map (λ word. word.now) l.words.items ≡ filter has_some (take (length l.yielded) (slice_split is_space l.fn.text));
}
