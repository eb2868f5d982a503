use Rattle.std.{proofs.Common.{◌≡◌, take}, specs.{Int.{w64, to_be_bytes}, List.flat_map}}
use Rattle.npf_paths.specs.Hash.{fnv_of}
use Rattle.npf_paths.proofs.hash.FnvKeyHash.hash.Given as goal

abbrev pub invariant-loop-word : goal.invariant-loop-word
invariant-loop-word l = l.hash ≡ fnv_of (flat_map (to_be_bytes w64) (take l.word-index l.key.0))
