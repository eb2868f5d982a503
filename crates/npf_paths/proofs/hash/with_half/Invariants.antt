use Rattle.std.proofs.Common.{◌≡◌, fold, take}
use Rattle.npf_paths.specs.Hash.{fnv_round}
use Rattle.npf_paths.proofs.hash.with_half.Given as goal

abbrev pub invariant-loop-byte : goal.invariant-loop-byte
invariant-loop-byte l = l.hash ≡ fold fnv_round l.fn.before (take l.byte-index l.byte-items)
