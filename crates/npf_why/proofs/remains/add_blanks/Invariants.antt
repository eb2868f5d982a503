use Rattle.std.proofs.Common.{◌≡◌, ◌++◌, map, take}
use Rattle.npf_why.specs.Remains.{blank}
use Rattle.npf_why.proofs.remains.add_blanks.Given as goal

abbrev pub invariant-loop-byte : goal.invariant-loop-byte
invariant-loop-byte l = record {
  so_far : l.left.items ≡ l.initial.left.items ++ map blank (take l.byte-index l.fn.part);
}
