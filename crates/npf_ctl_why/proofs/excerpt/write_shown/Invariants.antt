use Rattle.std.proofs.Common.{◌≡◌, ◌++◌, take}
use Rattle.npf_ctl_why.specs.Excerpt.{shown_text}
use Rattle.npf_ctl_why.proofs.excerpt.write_shown.Given as goal

abbrev pub invariant-loop-byte : goal.invariant-loop-byte
invariant-loop-byte l = record {
  so_far : l.into.items ≡ l.initial.into.items ++ shown_text (take l.byte-index l.fn.bytes);
}
