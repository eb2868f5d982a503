use Rattle.std.{proofs.Common.{◌≡◌, ◌++◌, take, codes}, specs.{List.flat_map, Net.Text.hex}}
use Rattle.npf_witness.proofs.address.write_groups.Given as goal

-- what stands behind the first group so far
abbrev pub invariant-loop-number : goal.invariant-loop-number
invariant-loop-number l =
    l.into.items ≡ l.initial.into.items ++ flat_map (λ number. codes ":" ++ hex number) (take l.number-index l.others)
