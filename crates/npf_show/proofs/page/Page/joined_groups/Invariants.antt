use Rattle.std.{proofs.Common.{◌≡◌, ◌++◌, take, codes}, specs.{List.flat_map, Net.Text.hex}}
use Rattle.npf_show.proofs.page.Page.joined_groups.Given as goal

-- what stands behind the first group so far
abbrev pub invariant-loop-number : goal.invariant-loop-number
invariant-loop-number l =
    l.self ≡ l.initial.self ++ flat_map (λ number. codes ":" ++ hex number) (take l.number-index l.others)
