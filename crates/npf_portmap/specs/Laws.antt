use Rattle.std.specs.Prelude.{◌≡◌, ◌≤◌, ◌==◌, ◌&&◌, ℕ, if◌then◌else◌, nat_le, count_by}
use Rattle.npf_portmap.specs.Candidate.{candidates}

-- a port of the range stands among the candidates once, and another port not at all
abbrev pub EachPortOnce : Type 0
EachPortOnce =
    (min max first port : ℕ) → min ≤ first → first ≤ max →
    count_by (λ candidate. candidate == port) (candidates min max first) ≡ (if nat_le min port && nat_le port max then 1 else 0)
