use Rattle.std.{proofs.Common.{◌≡◌, map, take}, specs.List.{enumerate_from, filter}}
use Rattle.npf_ctl_witnesses.specs.Alike.{leads}
use Rattle.npf_ctl_witnesses.proofs.alike.leaders.Given as goal

abbrev pub invariant-loop-place : goal.invariant-loop-place
invariant-loop-place l = l.found.items ≡ map (λ placed. placed.1) (filter (leads l.ifaces l.packets) (enumerate_from 0 (take l.place l.packets)))
