use Rattle.std.{proofs.Common.{◌≡◌, ◌++◌, take}, specs.List.{enumerate_from, flat_map}}
use Rattle.npf_ctl_witnesses.specs.WitnessFiles.{capture_line}
use Rattle.npf_ctl_witnesses.proofs.script.write_captures.Given as goal

abbrev pub invariant-loop-place : goal.invariant-loop-place
invariant-loop-place l =
    l.into.items ≡ l.initial.into.items ++ flat_map (capture_line l.ifaces l.prefix) (enumerate_from 1 (take l.place l.leaders))
