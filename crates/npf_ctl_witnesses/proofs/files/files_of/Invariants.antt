use Rattle.std.{proofs.Common.{◌≡◌, map, take}, specs.List.enumerate_from}
use Rattle.npf_ctl_witnesses.specs.WitnessFiles.{capture_file}
use Rattle.npf_ctl_witnesses.proofs.files.files_of.Given as goal

abbrev pub invariant-loop-place : goal.invariant-loop-place
invariant-loop-place l = l.files.items ≡ map (capture_file l.ifaces l.packets l.prefix) (enumerate_from 1 (take l.place l.leaders))
