use Rattle.std.{proofs.Common.{◌≡◌, ◌++◌, take}, specs.List.flat_map}
use Rattle.npf_ctl_witnesses.specs.WitnessFiles.{step_text}
use Rattle.npf_ctl_witnesses.proofs.script.write_steps.Given as goal

abbrev pub invariant-loop-packet : goal.invariant-loop-packet
invariant-loop-packet l = l.into.items ≡ l.initial.into.items ++ flat_map step_text (take l._packet-index l.packets)
