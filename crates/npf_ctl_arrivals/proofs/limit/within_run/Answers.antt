use Rattle.std.proofs.{Common.arith, lemmas.Bool.{le-leb, lt-leb}}
use Rattle.npf_types.specs.{declared.limits.TheConstants.{MAX_BYTES_OF_CAPTURES, MAX_PACKETS}, Stages.{stops, goes_on}}
use Rattle.npf_ctl_messages.specs.declared.fault.{CommandFault.TheVariants.Many, Quantity.TheVariants.{CaptureBytes, Packets}}
use Rattle.npf_ctl_arrivals.proofs.GatherLemmas.{asked_no, asked_yes}
use Rattle.npf_ctl_arrivals.proofs.limit.within_run.Goals as goal

pub returns-then-bytes-clause-stage : goal.returns-then-bytes-clause-stage
returns-then-bytes-clause-stage c = stops (asked_no (Many CaptureBytes c.args.bytes) (lt-leb c.args.bytes MAX_BYTES_OF_CAPTURES (omega arith)))

pub returns-then-packets-clause-stage : goal.returns-then-packets-clause-stage
returns-then-packets-clause-stage c =
    goes_on {a = tt} (asked_yes (Many CaptureBytes c.args.bytes) (le-leb c.args.bytes MAX_BYTES_OF_CAPTURES (omega arith)))
    (asked_no (Many Packets c.args.packets) (lt-leb c.args.packets MAX_PACKETS (omega arith)))

pub returns-clause-stage : goal.returns-clause-stage
returns-clause-stage c =
    goes_on {a = tt} (asked_yes (Many CaptureBytes c.args.bytes) (le-leb c.args.bytes MAX_BYTES_OF_CAPTURES (omega arith)))
    (asked_yes (Many Packets c.args.packets) (le-leb c.args.packets MAX_PACKETS (omega arith)))
