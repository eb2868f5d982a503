use Rattle.std.proofs.Common.{Err, sym, subst}
use Rattle.npf_ctl_messages.specs.declared.fault.CommandFault.{CommandFault}
use Rattle.npf_ctl_arrivals.specs.Arrivals.{ReadsCapture, spelled, refused}
use Rattle.npf_ctl_arrivals.proofs.trace.read_named.Goals as goal

pub returns-in-Ok-clause-read : goal.returns-in-Ok-clause-read
returns-in-Ok-clause-read c = spelled c.in-Ok.ensures.read

pub returns-in-Err-clause-refused : goal.returns-in-Err-clause-refused
returns-in-Err-clause-refused c = λ known.
    let P : CommandFault → Type 0 = λ fault. ReadsCapture c.args.file.now c.args.bytes.now (Err fault) in
    subst P (sym (c.told.ensures.told known)) (refused c.in-Err.ensures.fault (c.told.ensures.other known))
