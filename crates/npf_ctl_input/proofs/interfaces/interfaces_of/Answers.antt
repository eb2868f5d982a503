use Rattle.npf_ctl_input.specs.Interfaces.{named, refused}
use Rattle.npf_ctl_input.proofs.interfaces.interfaces_of.Goals as goal

pub returns-in-Ok : goal.returns-in-Ok
returns-in-Ok c = named c.in-Ok.ensures.ok

pub returns-in_ok-text_of-in-Err-Fault : goal.returns-in_ok-text_of-in-Err-Fault
returns-in_ok-text_of-in-Err-Fault c = rw c.in_ok-text_of-in-Err-Fault.ensures (refused (rw c.in-Err-Fault.field-0-is at c.in-Err-Fault.ensures.err))
