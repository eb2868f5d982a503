use Rattle.npf_pcap.proofs.CaptureLemmas.{capture_or_fault, captures_have_no_fault, one_capture, one_fault}
use Rattle.npf_pcap.proofs.laws.capture_law.Goals as goal

pub returns-clause-one : goal.returns-clause-one
returns-clause-one c = one_capture

pub returns-clause-fine : goal.returns-clause-fine
returns-clause-fine c = captures_have_no_fault

pub returns-clause-fault : goal.returns-clause-fault
returns-clause-fault c = one_fault

pub returns-clause-decided : goal.returns-clause-decided
returns-clause-decided c = capture_or_fault
