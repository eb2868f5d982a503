use Rattle.npf_pcap.proofs.CaptureLemmas.{accepts, refuses}
use Rattle.npf_pcap.proofs.read.read_capture.Goals as goal

pub returns-clause-accepted : goal.returns-clause-accepted
returns-clause-accepted c = accepts c.args.bytes.now c.read_all.result c.read_all.ensures.read c.read_all.ensures.fault

pub returns-clause-refused : goal.returns-clause-refused
returns-clause-refused c = refuses c.args.bytes.now c.read_all.result c.read_all.ensures.read c.read_all.ensures.fault
