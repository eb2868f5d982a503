use Rattle.std.proofs.{Common.{◌≡◌, ℕ, Vec, Global, length, rules, ap}, lemmas.{List.Elements.All-push, Result.err_from_is_err_and}}
use Rattle.npf_types.specs.{declared.{direction.Dir.Dir, interface.IfId.IfId}, Stages.stops}
use Rattle.npf_pcap.specs.declared.extent.Extents.{Extents}
use Rattle.npf_ctl_arrivals.specs.{declared.trace.Trace.Trace, Traces.IsApart}
use Rattle.npf_ctl_arrivals.proofs.GatherLemmas.{all_gathered, counted_with, crossing_still, packets_of_pushed, too_many, within_still}
use Rattle.npf_ctl_arrivals.proofs.arrivals.Arrivals.add.Goals as goal

abbrev trace_of : Vec ℕ Global → Extents → IfId → Dir → Trace
trace_of bytes capture ifid dir = record { bytes = bytes; extents = capture.extents; tap = record { link = capture.link; ifid = ifid; dir = dir } }

pub returns-in_err-link-clause-refused : goal.returns-in_err-link-clause-refused
returns-in_err-link-clause-refused c =
    let p = err_from_is_err_and c.from_residual.result c.from_residual.ensures.1 in
    rw (p.1, p.2) (λ known. stops (rw c.as_slice.ensures.value at (c.in_err-link.ensures.refused known)))

pub returns-in_err-within_run-clause-refused : goal.returns-in_err-within_run-clause-refused
returns-in_err-within_run-clause-refused c =
    let before = c.args.self.now in
    let one = trace_of c.args.bytes c.in_ok-link.field-0 c.args.ifid c.args.dir in
    let sized : c.len.result ≡ length c.args.bytes.items = search rules in
    let p = err_from_is_err_and c.from_residual-in_err-within_run.result c.from_residual-in_err-within_run.ensures.1 in
    rw (p.1, p.2) (λ known. too_many before one c.args.file.now (rw c.as_slice.ensures.value at c.in_ok-link.ensures.read) c.in_err-within_run.field-0.0
    (rw (sized, counted_with before one (ap length c.as_slice-2.ensures)) at c.in_err-within_run.ensures.stage))

pub invariant_of-self-2-clause-counted : goal.invariant_of-self-2-clause-counted
invariant_of-self-2-clause-counted c =
    let before = c.args.self.now in
    let one = trace_of c.args.bytes c.in_ok-link.field-0 c.args.ifid c.args.dir in
    rw (packets_of_pushed before.traces.items one c.push.new.self.items c.in_ok-push.ensures.items) (counted_with before one (ap length c.as_slice-2.ensures))

pub invariant_of-self-2-clause-apart : goal.invariant_of-self-2-clause-apart
invariant_of-self-2-clause-apart c =
    let one = trace_of c.args.bytes c.in_ok-link.field-0 c.args.ifid c.args.dir in
    rw c.in_ok-push.ensures.items (All-push IsApart c.args.self.now.traces.items one c.args.self.now.apart (rw c.as_slice.ensures.value at c.in_ok-link.ensures.apart))

pub returns-clause-gathers : goal.returns-clause-gathers
returns-clause-gathers c =
    let before = c.args.self.now in
    let one = trace_of c.args.bytes c.in_ok-link.field-0 c.args.ifid c.args.dir in
    let sized : c.len.result ≡ length c.args.bytes.items = search rules in
    rw (sized, packets_of_pushed before.traces.items one c.push.new.self.items c.in_ok-push.ensures.items)
    (all_gathered before one c.args.file.now (rw c.as_slice.ensures.value at c.in_ok-link.ensures.read)
    (rw (sized, counted_with before one (ap length c.as_slice-2.ensures)) at c.in_ok-within_run.ensures.stage))

pub returns-clause-within : goal.returns-clause-within
returns-clause-within c =
    let before = c.args.self.now in
    let one = trace_of c.args.bytes c.in_ok-link.field-0 c.args.ifid c.args.dir in
    let sized : c.len.result ≡ length c.args.bytes.items = search rules in
    rw (sized, packets_of_pushed before.traces.items one c.push.new.self.items c.in_ok-push.ensures.items)
    (within_still before one c.requires.within c.in_ok-link.ensures.short c.in_ok-link.ensures.timely (rw sized at c.in_ok-within_run.ensures.bytes)
    (rw (counted_with before one (ap length c.as_slice-2.ensures)) at c.in_ok-within_run.ensures.packets))

pub returns-clause-crosses : goal.returns-clause-crosses
returns-clause-crosses c =
    let one = trace_of c.args.bytes c.in_ok-link.field-0 c.args.ifid c.args.dir in
    rw (packets_of_pushed c.args.self.now.traces.items one c.push.new.self.items c.in_ok-push.ensures.items) (crossing_still c.args.self.now one)
