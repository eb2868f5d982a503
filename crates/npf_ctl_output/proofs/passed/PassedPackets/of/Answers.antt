use Rattle.std.proofs.Common.{refl}
use Rattle.npf_ctl_output.{specs.Capture.written_records, proofs.WrittenLemmas.all_written}
use Rattle.npf_ctl_output.proofs.passed.PassedPackets.of.Goals as goal

pub returns : goal.returns
returns c = λ packets are left.
    let extents = c.args.extents.now in
    let outputs = c.args.outputs.now in
    let outcomes = c.args.outcomes.now in
    (written_records extents outputs outcomes, all_written packets extents outputs outcomes are left, refl)
