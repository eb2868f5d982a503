use Rattle.std.proofs.Common.{◌≤◌, ℕ, List, length, subst, sym}
use Rattle.npf_types.specs.declared.limits.TheConstants.{MAX_CAPTURE_BYTES}
use Rattle.npf_ctl_prepare.proofs.LineLemmas.{alone_bytes, script_names}
use Rattle.npf_ctl_prepare.proofs.orders.read_orders.Goals as goal

pub returns-in_ok-line_of_capture-in-Alone-clause-fits : goal.returns-in_ok-line_of_capture-in-Alone-clause-fits
returns-in_ok-line_of_capture-in-Alone-clause-fits c =
    let same = alone_bytes c.args.names.tap c.args.names.script.now c.args.bytes.items c.in-Alone.bytes.items (rw c.in-Alone.is at c.in_ok-bytes.ensures.comes) in
    subst (λ (bytes : List ℕ). length bytes ≤ MAX_CAPTURE_BYTES) (sym same) c.requires

pub returns-in-Scripted-clause-text : goal.returns-in-Scripted-clause-text
returns-in-Scripted-clause-text c = script_names c.args.names.tap c.args.names.script.now c.args.bytes.items c.in-Scripted.field-0.lines (rw c.in-Scripted.is at c.in_ok-bytes.ensures.comes)
