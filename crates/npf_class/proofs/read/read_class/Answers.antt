use Rattle.std.proofs.Common.{◌∙◌}
use Rattle.npf_class.proofs.ClassLemmas.{class_read, class_refused}
use Rattle.npf_class.proofs.read.read_class.Goals as goal

pub returns-in-Ok-clause-ok : goal.returns-in-Ok-clause-ok
returns-in-Ok-clause-ok c =
    class_read c.args.ifaces.now.list c.args.model.now c.args.text.now c.as_slice.result.now (c.as_slice.ensures.value ∙ c.in_ok-whole.ensures) c.in-Ok.rule c.in-Ok.ensures.ok

pub returns-clause-err : goal.returns-clause-err
returns-clause-err c =
    rw c.own_fault.ensures
    (class_refused c.args.ifaces.now.list c.args.model.now c.args.text.now c.as_slice.result.now (c.as_slice.ensures.value ∙ c.in_ok-whole.ensures) c.in-Err.fault c.in-Err.ensures.err)
