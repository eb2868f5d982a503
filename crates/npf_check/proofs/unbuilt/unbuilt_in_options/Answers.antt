use Rattle.std.proofs.Common.{ap, sym, ◌∙◌}
use Rattle.npf_faults.{specs.First.earlier, proofs.FirstLemmas.{each_step, each_end}}
use Rattle.npf_check.specs.Unbuilt.{unbuilt_option}
use Rattle.npf_check.proofs.unbuilt.unbuilt_in_options.Goals as goal

pub loop-option-preserved : goal.loop-option-preserved
loop-option-preserved c =
    each_step unbuilt_option _ c.loop-option.first _ c.args.options.now c.loop-option.option-index _ c.loop-option-test.true c.loop-option.invariant
    (c.earlier-first.ensures ∙ ap (earlier c.loop-option.first) c.unbuilt_option.ensures)

pub returns : goal.returns
returns c = sym (each_end unbuilt_option _ c.loop-option.first c.args.options.now c.loop-option.option-index c.loop-option-test.false c.loop-option.invariant)
