use Rattle.std.proofs.Common.{is_some, ap, ◌∙◌}
use Rattle.npf_ctl_query.proofs.SaysLemmas.{block_more, pass_more}
use Rattle.npf_ctl_query.proofs.says.seen.Goals as goal

pub loop-place-preserved : goal.loop-place-preserved
loop-place-preserved c =
    let model = c.args.config.now.model in
    let rules = c.args.answer.now.rules.items in
    let place = c.loop-place.place in
    let told = c.is_some-found.ensures ∙ ap is_some c.rule.ensures in
    record {
      passed =
          c.passes_too-passed.ensures
          ∙ pass_more model rules place c.loop-place.passed c.is_some-found.result c.place_passes-passes.result told c.place_passes-passes.ensures
          c.loop-place.invariant.passed;
      blocked =
          c.blocks_too-blocked.ensures
          ∙ block_more model rules place c.loop-place.blocked c.is_some-found.result c.place_passes-passes.result told c.place_passes-passes.ensures
          c.loop-place.invariant.blocked;
    }
