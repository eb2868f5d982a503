use Rattle.std.proofs.Common.{◌∙◌, sym, ap}
use Rattle.std.specs.Prelude.{◌==◌}
use Rattle.npf_ruleset.specs.Configuration.{configuration}
use Rattle.npf_ctl_compare.proofs.TextLemmas.{lines_counted}
use Rattle.npf_ctl_compare.proofs.answer.compare_text.Goals as goal

pub returns-clause-ok : goal.returns-clause-ok
returns-clause-ok c =
    let differences = c.in_ok-differences.differences in
    record {
      differences = differences;
      are = c.in_ok-differences.ensures.ok;
      few = c.in_ok-differences.ensures.few;
      told = c.in_ok-text.ensures;
      says =
          ap (λ n. n == 0)
          (c.lines-same.ensures ∙ sym (lines_counted (configuration c.args.old.now).model (configuration c.args.new.now).model c.args.ifaces.now differences));
    }
