use Rattle.std.proofs.Common.{◌≡◌, get_or, subst}
use Rattle.npf_ruleset.{specs.RuleAt.IsProgramAt, proofs.ConfigLemmas.has_program}
use Rattle.npf_ruleset.proofs.config.Config.program.Goals as goal

pub returns-clause-describes : goal.returns-clause-describes
returns-clause-describes c =
    let flat = c.index-as_slice-i.result in
    subst (λ rule. IsProgramAt c.args.self.now.model c.args.i rule.program) c.index-as_slice-i.is
    (has_program c.args.self.now c.args.i flat c.requires (subst (λ rules. flat ≡ get_or rules c.args.i flat) c.as_slice.ensures c.index-as_slice-i.is))
