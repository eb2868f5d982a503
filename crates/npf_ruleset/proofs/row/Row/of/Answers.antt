use Rattle.std.proofs.Common.{refl, subst}
use Rattle.npf_ruleset.{specs.Row.HasProtocols, proofs.RowLemmas.row_of}
use Rattle.npf_ruleset.proofs.row.Row.of.Goals as goal

pub returns : goal.returns
returns c =
    row_of c.args.rule.now (record { from = c.of.result; to = c.of-2.result; protocols = c.of-3.result; v6 = c.args.rule.now.v6 })
    (subst (λ protos. HasProtocols protos c.of-3.result) c.as_slice.ensures c.of-3.ensures) refl c.of.ensures c.of-2.ensures
