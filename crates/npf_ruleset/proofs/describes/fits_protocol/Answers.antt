use Rattle.std.proofs.Common.{sym, ◌∙◌}
use Rattle.npf_ruleset.proofs.DescribesLemmas.{listed_fits}
use Rattle.npf_ruleset.proofs.describes.fits_protocol.Goals as goal

pub returns-else-is_empty : goal.returns-else-is_empty
returns-else-is_empty c = c.lists_protocol.ensures ∙ listed_fits c.args.protos.now c.args.proto (sym c.is_empty.ensures ∙ c.if-is_empty.false)
