use Rattle.std.proofs.Common.{codes}
use Rattle.npf_ctl_query.specs.QueryText.{ordinal_text}
use Rattle.npf_ctl_explain.proofs.TextLemmas.{piece_first}
use Rattle.npf_ctl_explain.proofs.words.write_overridden.Goals as goal

pub returns : goal.returns
returns c = piece_first _ (codes " overridden by ") (ordinal_text c.args.by) c.in_ok-write_text.ensures c.in_ok-write_ordinal.ensures
