use Rattle.npf_shelf.proofs.PositionLemmas.{position-some_before, position-none_before}
use Rattle.npf_table.specs.Line.{is_hash}
use Rattle.std.proofs.Common.{sym}
use Rattle.npf_table.proofs.line.before_comment.Goals as goal

pub returns-in-Some : goal.returns-in-Some
returns-in-Some c = position-some_before is_hash c.args.line.now c.in-Some.at (sym c.in-Some.ensures)

pub returns-in-None : goal.returns-in-None
returns-in-None c = position-none_before is_hash c.args.line.now (sym c.in-None.ensures)
