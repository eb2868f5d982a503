use Rattle.std.proofs.Common.{sym}
use Rattle.npf_saved_file.proofs.LineLemmas.{line_at, no_line}
use Rattle.npf_saved_file.proofs.lines.first_line.Goals as goal

pub returns-in_default : goal.returns-in_default
returns-in_default c = no_line c.args.text.now (sym c.in_default.ensures)

pub returns : goal.returns
returns c = line_at c.args.text.now c.in-Some.at (sym c.in-Some.ensures)
