use Rattle.std.proofs.Common.{sym, ap, ◌∙◌}
use Rattle.npf_types.specs.Named.{named}
use Rattle.npf_expand.specs.Procedure.{log_name}
use Rattle.npf_expand.proofs.procedure.log_name.Goals as goal

pub returns-in-Word : goal.returns-in-Word
returns-in-Word c = c.name_of.ensures ∙ ap named c.as_slice.ensures ∙ ap log_name (sym c.in-Word.is)

pub returns-in-Str : goal.returns-in-Str
returns-in-Str c = c.name_of-in-Str.ensures ∙ ap named c.as_slice-in-Str.ensures ∙ ap log_name (sym c.in-Str.is)
