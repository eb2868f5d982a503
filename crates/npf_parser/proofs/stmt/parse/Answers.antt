use Rattle.npf_parser.{specs.Stmt.file, proofs.{FineLemmas.{file_fine, file_ends}, LineLemmas.file_advances}}
use Rattle.npf_parser.proofs.ParseLemmas.{one_thing, not_both, means, halts, refused, complete, exactly, stops}
use Rattle.npf_parser.proofs.stmt.parse.Goals as goal

pub returns-in-Ok-clause-tree : goal.returns-in-Ok-clause-tree
returns-in-Ok-clause-tree c = means file file_advances c.args.tokens.now c.in-Ok.tree c.in-Ok.field-0-1.now c.in-Ok.ensures

pub returns-in-Ok-clause-complete : goal.returns-in-Ok-clause-complete
returns-in-Ok-clause-complete c = λ other is. one_thing file file_advances c.args.tokens.now c.in-Ok.tree other
    (means file file_advances c.args.tokens.now c.in-Ok.tree c.in-Ok.field-0-1.now c.in-Ok.ensures) is

pub returns-in-Ok-clause-exactly : goal.returns-in-Ok-clause-exactly
returns-in-Ok-clause-exactly c = λ span there. not_both file file_advances c.args.tokens.now span (
  c.in-Ok.tree,
  means file file_advances c.args.tokens.now c.in-Ok.tree c.in-Ok.field-0-1.now c.in-Ok.ensures,
) there

pub returns-in-Err-clause-refused : goal.returns-in-Err-clause-refused
returns-in-Err-clause-refused c = rw c.refused_by.ensures (refused file file_advances c.args.tokens.now c.in-Err.stop c.in-Err.ensures)

pub returns-in-Err-clause-stops : goal.returns-in-Err-clause-stops
returns-in-Err-clause-stops c = rw c.refused_by.ensures (stops file file_advances file_fine file_ends c.args.tokens.now c.in-Err.stop c.in-Err.ensures)

pub returns-in-Err-clause-halts : goal.returns-in-Err-clause-halts
returns-in-Err-clause-halts c = rw c.refused_by.ensures (halts file file_advances c.args.tokens.now c.in-Err.stop c.in-Err.ensures)

pub returns-in-Err-clause-complete : goal.returns-in-Err-clause-complete
returns-in-Err-clause-complete c = λ other is. rw c.refused_by.ensures (complete file file_advances c.args.tokens.now c.in-Err.stop c.in-Err.ensures other is)

pub returns-in-Err-clause-exactly : goal.returns-in-Err-clause-exactly
returns-in-Err-clause-exactly c = λ span there. rw c.refused_by.ensures (exactly file file_advances c.args.tokens.now c.in-Err.stop c.in-Err.ensures span there)
