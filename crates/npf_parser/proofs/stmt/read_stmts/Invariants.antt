use Rattle.std.proofs.Common.{◌≡◌, length}
use Rattle.npf_phrase.{specs.Grammar.meaning, proofs.ListLemmas.extend}
use Rattle.npf_parser.specs.Stmt.{stmts}
use Rattle.npf_parser.proofs.stmt.read_stmts.Given as goal

abbrev pub invariant-stmts : goal.invariant-stmts
invariant-stmts l = (meaning stmts).read l.fn.tokens ≡ extend l.stmts.items ((meaning stmts).read l.rest)

abbrev pub decreases-stmts : goal.decreases-stmts
decreases-stmts l = length l.rest
