use Rattle.std.proofs.Common.{◌≡◌, Err, sym, subst, rules, arith}
use Rattle.npf_phrase.{specs.Grammar.meaning, proofs.ListLemmas.leaves}
use Rattle.npf_parser_values.specs.Answer.{Answers}
use Rattle.npf_parser.{specs.Stmt.{stmt, stmts, ends_stmt}, proofs.LineLemmas.{next_stmt_advances, stmt_advances}}
use Rattle.npf_parser.proofs.BlockLemmas.{block_skips, block_closes, block_goes, block_ends, block_fails}
use Rattle.npf_parser.proofs.stmt.read_stmts.Goals as goal

pub stmts-preserved-in-Some : goal.stmts-preserved-in-Some
unfolding stmts
stmts-preserved-in-Some c = block_skips ends_stmt stmt next_stmt_advances
    ((meaning stmts).read c.args.tokens.now) c.stmts.stmts.items c.stmts.rest.now c.stmts.invariant c.in-Some.next c.if-ends_stmt.ensures c.in-Some.ensures.begins

pub returns-in-None : goal.returns-in-None
unfolding stmts
returns-in-None c = rw c.of_vec.ensures
    (block_closes ends_stmt stmt next_stmt_advances ((meaning stmts).read c.args.tokens.now) c.stmts.stmts.items c.stmts.rest.now c.stmts.invariant c.if-ends_stmt.ensures c.in-None.ensures.begins)

pub returns-in_err-stmt : goal.returns-in_err-stmt
unfolding stmts
returns-in_err-stmt c =
    let same : c.from_residual.result ≡ Err c.in_err-stmt.field-0.0 = search rules in
    subst (Answers ((meaning stmts).read c.args.tokens.now)) (sym same) (block_fails ends_stmt stmt next_stmt_advances
    ((meaning stmts).read c.args.tokens.now) c.stmts.stmts.items c.stmts.rest.now c.stmts.invariant c.in_err-stmt.field-0.0 c.if-ends_stmt.ensures c.in_err-stmt.ensures)

pub stmts-smaller : goal.stmts-smaller
stmts-smaller c =
    let before = leaves stmt stmt_advances c.stmts.rest.now c.in_ok-stmt.stmt c.in_ok-stmt.behind.now c.in_ok-stmt.ensures in
    omega (arith, c.in-Some-behind_separator.ensures.left)

pub stmts-preserved : goal.stmts-preserved
unfolding stmts
stmts-preserved c =
    rw c.in_ok-push.ensures.items (block_goes ends_stmt stmt next_stmt_advances ((meaning stmts).read c.args.tokens.now) c.stmts.stmts.items c.stmts.rest.now
    c.stmts.invariant c.in_ok-stmt.stmt c.in_ok-stmt.behind c.in-Some-behind_separator.next c.if-ends_stmt.ensures c.in_ok-stmt.ensures c.in-Some-behind_separator.ensures.begins)

pub returns-in-None-behind_separator : goal.returns-in-None-behind_separator
unfolding stmts
returns-in-None-behind_separator c =
    rw (c.of_vec-in-None-behind_separator.ensures, c.in_ok-push.ensures.items) (block_ends ends_stmt stmt next_stmt_advances
    ((meaning stmts).read c.args.tokens.now) c.stmts.stmts.items c.stmts.rest.now c.stmts.invariant c.in_ok-stmt.stmt
    c.in_ok-stmt.behind c.if-ends_stmt.ensures c.in_ok-stmt.ensures c.in-None-behind_separator.ensures.begins)
