use Rattle.std.proofs.Common.{length}
use Rattle.npf_lexer.{specs.Front.Fits, proofs.LexerLemmas.IsLexedSoFar}
use Rattle.npf_lexer.proofs.lexer.lex.Given as goal

abbrev pub invariant-tokens : goal.invariant-tokens
invariant-tokens l = record {
  so_far : IsLexedSoFar l.fn.text l.tokens.items l.place l.rest;
  fits : Fits l.place (length l.rest);
}

abbrev pub decreases-tokens : goal.decreases-tokens
decreases-tokens l = length l.rest
