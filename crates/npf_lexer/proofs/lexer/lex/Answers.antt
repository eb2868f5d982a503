use Rattle.std.proofs.Common.{◌≡◌, ◌-◌, length, subst, sym, arith}
use Rattle.npf_lexer.specs.Front.{Begins, AdvancesWithin, Advances, Fits}
use Rattle.npf_lexer.proofs.LexerLemmas.{IsLexedSoFar, so_far_skips, so_far_finds, so_far_ends, so_far_fails}
use Rattle.npf_lexer.proofs.lexer.lex.Goals as goal

pub returns-in-End-clause-tokens : goal.returns-in-End-clause-tokens
returns-in-End-clause-tokens c =
    let ends = so_far_ends c.args.text.now c.tokens.tokens.items c.tokens.place c.tokens.rest.now c.tokens.invariant.so_far
    (subst (Begins c.tokens.place c.tokens.rest.now) c.in-End.is c.in_ok-front_at.ensures.begins) in
    rw (c.in_ok-push-in-End.ensures.items, c.end_token.ensures) ends

pub tokens-preserved-in-Skipped : goal.tokens-preserved-in-Skipped
tokens-preserved-in-Skipped c =
    let step : Advances c.in-Skipped.len c.in-Skipped.next (length c.tokens.rest.now) = subst (AdvancesWithin (length c.tokens.rest.now)) c.in-Skipped.is c.in_ok-front_at.ensures.step in
    let begins = subst (Begins c.tokens.place c.tokens.rest.now) c.in-Skipped.is c.in_ok-front_at.ensures.begins in
    let left : length c.split_at.result.1.now ≡ length c.tokens.rest.now - c.in-Skipped.len = omega (arith, c.split_at.ensures.back_len) in
    record {
      so_far = subst (IsLexedSoFar c.args.text.now c.tokens.tokens.items c.in-Skipped.next) (sym c.split_at.ensures.back)
          (so_far_skips c.args.text.now c.tokens.tokens.items c.tokens.place c.tokens.rest.now c.in-Skipped.len c.in-Skipped.next c.tokens.invariant.so_far begins);
      fits = subst (Fits c.in-Skipped.next) (sym left) step.counted;
    }

pub tokens-preserved : goal.tokens-preserved
tokens-preserved c =
    let step : Advances c.in-Found.len c.in-Found.next (length c.tokens.rest.now) = subst (AdvancesWithin (length c.tokens.rest.now)) c.in-Found.is c.in_ok-front_at.ensures.step in
    let begins = subst (Begins c.tokens.place c.tokens.rest.now) c.in-Found.is c.in_ok-front_at.ensures.begins in
    let left : length c.split_at-in-Found.result.1.now ≡ length c.tokens.rest.now - c.in-Found.len = omega (arith, c.split_at-in-Found.ensures.back_len) in
    let found = so_far_finds c.args.text.now c.tokens.tokens.items c.tokens.place c.tokens.rest.now c.in-Found.token c.in-Found.len c.in-Found.next c.tokens.invariant.so_far begins in
    record {
      so_far = rw (c.in_ok-push-in-Found.ensures.items, c.split_at-in-Found.ensures.back) found;
      fits = subst (Fits c.in-Found.next) (sym left) step.counted;
    }

pub returns-in-Faulty-clause-fault : goal.returns-in-Faulty-clause-fault
returns-in-Faulty-clause-fault c =
    so_far_fails c.args.text.now c.tokens.tokens.items c.tokens.place c.tokens.rest.now c.in-Faulty.fault c.tokens.invariant.so_far
    (subst (Begins c.tokens.place c.tokens.rest.now) c.in-Faulty.is c.in_ok-front_at.ensures.begins)
