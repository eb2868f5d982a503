use Rattle.std.proofs.{Common.{◌≡◌, ◌==◌, false, subst, arith}, lemmas.Bool.Decides.nat_tests}
use Rattle.npf_lexer.{specs.Run.ReadsRun, proofs.RunLemmas.run_begins}
use Rattle.npf_lexer.proofs.front.run_or_colon_front.Goals as goal

pub returns-clause-begins : goal.returns-clause-begins
returns-clause-begins c =
    let some : (c.run_len-len.result == 0) ≡ false = grind (arith, nat_tests) in
    run_begins c.args.place c.args.text.now c.run_len-len.result c.in_ok-run.run' c.run_front.result c.run_len-len.ensures.len some
    (subst (λ run. ReadsRun run c.in_ok-run.run') c.split_at.ensures.front c.in_ok-run.ensures) c.run_front.ensures
